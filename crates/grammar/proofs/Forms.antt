-- From the words of a line to a header, probes or stretches. `token` is what a word says.
use Rattle.std.proofs.Common.{◌≡◌, ℕ, zero, suc, ◌+◌, ◌<◌, ◌≤◌, List, [], ◌∷◌, ◌++◌, map, length, get_or, take, Bool, true, false, Some, None, Option, Decides, sym, refl, ap, ◌∙◌, subst, arith}
use lib.ListN.{length-map}
use Rattle.std.specs.List.{AllByRecursion}
use Rattle.std.specs.Bool.{then_some}
use Rattle.std.proofs.lemmas.Bool.{false≢true}
use Rattle.std.proofs.lemmas.List.{map_push, map_more, get_or-map, take_all, take-map}
use Rattle.grammar.specs.declared.plan.Header.{Header}
use Rattle.grammar.specs.declared.plan.Stretch.{Stretch}
use Rattle.grammar.specs.Lines.{Token, number, turns}
use Rattle.grammar.specs.Plans.{HeaderFits, ProbesFit, turn_count, StretchesFit, header_words, probe_words, stretch_word, stretch_words}
use Rattle.grammar.specs.Scans.{Small, Says, number_of, stretch_of}

pub number_from : (t : Token) (v : ℕ) → number_of t ≡ Some v → t ≡ number v
number_from (number u) v e = let p : u ≡ v = cc in ap number p
number_from (turns p k) v e = absurd (let z : ◌≡◌ {A = ℕ} 0 1 = cc in omega arith)

pub stretch_from : (t : Token) (s : Stretch) → stretch_of t ≡ Some s → t ≡ stretch_word s
stretch_from (number u) s e = absurd (let z : ◌≡◌ {A = ℕ} 0 1 = cc in omega arith)
stretch_from (turns p k) s e = let q : record { party = p; count = k } ≡ s = cc in ap stretch_word q

none_from : {A : Type 0} (a : A) → Some a ≡ None → ⊥
none_from a e = let z : ◌≡◌ {A = ℕ} 0 1 = cc in omega arith

every_at : {A : Type 0} (P : A → Type 0) (xs : List A) (i : ℕ) (d : A) → AllByRecursion P xs → i < length xs → P (get_or xs i d)
every_at P [] i d h l = absurd (omega arith)
every_at P (x ∷ xs) zero d h l = h.0
every_at P (x ∷ xs) (suc i) d h l = every_at P xs i d h.1 (omega arith)

-- what all words of a line are small for
pub header_small : (h : Header) → HeaderFits h → AllByRecursion Small (header_words h)
header_small h f = (omega (arith, f.most_cells), (omega (arith, f.most_workers), (omega (arith, f.low_start), tt)))

each_probe : (ps : List ℕ) → AllByRecursion (λ p. p ≤ 65535) ps → AllByRecursion Small (probe_words ps)
each_probe [] h = tt
each_probe (p ∷ ps) h = (omega (arith, h.0), each_probe ps h.1)

pub probes_small : (ps : List ℕ) → ProbesFit ps → AllByRecursion Small (probe_words ps)
probes_small ps f = each_probe ps f.each

each_stretch : (w : ℕ) (ss : List Stretch) → w ≤ 8 → turn_count ss ≤ 4096 → AllByRecursion (λ s. (s.party ≤ w) × (1 ≤ s.count)) ss →
    AllByRecursion Small (stretch_words ss)
each_stretch w [] l c h = tt
each_stretch w (s ∷ ss) l c h = ((omega (arith, h.0.0), omega arith), each_stretch w ss l (omega arith) h.1)

pub stretches_small : (w : ℕ) → w ≤ 8 → (ss : List Stretch) → StretchesFit w ss → AllByRecursion Small (stretch_words ss)
stretches_small w l ss f = each_stretch w ss l f.in_all f.each

pub same_header : (ts : List Token) (h k : Header) → ts ≡ header_words h → ts ≡ header_words k → h ≡ k
same_header ts h k e f =
    let p : h.cells ≡ k.cells = cc in
    let q : h.workers ≡ k.workers = cc in
    let r : h.start ≡ k.start = cc in
    λ i. record { cells = p i; workers = q i; start = r i }

turn_count_at : (ss : List Stretch) (i : ℕ) (d : Stretch) → i < length ss → turn_count (take i ss) + (get_or ss i d).count ≤ turn_count ss
turn_count_at [] i d h = absurd (omega arith)
turn_count_at (s ∷ ss) zero d h = omega arith
turn_count_at (s ∷ ss) (suc i) d h = omega (arith, turn_count_at ss i d (omega arith))

pub turn_count_push : (ss : List Stretch) (s : Stretch) → turn_count (ss ++ s ∷ []) ≡ turn_count ss + s.count
turn_count_push [] s = omega arith
turn_count_push (u ∷ ss) s = omega (arith, turn_count_push ss s)

-- the counts that words say
abbrev counts : List Token → ℕ
counts [] = 0
counts (number v ∷ ts) = counts ts
counts (turns p k ∷ ts) = k + counts ts

counts_words : (ss : List Stretch) → counts (stretch_words ss) ≡ turn_count ss
counts_words [] = refl
counts_words (s ∷ ss) = ap (λ n. s.count + n) (counts_words ss)

module _ {W : Type 0} (token : W → Token) (ws : List W) where
  pub word_at : (ts : List Token) (i : ℕ) (d : W) → map token ws ≡ ts → i < length ws → token (get_or ws i d) ≡ get_or ts i (number 0)
  word_at ts i d e h = sym (get_or-map token ws i d (number 0) h) ∙ ap (λ l. get_or l i (number 0)) e

  -- words that are those of a list
  module _ {A : Type 0} (f : A → Token) where
    pub as_many : (xs : List A) → map token ws ≡ map f xs → length ws ≡ length xs
    as_many xs e = sym (length-map ws token) ∙ ap length e ∙ length-map xs f

    said_at : (xs : List A) (i : ℕ) (d : W) (x : A) → map token ws ≡ map f xs → i < length ws → token (get_or ws i d) ≡ f (get_or xs i x)
    said_at xs i d x e h = word_at (map f xs) i d e h ∙ get_or-map f xs i x (number 0) (omega (arith, as_many xs e))

    pub one_more : (i : ℕ) (d : W) (xs ys : List A) (x : A) → map token (take i ws) ≡ map f xs → i < length ws → token (get_or ws i d) ≡ f x →
        ys ≡ xs ++ x ∷ [] → map token (take (i + 1) ws) ≡ map f ys
    one_more i d xs ys x e h here pushed =
        map_more token ws i d h ∙ (λ j. e j ++ here j ∷ []) ∙ sym (map_push f xs x) ∙ ap (map f) (sym pushed)

    pub in_all : (i : ℕ) (xs : List A) → map token (take i ws) ≡ map f xs → length ws ≤ i → map token ws ≡ map f xs
    in_all i xs e h = ap (map token) (sym (take_all i ws h)) ∙ e

  -- line 1
  pub three_words : (d : W) (a b c : ℕ) → length ws ≡ 3 → token (get_or ws 0 d) ≡ number a → token (get_or ws 1 d) ≡ number b →
      token (get_or ws 2 d) ≡ number c → map token ws ≡ number a ∷ number b ∷ number c ∷ []
  three_words d a b c h p q r = go ws h p q r
    where
      go : (vs : List W) → length vs ≡ 3 → token (get_or vs 0 d) ≡ number a → token (get_or vs 1 d) ≡ number b → token (get_or vs 2 d) ≡ number c →
          map token vs ≡ number a ∷ number b ∷ number c ∷ []
      go [] h p q r = absurd (omega arith)
      go (x ∷ []) h p q r = absurd (omega arith)
      go (x ∷ y ∷ []) h p q r = absurd (omega arith)
      go (x ∷ y ∷ z ∷ []) h p q r = λ i. p i ∷ q i ∷ r i ∷ []
      go (x ∷ y ∷ z ∷ u ∷ vs) h p q r = absurd (omega arith)

  pub header_or_none : (h : Header) → map token ws ≡ header_words h → (fits : Bool) → Decides fits (HeaderFits h) → (r : Option Header) → r ≡ then_some fits h →
      Says HeaderFits header_words (λ h. h) (map token ws) r
  header_or_none h e true d r is = subst (Says HeaderFits header_words (λ h. h) (map token ws)) (sym is) (d.0 refl, e)
  header_or_none h e false d r is =
      let none : Says {B = Header} HeaderFits header_words (λ h. h) (map token ws) None =
      λ a f g. false≢true (d.1 (subst HeaderFits (same_header (map token ws) a h g e) f)) in
      subst (Says HeaderFits header_words (λ h. h) (map token ws)) (sym is) none

  -- lines 2 and 3
  module _ (i : ℕ) (d : W) (h : i < length ws) where
    pub not_a_probe : number_of (token (get_or ws i d)) ≡ None → (a : List ℕ) → ProbesFit a → map token ws ≡ probe_words a → ⊥
    not_a_probe n a f e = none_from (get_or a i 0) (sym (ap number_of (said_at number a i d 0 e h)) ∙ n)

    pub probe_high : (v : ℕ) → number_of (token (get_or ws i d)) ≡ Some v → 65535 < v → (a : List ℕ) → ProbesFit a →
        map token ws ≡ probe_words a → ⊥
    probe_high v n l a f e =
        let s : Some v ≡ Some (get_or a i 0) = sym n ∙ ap number_of (said_at number a i d 0 e h) in
        let p : v ≡ get_or a i 0 = cc in
        omega (arith, every_at (λ p. p ≤ 65535) a i 0 f.each (omega (arith, as_many number a e)))

    none : Stretch
    none = record { party = 0; count = 0 }

    pub not_a_stretch : (w : ℕ) → stretch_of (token (get_or ws i d)) ≡ None → (a : List Stretch) → StretchesFit w a →
        map token ws ≡ stretch_words a → ⊥
    not_a_stretch w n a f e = none_from (get_or a i none) (sym (ap stretch_of (said_at stretch_word a i d none e h)) ∙ n)

    -- a stretch that does not fit, after those of xs, with room for so many turns
    pub stretch_unfit : (w : ℕ) (s : Stretch) (xs : List Stretch) (room : ℕ) → stretch_of (token (get_or ws i d)) ≡ Some s →
        map token (take i ws) ≡ stretch_words xs → turn_count xs + room ≡ 4096 →
        ((s.party ≤ w) × (1 ≤ s.count) × (s.count ≤ room) → ⊥) → (a : List Stretch) → StretchesFit w a →
        map token ws ≡ stretch_words a → ⊥
    stretch_unfit w s xs room n front sum bad a f e =
        let o : Some s ≡ Some (get_or a i none) = sym n ∙ ap stretch_of (said_at stretch_word a i d none e h) in
        let p : s ≡ get_or a i none = cc in
        let l : i < length a = omega (arith, as_many stretch_word a e) in
        let each = every_at (λ s. (s.party ≤ w) × (1 ≤ s.count)) a i none f.each l in
        let same : turn_count xs ≡ turn_count (take i a) = sym (counts_words xs) ∙ ap counts (sym front ∙ sym (take-map token i ws) ∙ ap (take i) e ∙ take-map stretch_word i a) ∙ counts_words (take i a) in
        let pc = ap (λ (s : Stretch). s.count) p in
        let pp = ap (λ (s : Stretch). s.party) p in
        bad (omega (arith, each.0), omega (arith, each.1), omega (arith, turn_count_at a i none l, f.in_all))
