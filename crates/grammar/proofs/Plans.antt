-- A text has one reading, and how the lines that were read tell it.
use Rattle.std.proofs.Common.{◌≡◌, ℕ, zero, suc, ◌-◌, ◌<◌, ◌≤◌, List, [], ◌∷◌, ◌++◌, map, length, sym, refl, ap, ◌∙◌, subst, ⊎_elim, append_assoc, append-nil, arith}
use Rattle.std.proofs.lemmas.List.{nil_from_length}
use Rattle.std.proofs.lemmas.Bool.{cases_lt}
use Rattle.grammar.specs.declared.plan.Header.{Header}
use Rattle.grammar.specs.declared.plan.Stretch.{Stretch}
use Rattle.grammar.specs.Lines.{Token, number, line_text}
use Rattle.grammar.specs.Plans.{PlanModel, HeaderFits, ProbesFit, StretchesFit, header_words, probe_words, stretch_word, stretch_words, plan_text, InForm, GoodLines, none, one, two, three, all, FirstBad, OneReading}
use Rattle.grammar.specs.Scans.{NoLineOf}
use Rattle.grammar.proofs.Forms.{same_header, header_small, probes_small, stretches_small}
use Rattle.grammar.proofs.Lines.{one_line}

-- fewer good lines
fewer : (text : List ℕ) (n : ℕ) → GoodLines text n → GoodLines text (n - 1)
fewer text n none = none
fewer text n (one h rest hf e) = none
fewer text n (two h ps rest hf pf e) = one h (line_text (probe_words ps) ++ rest) hf e
fewer text n (three p front rest f e) =
    two p.header p.probes (line_text (stretch_words p.stretches) ++ rest) f.header f.probes
    (e ∙ ap (λ l. l ++ rest) f.rendered ∙ append_assoc (line_text (header_words p.header)) _ rest ∙ ap (λ l. line_text (header_words p.header) ++ l) (append_assoc (line_text (probe_words p.probes)) _ rest))
fewer text n (all p f) = three p text [] f (sym (append-nil text))

down : (text : List ℕ) (d n : ℕ) → GoodLines text n → GoodLines text (n - d)
down text zero n g = subst (GoodLines text) (omega arith) g
down text (suc d) n g = let e : (n - d) - 1 ≡ n - suc d = omega arith in subst (GoodLines text) e (fewer text (n - d) (down text d n g))

up_to : (text : List ℕ) (k n : ℕ) → k ≤ n → GoodLines text n → GoodLines text k
up_to text k n h g = let e : n - (n - k) ≡ k = omega arith in subst (GoodLines text) e (down text (n - k) n g)

not_after : (text : List ℕ) (k l : ℕ) → FirstBad text k → FirstBad text l → l ≤ k
not_after text k l a b = ⊎_elim (λ h. absurd (a.here (up_to text k (l - 1) (omega arith) b.before))) (λ h. h) (cases_lt k l)

one_bad : (text : List ℕ) (k l : ℕ) → FirstBad text k → FirstBad text l → k ≡ l
one_bad text k l a b = omega (arith, not_after text k l a b, not_after text l k b a)

-- what the words of a list say is the list
same_map : {A : Type 0} (f : A → Token) → ((a b : A) → f a ≡ f b → a ≡ b) → (xs ys : List A) → map f xs ≡ map f ys → xs ≡ ys
same_map f inj [] [] e = refl
same_map f inj [] (y ∷ ys) e = absurd (let n = ap length e in omega arith)
same_map f inj (x ∷ xs) [] e = absurd (let n = ap length e in omega arith)
same_map f inj (x ∷ xs) (y ∷ ys) e =
    let p : f x ≡ f y = cc in
    let q : map f xs ≡ map f ys = cc in
    λ i. inj x y p i ∷ same_map f inj xs ys q i

same_number : (a b : ℕ) → number a ≡ number b → a ≡ b
same_number a b e = cc

same_stretch : (a b : Stretch) → stretch_word a ≡ stretch_word b → a ≡ b
same_stretch a b e =
    let p : a.party ≡ b.party = cc in
    let q : a.count ≡ b.count = cc in
    λ i. record { party = p i; count = q i }

one_header : (h k : Header) (x y : List ℕ) → HeaderFits h → HeaderFits k → line_text (header_words h) ++ x ≡ line_text (header_words k) ++ y →
    (h ≡ k) × (x ≡ y)
one_header h k x y f g e =
    let o = one_line (header_words h) (header_words k) x y (header_small h f) (header_small k g) e in
    (same_header (header_words h) h k refl o.0, o.1)

one_probes : (ps qs : List ℕ) (x y : List ℕ) → ProbesFit ps → ProbesFit qs → line_text (probe_words ps) ++ x ≡ line_text (probe_words qs) ++ y →
    (ps ≡ qs) × (x ≡ y)
one_probes ps qs x y f g e =
    let o = one_line (probe_words ps) (probe_words qs) x y (probes_small ps f) (probes_small qs g) e in
    (same_map number same_number ps qs o.0, o.1)

one_stretches : (w : ℕ) (ss ts : List Stretch) (x y : List ℕ) → w ≤ 8 → StretchesFit w ss → StretchesFit w ts →
    line_text (stretch_words ss) ++ x ≡ line_text (stretch_words ts) ++ y → (ss ≡ ts) × (x ≡ y)
one_stretches w ss ts x y l f g e =
    let o = one_line (stretch_words ss) (stretch_words ts) x y (stretches_small w l ss f) (stretches_small w l ts g) e in
    (same_map stretch_word same_stretch ss ts o.0, o.1)

-- a plan before rest, line by line
spread : (p : PlanModel) (rest : List ℕ) → plan_text p ++ rest ≡ line_text (header_words p.header) ++ (line_text (probe_words p.probes) ++ (line_text (stretch_words p.stretches) ++ rest))
spread p rest =
    append_assoc (line_text (header_words p.header)) (line_text (probe_words p.probes) ++ line_text (stretch_words p.stretches)) rest
    ∙ ap (λ l. line_text (header_words p.header) ++ l) (append_assoc (line_text (probe_words p.probes)) (line_text (stretch_words p.stretches)) rest)

abbrev plan_by : Header → List ℕ → List Stretch → PlanModel
plan_by h ps ss = record { header = h; probes = ps; stretches = ss }

in_its_text : (text : List ℕ) (p : PlanModel) → InForm text p → InForm (plan_text p) p
in_its_text text p f = record { header = f.header; probes = f.probes; stretches = f.stretches; rendered = refl }

-- the lines that were read, one after the other
module _ (text : List ℕ) (h : Header) (r₁ : List ℕ) (hf : HeaderFits h) (e₁ : text ≡ line_text (header_words h) ++ r₁) where
  -- a good first line is this one
  same_first : (k : Header) (rest : List ℕ) → HeaderFits k → text ≡ line_text (header_words k) ++ rest → (h ≡ k) × (r₁ ≡ rest)
  same_first k rest kf e = one_header h k r₁ rest hf kf (sym e₁ ∙ e)

  no_two : NoLineOf ProbesFit probe_words r₁ → (n : ℕ) → n ≡ 2 → GoodLines text n → ⊥
  no_two m n z none = omega arith
  no_two m n z (one k rest kf e) = omega arith
  no_two m n z (two k ps rest kf pf e) = m ps rest pf (same_first k (line_text (probe_words ps) ++ rest) kf e).1
  no_two m n z (three p front rest f e) = omega arith
  no_two m n z (all p f) = omega arith

  pub bad_second : NoLineOf ProbesFit probe_words r₁ → FirstBad text 2
  bad_second m = record { most = omega arith; before = one h r₁ hf e₁; here = no_two m 2 refl }

  module _ (ps r₂ : List ℕ) (pf : ProbesFit ps) (e₂ : r₁ ≡ line_text (probe_words ps) ++ r₂) where
    both : text ≡ line_text (header_words h) ++ (line_text (probe_words ps) ++ r₂)
    both = e₁ ∙ ap (λ l. line_text (header_words h) ++ l) e₂

    same_third : (p : PlanModel) (rest : List ℕ) → InForm (plan_text p) p → text ≡ plan_text p ++ rest →
        (h ≡ p.header) × (ps ≡ p.probes) × (r₂ ≡ line_text (stretch_words p.stretches) ++ rest)
    same_third p rest f e =
        let a = same_first p.header _ f.header (e ∙ spread p rest) in
        let b = one_probes ps p.probes r₂ _ pf f.probes (sym e₂ ∙ a.1) in
        (a.0, b.0, b.1)

    workers_of : (p : PlanModel) → InForm (plan_text p) p → h ≡ p.header → StretchesFit h.workers p.stretches
    workers_of p f e = subst (λ (x : Header). StretchesFit x.workers p.stretches) (sym e) f.stretches

    no_three : NoLineOf (StretchesFit h.workers) stretch_words r₂ → (n : ℕ) → n ≡ 3 → GoodLines text n → ⊥
    no_three m n z none = omega arith
    no_three m n z (one k rest kf e) = omega arith
    no_three m n z (two k qs rest kf qf e) = omega arith
    no_three m n z (three p front rest f e) =
        let g = in_its_text front p f in
        let s = same_third p rest g (e ∙ ap (λ l. l ++ rest) f.rendered) in
        m p.stretches rest (workers_of p g s.0) s.2
    no_three m n z (all p f) = omega arith

    pub bad_third : NoLineOf (StretchesFit h.workers) stretch_words r₂ → FirstBad text 3
    bad_third m = record { most = omega arith; before = two h ps r₂ hf pf both; here = no_three m 3 refl }

    module _ (ss : List Stretch) (r₃ : List ℕ) (sf : StretchesFit h.workers ss) (e₃ : r₂ ≡ line_text (stretch_words ss) ++ r₃) where
      all_lines : text ≡ plan_text (plan_by h ps ss) ++ r₃
      all_lines = both ∙ ap (λ l. line_text (header_words h) ++ (line_text (probe_words ps) ++ l)) e₃ ∙ sym (spread (plan_by h ps ss) r₃)

      same_plan : (p : PlanModel) (rest : List ℕ) → InForm (plan_text p) p → text ≡ plan_text p ++ rest → (plan_by h ps ss ≡ p) × (r₃ ≡ rest)
      same_plan p rest f e =
          let a = same_third p rest f e in
          let b = one_stretches h.workers ss p.stretches r₃ rest hf.most_workers sf (workers_of p f a.0) (sym e₃ ∙ a.2) in
          ((λ i. plan_by (a.0 i) (a.1 i) (b.0 i)), b.1)

      no_four : 0 < length r₃ → (n : ℕ) → n ≡ 4 → GoodLines text n → ⊥
      no_four m n z none = omega arith
      no_four m n z (one k rest kf e) = omega arith
      no_four m n z (two k qs rest kf qf e) = omega arith
      no_four m n z (three p front rest f e) = omega arith
      no_four m n z (all p f) =
          omega (arith, m, ap length (same_plan p [] (in_its_text text p f) (f.rendered ∙ sym (append-nil (plan_text p)))).1)

      pub bad_fourth : 0 < length r₃ → FirstBad text 4
      bad_fourth m = record {
        most = omega arith;
        before = three (plan_by h ps ss) (plan_text (plan_by h ps ss)) r₃ (record { header = hf; probes = pf; stretches = sf; rendered = refl }) all_lines;
        here = no_four m 4 refl;
      }

      pub whole_text : length r₃ ≡ 0 → InForm text (plan_by h ps ss)
      whole_text z = record {
        header = hf;
        probes = pf;
        stretches = sf;
        rendered = all_lines ∙ ap (λ l. plan_text (plan_by h ps ss) ++ l) (nil_from_length r₃ z) ∙ append-nil (plan_text (plan_by h ps ss));
      }

no_one : (text : List ℕ) → NoLineOf HeaderFits header_words text → (n : ℕ) → n ≡ 1 → GoodLines text n → ⊥
no_one text m n z none = omega arith
no_one text m n z (one k rest kf e) = m k rest kf e
no_one text m n z (two k qs rest kf qf e) = omega arith
no_one text m n z (three p front rest f e) = omega arith
no_one text m n z (all p f) = omega arith

pub bad_first : (text : List ℕ) → NoLineOf HeaderFits header_words text → FirstBad text 1
bad_first text m = record { most = omega arith; before = none; here = no_one text m 1 refl }

one_plan : (text : List ℕ) (p q : PlanModel) → InForm text p → InForm text q → p ≡ q
one_plan text p q f g =
    (same_plan text p.header (line_text (probe_words p.probes) ++ (line_text (stretch_words p.stretches) ++ [])) f.header (at_end p f) p.probes (line_text (stretch_words p.stretches) ++ []) f.probes refl p.stretches [] f.stretches refl q []
    (in_its_text text q g) (g.rendered ∙ sym (append-nil (plan_text q)))).0
  where
    at_end : (p : PlanModel) → InForm text p → text ≡ line_text (header_words p.header) ++ (line_text (probe_words p.probes) ++ (line_text (stretch_words p.stretches) ++ []))
    at_end p f = f.rendered ∙ sym (append-nil (plan_text p)) ∙ spread p []

pub one_reading : (text : List ℕ) → OneReading text
one_reading text = record {
  plan = one_plan text;
  line = one_bad text;
  either = λ p k f b. b.here (up_to text k 4 b.most (all p f));
}
