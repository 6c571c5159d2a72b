-- A line at the front of a text can be read in one way.
use Rattle.std.proofs.Common.{◌≡◌, ℕ, ◌≤◌, List, [], ◌∷◌, ◌++◌, sym, refl, ap, ◌∙◌, subst, append_assoc, arith}
use Rattle.std.specs.List.{AllByRecursion}
use Rattle.grammar.specs.Lines.{Token, number, turns, token_text, rest_text, line_text}
use Rattle.grammar.specs.Scans.{NextIs, Small, Ended, NoWord, NoLine}
use Rattle.grammar.proofs.Tokens.{one_token, not_first}

-- a word ends before a space or a line feed
ended_before : (b : ℕ) (t : Token) (rest : List ℕ) → b ≤ 32 → Ended t (b ∷ rest)
ended_before b (number v) rest h = ((λ p q. omega arith), (λ e. omega arith))
ended_before b (turns p k) rest h = λ p q. omega arith

pub ended_rest : (t : Token) (ts : List Token) (rest : List ℕ) → Ended t (rest_text ts ++ rest)
ended_rest t [] rest = ended_before 10 t rest (omega arith)
ended_rest t (u ∷ ts) rest = ended_before 32 t ((token_text u ++ rest_text ts) ++ rest) (omega arith)

one_rest : (ss ts : List Token) (x y : List ℕ) → AllByRecursion Small ss → AllByRecursion Small ts → rest_text ss ++ x ≡ rest_text ts ++ y →
    (ss ≡ ts) × (x ≡ y)
one_rest [] [] x y hs ht e = (refl, cc)
one_rest [] (t ∷ ts) x y hs ht e = absurd (let z : ◌≡◌ {A = ℕ} 10 32 = cc in omega arith)
one_rest (s ∷ ss) [] x y hs ht e = absurd (let z : ◌≡◌ {A = ℕ} 32 10 = cc in omega arith)
one_rest (s ∷ ss) (t ∷ ts) x y hs ht e =
    let f : (token_text s ++ rest_text ss) ++ x ≡ (token_text t ++ rest_text ts) ++ y = cc in
    let g = sym (append_assoc (token_text s) (rest_text ss) x) ∙ f ∙ append_assoc (token_text t) (rest_text ts) y in
    let w = one_token s t (rest_text ss ++ x) (rest_text ts ++ y) hs.0 ht.0 (ended_rest s ss x) (ended_rest t ts y) g in
    let r = one_rest ss ts x y hs.1 ht.1 w.1 in
    ((λ i. w.0 i ∷ r.0 i), r.1)

no_feed : (t : Token) (ts : List Token) (x y : List ℕ) → Small t → 10 ∷ y ≡ (token_text t ++ rest_text ts) ++ x → ⊥
no_feed t ts x y h e =
    not_first 10 t (rest_text ts ++ x) y (λ p q. omega arith) h (ended_rest t ts x) (e ∙ append_assoc (token_text t) (rest_text ts) x)

pub one_line : (ss ts : List Token) (x y : List ℕ) → AllByRecursion Small ss → AllByRecursion Small ts → line_text ss ++ x ≡ line_text ts ++ y →
    (ss ≡ ts) × (x ≡ y)
one_line [] [] x y hs ht e = (refl, cc)
one_line [] (t ∷ ts) x y hs ht e = absurd (no_feed t ts y x ht.0 e)
one_line (s ∷ ss) [] x y hs ht e = absurd (no_feed s ss x y hs.0 (sym e))
one_line (s ∷ ss) (t ∷ ts) x y hs ht e = one_rest (s ∷ ss) (t ∷ ts) x y hs ht (ap (λ l. 32 ∷ l) e)

-- a word is next in a line that `rest` follows
abbrev WordAhead : List ℕ → List ℕ → Type 0
WordAhead cur rest = (t : Token) × (ts : List Token) × Small t × AllByRecursion Small ts × (cur ≡ token_text t ++ (rest_text ts ++ rest))

-- `cur` is left of the text after the words seen of its first line, and one more word is to come
pub record Within (text cur : List ℕ) (seen : List Token) : Type 0 where
  pub forth : (t : Token) (ts : List Token) (rest : List ℕ) → cur ≡ token_text t ++ (rest_text ts ++ rest) →
      text ≡ line_text (seen ++ t ∷ ts) ++ rest
  pub back : (ts : List Token) (rest : List ℕ) → AllByRecursion Small ts → text ≡ line_text ts ++ rest → WordAhead cur rest

pub start : (text : List ℕ) → (NextIs 10 text → ⊥) → Within text text []
start text n = record { forth = λ t ts rest e. e ∙ sym (append_assoc (token_text t) (rest_text ts) rest); back = back }
  where
    back : (ts : List Token) (rest : List ℕ) → AllByRecursion Small ts → text ≡ line_text ts ++ rest → WordAhead text rest
    back [] rest small e = absurd (n (subst (NextIs 10) (sym e) refl))
    back (t ∷ ts) rest small e = (t, ts, small.0, small.1, e ∙ append_assoc (token_text t) (rest_text ts) rest)

pub no_word_no_line : {text cur : List ℕ} {seen : List Token} → Within text cur seen → NoWord cur → NoLine text
no_word_no_line old none ts rest smalls e =
    let a = old.back ts rest smalls e in none a.0 (rest_text a.1 ++ rest) a.2 (ended_rest a.0 a.1 rest) a.4

-- after a word `w`, before `mid`
module _ {text cur : List ℕ} {seen : List Token} (old : Within text cur seen) (w : Token) (mid : List ℕ) (small : Small w) (cut : cur ≡ token_text w ++ mid) (ended : Ended w mid) where
  ahead : (ts : List Token) (rest : List ℕ) → AllByRecursion Small ts → text ≡ line_text ts ++ rest → (us : List Token) × AllByRecursion Small us × (mid ≡ rest_text us ++ rest)
  ahead ts rest smalls e =
      let a = old.back ts rest smalls e in
      let u = one_token w a.0 mid (rest_text a.1 ++ rest) small a.2 ended (ended_rest a.0 a.1 rest) (sym cut ∙ a.4) in
      (a.1, a.3, u.1)

  pub last : (next : List ℕ) → mid ≡ 10 ∷ next → text ≡ line_text (seen ++ w ∷ []) ++ next
  last next feed = old.forth w [] next (cut ∙ ap (λ l. token_text w ++ l) feed)

  pub one_more : (next : List ℕ) → mid ≡ 32 ∷ next → Within text next (seen ++ w ∷ [])
  one_more next space = record {
    forth = λ t ts rest e.
        let here : cur ≡ token_text w ++ (rest_text (t ∷ ts) ++ rest) = cut ∙ ap (λ l. token_text w ++ l) (space ∙ ap (λ l. 32 ∷ l) (e ∙ sym (append_assoc (token_text t) (rest_text ts) rest))) in
        old.forth w (t ∷ ts) rest here ∙ ap (λ l. line_text l ++ rest) (sym (append_assoc seen (w ∷ []) (t ∷ ts)));
    back = λ ts rest smalls e. let a = ahead ts rest smalls e in step a.0 rest a.1 a.2;
  }
    where
      step : (us : List Token) (rest : List ℕ) → AllByRecursion Small us → mid ≡ rest_text us ++ rest → WordAhead next rest
      step [] rest h e = absurd (let z : ◌≡◌ {A = ℕ} 10 32 = cc in omega arith)
      step (t ∷ us) rest h e =
          let f : next ≡ (token_text t ++ rest_text us) ++ rest = cc in
          (t, us, h.0, h.1, f ∙ append_assoc (token_text t) (rest_text us) rest)

  -- neither a line feed nor a space follows the word
  pub broken : (NextIs 10 mid → ⊥) → (NextIs 32 mid → ⊥) → NoLine text
  broken feed space ts rest smalls e = let a = ahead ts rest smalls e in stop a.0 rest a.2
    where
      stop : (us : List Token) (rest : List ℕ) → mid ≡ rest_text us ++ rest → ⊥
      stop [] rest e = feed (subst (NextIs 10) (sym e) refl)
      stop (t ∷ us) rest e = space (subst (NextIs 32) (sym e) refl)
