-- A word at the front of a text can be read in one way.
use Rattle.std.proofs.Common.{◌≡◌, ℕ, ◌<◌, List, [], ◌∷◌, ◌++◌, length, Some, None, decimal, sym, refl, ap, ◌∙◌, subst, append_assoc, arith}
use Rattle.std.proofs.lemmas.Fmt.{decimal_nonempty, decimal_injective}
use Rattle.grammar.specs.Lines.{Token, number, turns, token_text}
use Rattle.grammar.specs.Scans.{NoDigitNext, NextIs, limit, Small, NumberNext, Ended, NoWord}
use Rattle.grammar.proofs.Digits.{one_cut, decimal_digits}

-- the first number of a word, and what stands after it
abbrev first : Token → ℕ
first (number v) = v
first (turns p k) = p

abbrev after_first : Token → List ℕ → List ℕ
after_first (number v) rest = rest
after_first (turns p k) rest = 58 ∷ (decimal k ++ rest)

small_first : (t : Token) → Small t → first t < limit
small_first (number v) h = h
small_first (turns p k) h = h.0

split_first : (t : Token) (rest : List ℕ) → token_text t ++ rest ≡ decimal (first t) ++ after_first t rest
split_first (number v) rest = refl
split_first (turns p k) rest = append_assoc (decimal p) (58 ∷ decimal k) rest

first_ended : (t : Token) (rest : List ℕ) → Ended t rest → NoDigitNext (after_first t rest)
first_ended (number v) rest h = h.0
first_ended (turns p k) rest h = λ a b. omega arith

-- the first numbers of two readings are the same
firsts : (s t : Token) (x y : List ℕ) → Small s → Small t → Ended s x → Ended t y → token_text s ++ x ≡ token_text t ++ y →
    (first s ≡ first t) × (after_first s x ≡ after_first t y)
firsts s t x y hs ht ex ey e =
    let a = small_first s hs in
    let b = small_first t ht in
    let c =
    one_cut (decimal (first s)) (decimal (first t)) (after_first s x) (after_first t y) (decimal_digits (first s) a)
    (decimal_digits (first t) b) (first_ended s x ex) (first_ended t y ey) (sym (split_first s x) ∙ e ∙ split_first t y) in
    (decimal_injective (first s) (first t) (omega arith) (omega arith) c.0, c.1)

pub one_token : (s t : Token) (x y : List ℕ) → Small s → Small t → Ended s x → Ended t y → token_text s ++ x ≡ token_text t ++ y →
    (s ≡ t) × (x ≡ y)
one_token (number v) (number u) x y hs ht ex ey e =
    let f = firsts (number v) (number u) x y hs ht ex ey e in (ap number f.0, f.1)
one_token (number v) (turns p k) x y hs ht ex ey e =
    absurd (ex.1 (subst (NextIs 58) (sym (firsts (number v) (turns p k) x y hs ht ex ey e).1) refl))
one_token (turns p k) (number v) x y hs ht ex ey e =
    absurd (ey.1 (subst (NextIs 58) (firsts (turns p k) (number v) x y hs ht ex ey e).1 refl))
one_token (turns p k) (turns q j) x y hs ht ex ey e =
    let f = firsts (turns p k) (turns q j) x y hs ht ex ey e in
    let g : decimal k ++ x ≡ decimal j ++ y = let h = f.1 in cc in
    let a = hs.1 in
    let b = ht.1 in
    let c = one_cut (decimal k) (decimal j) x y (decimal_digits k a) (decimal_digits j b) ex ey g in
    ((λ i. turns (f.0 i) (decimal_injective k j (omega arith) (omega arith) c.0 i)), c.1)

-- a word has a byte, and its first is a digit
pub not_first : (b : ℕ) (t : Token) (x y : List ℕ) → NoDigitNext (b ∷ y) → Small t → Ended t x → b ∷ y ≡ token_text t ++ x → ⊥
not_first b t x y n ht ex e =
    let a = small_first t ht in
    let c = one_cut [] (decimal (first t)) (b ∷ y) (after_first t x) tt (decimal_digits (first t) a) n (first_ended t x ex) (e ∙ split_first t x) in
    omega (arith, decimal_nonempty (first t) (omega arith), ap length c.0)

-- from numbers to words, where `mid` follows the first number
pub no_first : (text mid : List ℕ) → NumberNext text None mid → NoWord text
no_first text mid h t rest small ended e = h (first t) (after_first t rest) (small_first t small) (first_ended t rest ended) (e ∙ split_first t rest)

module _ (text mid : List ℕ) (v : ℕ) (h : NumberNext text (Some v) mid) where
  module _ (after : List ℕ) (colon : mid ≡ 58 ∷ after) where
    pub two_numbers : (k : ℕ) (rest : List ℕ) → NumberNext after (Some k) rest → text ≡ token_text (turns v k) ++ rest
    two_numbers k rest j =
        h.1 ∙ ap (λ l. decimal v ++ l) (colon ∙ ap (λ l. 58 ∷ l) j.1) ∙ sym (append_assoc (decimal v) (58 ∷ decimal k) rest)

    after_colon : (t : Token) (rest : List ℕ) → Small t → Ended t rest → mid ≡ after_first t rest → (k : ℕ) × (k < limit) × NoDigitNext rest × (after ≡ decimal k ++ rest)
    after_colon (number u) rest small ended e = absurd (ended.1 (subst (NextIs 58) (sym colon ∙ e) refl))
    after_colon (turns p k) rest small ended e = (k, small.1, ended, cc)

    pub no_second : (rest : List ℕ) → NumberNext after None rest → NoWord text
    no_second rest j t r small ended e =
        let c =
        one_cut (decimal v) (decimal (first t)) mid (after_first t r) (decimal_digits v h.0) (decimal_digits (first t) (small_first t small))
        h.2 (first_ended t r ended) (sym h.1 ∙ e ∙ split_first t r) in
        let u = after_colon t r small ended c.1 in
        j u.0 r u.1 u.2 u.3
