-- Numbers in decimals: what digits write, and where they end.
use Rattle.std.proofs.Common.{◌≡◌, ℕ, suc, ◌+◌, ◌-◌, ◌*◌, ◌<◌, ◌≤◌, Bool, true, false, cond, List, [], ◌∷◌, ◌++◌, length, get_or, take, drop, Some, None, decimal, Option, sym, refl, ap, ◌∙◌, subst, ⊎_elim, arith, take-append-drop, rules}
use Rattle.std.specs.Str.Parse.{digits_value, digits_value_after}
use Rattle.std.specs.Char.{digit_value, is_ascii_digit}
use Rattle.std.specs.List.{prefix_len, take_while}
use Rattle.std.proofs.lemmas.List.Sums.{take_while-cons}
use Rattle.std.proofs.lemmas.Bool.{cases_eq}
use Rattle.std.proofs.lemmas.Bool.Decides.{nat_tests}
use Rattle.std.proofs.lemmas.Int.Digits.{digits_value_more}
use Rattle.std.proofs.lemmas.Fmt.{digits_decimal, decimal-digits_value, decimal_nonempty, decimal_digit, first_decimal, decimal_is_IsNumeral}
use Rattle.std.proofs.lemmas.Str.Parse.{IsNumeralModel, numerals_by_value, digit_at}
use Rattle.grammar.specs.Scans.{AllDigits, NoDigitNext, limit, Numeral, NumberNext}

own : IsNumeralModel AllDigits (digits_value 10)
own = numerals_by_value AllDigits (search rules)

digit_is : (b : ℕ) → is_ascii_digit b ≡ true → (48 ≤ b) × (b ≤ 57)
digit_is b h = (grind (arith, nat_tests), grind (arith, nat_tests))

no_digit : (b : ℕ) → is_ascii_digit b ≡ false → 48 ≤ b → b ≤ 57 → ⊥
no_digit b h x y = grind (arith, nat_tests)

-- the digits at the front of a text, and what follows them
pub digits_first : (t : List ℕ) → AllDigits (take_while is_ascii_digit t)
digits_first [] = tt
digits_first (b ∷ t) = subst AllDigits (sym (take_while-cons is_ascii_digit b t)) (go (digits_first t) (is_ascii_digit b) refl)
  where
    go : AllDigits (take_while is_ascii_digit t) → (d : Bool) → is_ascii_digit b ≡ d → AllDigits (cond d (b ∷ take_while is_ascii_digit t) [])
    go f true e = let d = digit_is b e in (d.0, d.1, f)
    go f false e = tt

pub digits_end : (t : List ℕ) → NoDigitNext (drop (prefix_len is_ascii_digit t) t)
digits_end [] = tt
digits_end (b ∷ t) = go (digits_end t) (is_ascii_digit b) refl
  where
    go : NoDigitNext (drop (prefix_len is_ascii_digit t) t) → (d : Bool) → is_ascii_digit b ≡ d → NoDigitNext (drop (cond d (1 + prefix_len is_ascii_digit t) 0) (b ∷ t))
    go n true e =
        let k = prefix_len is_ascii_digit t in
        let one : suc k ≡ 1 + k = omega arith in subst (λ m. NoDigitNext (drop m (b ∷ t))) one n
    go n false e = no_digit b e

pub decimal_digits : (v : ℕ) → v < limit → AllDigits (decimal v)
decimal_digits v h = digits_decimal own v (omega arith)

-- digits before what is no digit can be cut in one way
pub one_cut : (xs ys s t : List ℕ) → AllDigits xs → AllDigits ys → NoDigitNext s → NoDigitNext t → xs ++ s ≡ ys ++ t →
    (xs ≡ ys) × (s ≡ t)
one_cut [] [] s t fx fy hs ht e = (refl, e)
one_cut [] (y ∷ ys) [] t fx fy hs ht e = absurd (let z : ◌≡◌ {A = ℕ} 0 1 = cc in omega arith)
one_cut [] (y ∷ ys) (b ∷ s) t fx fy hs ht e =
    let p : b ≡ y = cc in absurd (hs (omega (arith, fy.0)) (omega (arith, fy.1)))
one_cut (x ∷ xs) [] s [] fx fy hs ht e = absurd (let z : ◌≡◌ {A = ℕ} 0 1 = cc in omega arith)
one_cut (x ∷ xs) [] s (b ∷ t) fx fy hs ht e =
    let p : x ≡ b = cc in absurd (ht (omega (arith, fx.0)) (omega (arith, fx.1)))
one_cut (x ∷ xs) (y ∷ ys) s t fx fy hs ht e =
    let p : x ≡ y = cc in
    let q : xs ++ s ≡ ys ++ t = cc in
    let r = one_cut xs ys s t fx.2 fy.2 hs ht q in
    ((λ i. p i ∷ r.0 i), r.1)

-- what the longest run of digits writes, said of the text that begins with it
pub run_number : (text ds rest : List ℕ) (r : Option ℕ) → AllDigits ds → NoDigitNext rest → text ≡ ds ++ rest → Numeral ds r →
    NumberNext text r rest
run_number text ds rest (Some v) f s e h = (h.0, e ∙ ap (λ l. l ++ rest) h.1, s)
run_number text ds rest None f s e h =
    λ v after small stops e'. h v small (one_cut ds (decimal v) rest after f (decimal_digits v small) s stops (sym e ∙ e')).0

pub none_empty : (ds : List ℕ) → length ds ≡ 0 → Numeral ds None
none_empty ds z v h e = omega (arith, decimal_nonempty v (omega arith), ap length e)

decimal_zero : length (decimal 0) ≡ 1
decimal_zero = ap length (decimal_digit 0 (omega arith))

pub none_leading : (ds : List ℕ) → 1 < length ds → get_or ds 0 0 ≡ 48 → Numeral ds None
none_leading ds long first v h e =
    ⊎_elim (λ z. omega (arith, ap length e, ap (λ n. length (decimal n)) z, decimal_zero))
    (λ ne. let p : 0 < v = omega (arith, ne) in omega (arith, first_decimal v p (omega arith), ap (λ l. get_or l 0 0) e)) (cases_eq v 0)

grows : (n : ℕ) (ds : List ℕ) → n ≤ digits_value_after 10 n ds
grows n [] = omega arith
grows n (d ∷ ds) = omega (arith, grows (n * 10 + digit_value d) ds)

after_append : (n : ℕ) (xs ys : List ℕ) → digits_value_after 10 n (xs ++ ys) ≡ digits_value_after 10 (digits_value_after 10 n xs) ys
after_append n [] ys = refl
after_append n (x ∷ xs) ys = after_append (n * 10 + digit_value x) xs ys

front_le : (k : ℕ) (ds : List ℕ) → digits_value 10 (take k ds) ≤ digits_value 10 ds
front_le k ds =
    omega (arith, after_append 0 (take k ds) (drop k ds), ap (digits_value 10) (take-append-drop k ds), grows (digits_value 10 (take k ds)) (drop k ds))

pub none_large : (k : ℕ) (ds : List ℕ) → limit ≤ digits_value 10 (take k ds) → Numeral ds None
none_large k ds h v small e = omega (arith, front_le k ds, ap (digits_value 10) e, (decimal_is_IsNumeral v (omega arith)).1)

pub at_digit : (ds : List ℕ) (i : ℕ) → AllDigits ds → i < length ds → (48 ≤ get_or ds i 0) × (get_or ds i 0 ≤ 57)
at_digit ds i f h = let d = digit_at ds i (own.to ds f) h in (omega arith, omega arith)

value_of_digit : (c : ℕ) → 48 ≤ c → c ≤ 57 → digit_value c ≡ c - 48
value_of_digit c a b = grind (arith, nat_tests)

pub value_next : (ds : List ℕ) (i v : ℕ) → AllDigits ds → i < length ds → v ≡ digits_value 10 (take i ds) →
    v * 10 + (get_or ds i 0 - 48) ≡ digits_value 10 (take (i + 1) ds)
value_next ds i v f h e =
    let d = at_digit ds i f h in omega (arith, digits_value_more 10 ds i h, value_of_digit (get_or ds i 0) d.0 d.1, e)

pub some_value : (ds : List ℕ) (v : ℕ) → AllDigits ds → 0 < length ds → (get_or ds 0 0 ≡ 48 → length ds ≡ 1) → v < limit →
    v ≡ digits_value 10 ds → Numeral ds (Some v)
some_value ds v f some lead small e = (small, sym (decimal-digits_value own ds f some lead (omega (arith, e))) ∙ ap decimal (sym e))
