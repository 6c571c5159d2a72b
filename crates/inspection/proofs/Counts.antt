-- What `parse` gives of a plain text is the number that the text writes.
use Rattle.std.proofs.Common.{◌≡◌, ℕ, ◌^◌, ◌<◌, true, List, length, get_or, Some, Ok, Err, decimal, Result, sym, ap, ◌∙◌, arith}
use Rattle.std.specs.Str.Parse.{AllDigits, digits_value, ParsesUnsigned}
use Rattle.std.specs.Result.{result_ok}
use Rattle.std.specs.Int.{IsInRange}
use Rattle.std.proofs.lemmas.Fmt.{decimal_is_IsNumeral, decimal_digit, decimal_nonempty, decimal-digits_value, first_decimal, parse-decimal}
use Rattle.std.proofs.lemmas.Str.Parse.{IsNumeralModel, numerals_by_value, tells_digits, digit_at, parse_plain}
use Rattle.std.proofs.lemmas.Bool.Decides.{nat_tests}
use Rattle.inspection.specs.Arguments.{Counted, plain}

own : IsNumeralModel (AllDigits 10) (digits_value 10)
own = numerals_by_value (AllDigits 10) tells_digits

pub decimal_plain : (n : ℕ) → n < 2 ^ 64 → plain (decimal n) ≡ true
decimal_plain n h =
    let some : 0 < length (decimal n) = decimal_nonempty n h in
    let first : IsInRange 48 57 (get_or (decimal n) 0 0) = digit_at (decimal n) 0 (decimal_is_IsNumeral n h).0.1 some in
    let high : 0 < n → 48 < get_or (decimal n) 0 0 = λ p. first_decimal n p h in
    let one : n ≡ 0 → length (decimal n) ≡ 1 = λ z. ap (λ k. length (decimal k)) z ∙ ap length (decimal_digit 0 (omega arith)) in
    grind (arith, nat_tests)

pub parsed : {E : Type 0} (bs : List ℕ) (r : Result ℕ E) → plain bs ≡ true → ParsesUnsigned 64 10 bs r → Counted (Some bs) (result_ok r)
parsed {E} bs (Ok n) p h =
    let q = parse_plain own {E = E} 64 bs (Ok n) h (grind (arith, nat_tests)) in
    let e : decimal (digits_value 10 bs) ≡ bs = decimal-digits_value own bs q.0.0 q.0.1 (grind (arith, nat_tests)) q.0.2 in
    (omega (arith, q.0.2, q.1), ap Some (sym e ∙ ap decimal (sym q.1)))
parsed {E} bs (Err f) p h = λ n s.
    let same : bs ≡ decimal n = cc s.1 in
    let ok = parse-decimal {E = E} 64 n bs (Err f) s.0 s.0 same h in
    let z : ◌≡◌ {A = ℕ} 0 1 = cc ok in omega (arith, z)
