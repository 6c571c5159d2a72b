use Rattle.std.proofs.Common.{◌≡◌, ◌+◌, ◌<◌, length, get_or, sym, refl, ap, ◌∙◌, ⊎_elim, arith}
use Rattle.std.specs.Str.Parse.{digits_value}
use Rattle.std.proofs.lemmas.List.{take_all}
use Rattle.std.proofs.lemmas.Bool.{eqb-true, eqb-false, cases_lt, false≢true}
use Rattle.grammar.proofs.Digits.{none_empty, none_leading, none_large, at_digit, value_next, some_value}
use Rattle.texts.proofs.numeral.numeral.Goals as goal
use Rattle.texts.proofs.numeral.numeral.Goals.{then-is_empty-via-then-is_empty, then-is_empty-via-else-is_empty+then-has_leading_zero}

pub returns-then-is_empty : goal.returns-then-is_empty
returns-then-is_empty c =
    let ds = c.args.digits.now in
    elim c.then-is_empty.branch [
      | then-is_empty-via-then-is_empty w ↦ none_empty ds (eqb-true _ 0 (sym w.if-is_empty.ensures))
      | then-is_empty-via-else-is_empty+then-has_leading_zero w ↦ let z = w.if-has_leading_zero.ensures.0 refl in none_leading ds z.0 z.1
    ]

pub overflow_sub-digit : goal.overflow_sub-digit
overflow_sub-digit c = omega (arith, at_digit c.args.digits.now c.loop-digit.digit-index c.requires (omega arith))

pub returns-then-value-ge-MAX_HEAD : goal.returns-then-value-ge-MAX_HEAD
returns-then-value-ge-MAX_HEAD c =
    let e = value_next c.args.digits.now c.loop-digit.digit-index c.loop-digit.value c.requires (omega arith) c.loop-digit.invariant.1 in
    none_large (c.loop-digit.digit-index + 1) c.args.digits.now (omega (arith, e))

pub loop-digit-preserved : goal.loop-digit-preserved
loop-digit-preserved c =
    let e = value_next c.args.digits.now c.loop-digit.digit-index c.loop-digit.value c.requires (omega arith) c.loop-digit.invariant.1 in
    (omega arith, omega (arith, e))

pub returns : goal.returns
returns c =
    let ds = c.args.digits.now in
    let all = take_all c.loop-digit.digit-index ds (omega arith) in
    let some : 0 < length ds = omega (arith, eqb-false (length ds) 0 (sym c.if-is_empty.ensures)) in
    let lead : get_or ds 0 0 ≡ 48 → length ds ≡ 1 = λ z. ⊎_elim (λ m. absurd (false≢true (c.if-has_leading_zero.ensures.1 (m, z)))) (λ m. omega (arith, some)) (cases_lt 1 (length ds)) in
    some_value ds c.loop-digit.value c.requires some lead c.loop-digit.invariant.0 (c.loop-digit.invariant.1 ∙ ap (digits_value 10) all)
