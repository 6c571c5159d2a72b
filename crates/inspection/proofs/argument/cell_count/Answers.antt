use Rattle.std.proofs.Common.{◌≡◌, ℕ, true, false, List, Some, decimal, Option, sym, ap, ◌∙◌, subst, arith}
use Rattle.std.specs.Option.{option_map}
use Rattle.inspection.specs.Arguments.{Counted, plain}
use Rattle.inspection.proofs.Counts.{decimal_plain, parsed}
use Rattle.inspection.proofs.argument.cell_count.Goals as goal

pub returns-then-not-is_plain : goal.returns-then-not-is_plain
returns-then-not-is_plain c = λ n s.
    let was = ap (option_map (λ x. x.now)) c.in_ok-text.was in
    let same : c.in_ok-text.text.now ≡ decimal n = cc (was, s.1) in
    let bad : true ≡ false = sym (decimal_plain n s.0) ∙ ap plain (sym same) ∙ sym c.if-not-is_plain.ensures in
    let z : ◌≡◌ {A = ℕ} 0 1 = cc bad in omega (arith, z)

pub returns : goal.returns
returns c =
    let p = parsed _ _ (sym c.if-not-is_plain.ensures) c.parse.ensures.value.0 in
    let P : Option ℕ → Type 0 = Counted (Some c.in_ok-text.text.now) in
    let Q : Option (List ℕ) → Type 0 = λ o. Counted o c.ok.result in
    subst Q (sym (ap (option_map (λ x. x.now)) c.in_ok-text.was)) (subst P (sym c.ok.ensures.value) p)
