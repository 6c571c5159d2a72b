use Rattle.std.proofs.Common.{◌≡◌, ◌≤◌, Some, ◌∙◌, is_ok, vec_items, sym, ap, subst, arith}
use Rattle.std.specs.List.{AllByRecursion}
use Rattle.std.proofs.ResultArms.{chosen}
use Rattle.std.proofs.slice.Lists.{all_by_recursion_push}
use Rattle.grammar.specs.Lines.{number}
use Rattle.grammar.proofs.Forms.{number_from, one_more, not_a_probe, probe_high}
use Rattle.texts.specs.Words.{token_of}
use Rattle.texts.proofs.form.probes.Goals as goal

pub loop-word-preserved : goal.loop-word-preserved
loop-word-preserved c =
    let pushed = chosen _ _ _ _ c.push.ensures.items (ap is_ok c.in_ok-push.was) in
    let low : (c.in-Ok.probe ≡ c.in-Some.number) × (c.in-Some.number ≤ 65535) = let h = c.in-Ok.ensures in (h.1, omega (arith, h.0)) in (
      one_more token_of c.args.words.now number c.loop-word.word-index _ (vec_items c.loop-word.probes) (vec_items c.push.new.self) c.in-Ok.probe c.loop-word.invariant.0 (omega arith) (number_from _ _ (sym c.in-Some.ensures ∙ ap Some (sym low.0))) pushed,
      subst (AllByRecursion (λ p. p ≤ 65535)) (sym pushed) (all_by_recursion_push (λ p. p ≤ 65535) _ _ c.loop-word.invariant.1 (omega arith)),
    )

pub returns-in_default : goal.returns-in_default
returns-in_default c = not_a_probe token_of c.args.words.now c.loop-word.word-index _ (omega arith) (sym c.in_default.ensures)

pub returns-in_default-try_from : goal.returns-in_default-try_from
returns-in_default-try_from c =
    probe_high token_of c.args.words.now c.loop-word.word-index _ (omega arith) c.in-Some.number (sym c.in-Some.ensures) (let h = c.in_default-try_from.ensures in omega (arith, h))
