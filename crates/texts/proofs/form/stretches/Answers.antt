use Rattle.std.proofs.Common.{◌≤◌, is_ok, vec_items, sym, refl, ap, subst, arith}
use Rattle.std.specs.List.{AllByRecursion}
use Rattle.std.proofs.ResultArms.{chosen}
use Rattle.std.proofs.slice.Lists.{all_by_recursion_push}
use Rattle.std.proofs.lemmas.Bool.{false≢true}
use Rattle.grammar.specs.Plans.{turn_count, stretch_word}
use Rattle.grammar.proofs.Forms.{stretch_from, one_more, turn_count_push, not_a_stretch, stretch_unfit}
use Rattle.texts.specs.Words.{token_of}
use Rattle.texts.proofs.form.stretches.Goals as goal

pub loop-word-preserved : goal.loop-word-preserved
loop-word-preserved c =
    let pushed = chosen _ _ _ _ c.push.ensures.items (ap is_ok c.in_ok-push.was) in
    let w = c.args.workers in
    let fits = c.if-not-stretch_fits.ensures.0 refl in (
      one_more token_of c.args.words.now stretch_word c.loop-word.word-index _ (vec_items c.loop-word.stretches) (vec_items c.push.new.self) c.in-Some.next c.loop-word.invariant.0 (omega arith) (stretch_from _ _ (sym c.in-Some.ensures)) pushed,
      subst (AllByRecursion (λ s. (s.party ≤ w) × (1 ≤ s.count))) (sym pushed) (all_by_recursion_push (λ s. (s.party ≤ w) × (1 ≤ s.count)) (vec_items c.loop-word.stretches) c.in-Some.next c.loop-word.invariant.1 (fits.0, fits.1)),
      omega (arith, ap turn_count pushed, turn_count_push (vec_items c.loop-word.stretches) c.in-Some.next, fits.2),
    )

pub returns-in_default : goal.returns-in_default
returns-in_default c =
    not_a_stretch token_of c.args.words.now c.loop-word.word-index _ (omega arith) c.args.workers (sym c.in_default.ensures)

pub returns-then-not-stretch_fits : goal.returns-then-not-stretch_fits
returns-then-not-stretch_fits c =
    stretch_unfit token_of c.args.words.now c.loop-word.word-index _ (omega arith) c.args.workers c.in-Some.next (vec_items c.loop-word.stretches) c.loop-word.room (sym c.in-Some.ensures) c.loop-word.invariant.0 c.loop-word.invariant.2
    (λ f. false≢true (c.if-not-stretch_fits.ensures.1 f))
