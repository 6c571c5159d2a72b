use Rattle.std.proofs.Common.{◌≡◌, ◌∙◌, replicate}
use Rattle.std.proofs.lemmas.Result.{IfOk-weaker}
use Rattle.texts.specs.Parsing.{plan_model}
use Rattle.rehearsals.specs.Outputs.{idle_worker, no_entry, staged, plan_rehearsal, ended_text}
use Rattle.rehearsals.proofs.output.plan_text.Goals as goal

pub returns : goal.returns
returns c =
    let h = c.args.plan.now.header in
    let items = c.as_slice.ensures.value ∙ c.in_ok-items.ensures in
    let turns = c.as_slice-2.ensures.value ∙ c.in_ok-turns.ensures in
    let same : ended_text (staged h.cells (replicate h.workers idle_worker) (replicate 64 no_entry) h.start c.as_slice.result.now c.as_slice-2.result.now) ≡ ended_text (plan_rehearsal (plan_model c.args.plan.now)) =
    λ i. ended_text (staged h.cells (replicate h.workers idle_worker) (replicate 64 no_entry) h.start (items i) (turns i)) in
    IfOk-weaker c.rehearsed_text.result _ _ (λ s e. e ∙ same) c.rehearsed_text.ensures
