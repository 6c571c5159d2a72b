use Rattle.std.proofs.Common.{length, ap, ◌∙◌, w64, SFits, rules}
use Rattle.std.specs.Option.{option_map}
use Rattle.std.proofs.lemmas.Int.{to_z-of_z}
use Rattle.std.proofs.lemmas.Result.{IfOk-weaker}
use Rattle.items.specs.Readings.{zero_reading}
use Rattle.stores.specs.Records.{record_model}
use Rattle.arrangements.specs.Places.{every_size, same_number}
use Rattle.arrangements.specs.Arranged.{arranged_model}
use Rattle.arrangements.specs.Faults.{arrangement_reason}
use Rattle.stores.specs.Refusals.{store_reason}
use Rattle.queue.specs.Faults.{queue_reason}
use Rattle.queue.specs.Logs.{log_view, kept}
use Rattle.rehearsals.specs.Outputs.{stopped_of, staged}
use Rattle.rehearsals.proofs.Memories.{straight_size, staged_is, no_refusal, stopped_as, ok_unless, at_ok}
use Rattle.rehearsals.proofs.Printing.{report_is}
use Rattle.rehearsals.proofs.staging.text_in.Goals as goal

pub unwrap-done-requires : goal.unwrap-done-requires
unwrap-done-requires c =
    let m = arranged_model zero_reading (λ _. every_size) (λ _. same_number) record_model c.new-store.result in
    let n = straight_size c.args.cells.now m (record_model c.new.result) c.requires.cells.0 c.requires.cells.1 c.new.ensures.model c.new-store.ensures.model in
    ok_unless _ _ c.rehearse.result c.rehearse.ensures.rehearses
    (λ f h. no_refusal m c.args.workers.now c.args.start (length c.args.cells.now) _ n c.requires.cells.0 c.requires.start c.requires.workers.0 c.requires.workers.1 h.0)

pub returns : goal.returns
returns c =
    let m = arranged_model zero_reading (λ _. every_size) (λ _. same_number) record_model c.new-store.result in
    let n = straight_size c.args.cells.now m (record_model c.new.result) c.requires.cells.0 c.requires.cells.1 c.new.ensures.model c.new-store.ensures.model in
    let done = staged (length c.args.cells.now) c.args.workers.now c.args.entries.now c.args.start c.args.items.now c.args.turns.now in
    let is = staged_is m (length c.args.cells.now) c.args.workers.now (log_view c.new-log.result) c.args.entries.now c.args.start c.args.items.now c.args.turns.now n c.new-log.ensures.entries in
    let did = at_ok _ _ c.rehearse.result c.unwrap-done.result c.unwrap-done.ensures c.rehearse.ensures.rehearses in
    let f : SFits w64 c.unwrap-done.result.end = search rules in
    let shown = c.kept.ensures ∙ ap kept (did.1.log ∙ ap (λ r. r.queue.log) is) in
    let stopped = c.stopped.ensures ∙ stopped_as (queue_reason (arrangement_reason store_reason)) c.unwrap-done.result.stop ∙ ap (option_map stopped_of) did.1.stop ∙ ap (λ r. option_map stopped_of r.stop) is in
    IfOk-weaker c.report.result _ _
    (λ s e. e ∙ report_is done c.kept.result.now c.stopped.result _ shown stopped (to_z-of_z w64 c.unwrap-done.result.end f ∙ did.1.end ∙ ap (λ r. r.queue.store.end) is))
    c.report.ensures
