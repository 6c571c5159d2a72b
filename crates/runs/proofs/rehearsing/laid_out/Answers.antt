use Rattle.std.proofs.Common.{rules}
use Rattle.queue.specs.Faults.{queue_reason}
use Rattle.queue.specs.Logs.{log_view}
use Rattle.queue.specs.Receivers.{receiver_view}
use Rattle.runs.proofs.Beginning.{accepted, rehearsal_life, from_laid, left_there}
use Rattle.runs.proofs.rehearsing.laid_out.Goals as goal

pub returns-clause-rehearses : goal.returns-clause-rehearses
returns-clause-rehearses g c =
    let blank = g.I.ItemKind.blank in
    let laid = c.lay_out.ensures in
    let m = g.S.Store.model c.args.store.now in
    let ws = c.args.workers.now in
    let l = log_view c.args.log.now in
    let none = accepted (queue_reason g.S.Fault.Refusal.reason) c.lay_out.result c.map_err.result _ _ _ laid.answer c.map_err.ensures.cases c.in_ok-permit.was in
    let made = c.lay_out.new in (
      none,
      left_there (queue_reason g.S.Fault.Refusal.reason) g.S.Store.model _ c.perform.result _ _ _ _ _ _
          (from_laid blank m ws l c.args.start none (queue_reason g.S.Fault.Refusal.reason) c.args.items.now c.args.turns.now
          (g.S.Store.model made.store) (receiver_view c.new-receiver.result) (receiver_view made.receiver) made.workers (log_view made.log) c.perform.result
          _ _ _ laid.model laid.receiver laid.workers laid.log c.perform.ensures.rehearsed)
          (search rules) (search rules) (search rules),
      rehearsal_life blank m ws l c.args.start none c.args.items.now c.args.turns.now,
    )
