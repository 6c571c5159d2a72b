use Rattle.std.proofs.Common.{◌≡◌, ◌-◌}
use Rattle.queue.specs.Logs.{log_view, log_lender}
use Rattle.schedules.specs.Drains.{drain_from}
use Rattle.runs.proofs.draining.step_each.Given as goal

abbrev pub invariant-loop-steps : goal.invariant-loop-steps
invariant-loop-steps g l =
    (drain_from g.I.ItemKind.blank l.budget 0 0 l.initial.workers (g.S.Store.model l.initial.store) (log_view l.initial.log)
    ≡ drain_from g.I.ItemKind.blank (l.budget - l.steps) l.steps l.k l.workers (g.S.Store.model l.store) (log_view l.log))
    × (g.S.Store.lender l.store ≡ g.S.Store.lender l.initial.store)
    × (log_lender l.log ≡ log_lender l.initial.log)
