use Rattle.std.proofs.Common.{ℕ, None, subst}
use Rattle.std.proofs.lemmas.Result.{err_from_is_err_and, IfErr-weaker}
use Rattle.queue.specs.Faults.{queue_reason}
use Rattle.queue.specs.Logs.{log_view}
use Rattle.schedules.specs.Drains.{drain_from}
use Rattle.runs.specs.Drains.{DrainedAs}
use Rattle.runs.proofs.DrainAnswers.{in_time_too, by_checks, checked_out, step_fault, no_check}
use Rattle.runs.proofs.draining.checked.Goals as goal

pub returns-in_err-check-clause-drained : goal.returns-in_err-check-clause-drained
returns-in_err-check-clause-drained g c =
    let p = err_from_is_err_and c.from_residual.result c.from_residual.ensures.1 in
    let said = c.in_err-check.ensures in
    rw (p.1, p.2)
    (checked_out g.I.ItemKind.blank (queue_reason g.S.Fault.Refusal.reason) c.args.budget c.args.workers.now (g.S.Store.model c.args.store.now)
    (log_view c.args.log.now) _ said.before.0 (said.reason (queue_reason g.S.Fault.Refusal.reason)))

pub returns-in_err-check-clause-in_time : goal.returns-in_err-check-clause-in_time
returns-in_err-check-clause-in_time g c =
    let p = err_from_is_err_and c.from_residual.result c.from_residual.ensures.1 in
    let said = c.in_err-check.ensures in
    in_time_too g.I.ItemKind.blank (queue_reason g.S.Fault.Refusal.reason) c.args.budget c.args.workers.now (g.S.Store.model c.args.store.now)
    (log_view c.args.log.now) c.from_residual.result c.args.workers.now (g.S.Store.model c.args.store.now) (log_view c.args.log.now)
    (rw (p.1, p.2)
    (checked_out g.I.ItemKind.blank (queue_reason g.S.Fault.Refusal.reason) c.args.budget c.args.workers.now (g.S.Store.model c.args.store.now)
    (log_view c.args.log.now) _ said.before.0 (said.reason (queue_reason g.S.Fault.Refusal.reason))))

pub returns : goal.returns
returns g c =
    let reason = queue_reason g.S.Fault.Refusal.reason in
    let ws = c.args.workers.now in
    let m = g.S.Store.model c.args.store.now in
    let l = log_view c.args.log.now in
    let done = c.step_each.ensures in
    let drained =
    by_checks g.I.ItemKind.blank reason c.args.budget ws m l None c.step_each.result c.step_each.new.workers (g.S.Store.model c.step_each.new.store) (log_view c.step_each.new.log)
    (c.in_ok-check.ensures.reason reason)
    (subst
    (λ (n : ℕ). DrainedAs reason (drain_from g.I.ItemKind.blank n 0 0 ws m l)
    c.step_each.result c.step_each.new.workers (g.S.Store.model c.step_each.new.store) (log_view c.step_each.new.log))
    c.min.ensures done.drained) in
    record {
      drained = drained;
      fault = IfErr-weaker c.step_each.result _ _ (λ e. step_fault g.S.Fault.Refusal.reason g.S.Fault.Refusal.layer e.fault) done.fault;
      refused = IfErr-weaker c.step_each.result _ _ (λ e o h. absurd (no_check g.S.Fault.Refusal.reason g.S.Fault.Refusal.layer e.fault o h)) done.fault;
      in_time = in_time_too g.I.ItemKind.blank reason c.args.budget ws m l c.step_each.result _ _ _ drained;
      lender = done.lender;
      lent = done.lent;
    }
