use Rattle.std.proofs.Common.{◌≡◌, ℕ, ◌+◌, ◌-◌, leb, length, Ok, Err, sym, ap, ◌∙◌, arith}
use Rattle.queue.specs.Faults.{queue_reason}
use Rattle.queue.specs.Logs.{log_view}
use Rattle.schedules.specs.Drains.{ends, drain_from}
use Rattle.schedules.proofs.DrainSteps.{drain_more, drain_refused, drain_finished, drain_used_up}
use Rattle.runs.proofs.DrainAnswers.{as_ended}
use Rattle.runs.proofs.draining.step_each.Goals as goal

pub returns-then-k-workers : goal.returns-then-k-workers
returns-then-k-workers g c =
    let inv = c.loop-steps.invariant in
    let blank = g.I.ItemKind.blank in
    let ws = c.loop-steps.workers in
    let m = g.S.Store.model c.loop-steps.store in
    let l = log_view c.loop-steps.log in
    record {
      drained = as_ended blank (queue_reason g.S.Fault.Refusal.reason) _ (Ok _) ws m l (inv.0 ∙ drain_finished blank c.args.budget c.loop-steps.steps c.loop-steps.k ws m l c.if-k-workers.true);
      fault = tt;
      lender = inv.1;
      lent = inv.2;
    }

pub returns-in-Err : goal.returns-in-Err
returns-in-Err g c =
    let inv = c.loop-steps.invariant in
    let blank = g.I.ItemKind.blank in
    let step = c.in-Err.ensures in
    record {
      drained = as_ended blank (queue_reason g.S.Fault.Refusal.reason) _ (Err _) _ _ _
          (inv.0 ∙ drain_refused blank c.args.budget c.loop-steps.steps c.loop-steps.k c.loop-steps.workers (g.S.Store.model c.loop-steps.store) (log_view c.loop-steps.log)
          (queue_reason g.S.Fault.Refusal.reason c.in-Err.fault) c.worker_step.new.workers (g.S.Store.model c.worker_step.new.store) (log_view c.worker_step.new.log)
          c.loop-steps-test.true c.if-k-workers.false (sym step.answer) step.workers step.model step.log);
      fault = step.carries;
      lender = step.lender ∙ inv.1;
      lent = step.lent ∙ inv.2;
    }

pub loop-steps-preserved : goal.loop-steps-preserved
loop-steps-preserved g c =
    let inv = c.loop-steps.invariant in
    let blank = g.I.ItemKind.blank in
    let step = c.in-Ok.ensures in (
      inv.0 ∙ drain_more blank c.args.budget c.loop-steps.steps c.loop-steps.k c.loop-steps.workers (g.S.Store.model c.loop-steps.store) (log_view c.loop-steps.log)
          c.in-Ok.answer c.worker_step.new.workers (g.S.Store.model c.worker_step.new.store) (log_view c.worker_step.new.log)
          c.loop-steps-test.true c.if-k-workers.false (sym step.answer) step.workers step.model step.log
          ∙ ap (λ (k : ℕ). drain_from blank (c.args.budget - (c.loop-steps.steps + 1)) (c.loop-steps.steps + 1) k c.worker_step.new.workers (g.S.Store.model c.worker_step.new.store) (log_view c.worker_step.new.log)) (sym c.next_worker-k.ensures),
      step.lender ∙ inv.1,
      step.lent ∙ inv.2,
    )

pub returns : goal.returns
returns g c =
    let inv = c.loop-steps.invariant in
    let blank = g.I.ItemKind.blank in
    let ws = c.loop-steps.workers in
    let m = g.S.Store.model c.loop-steps.store in
    let l = log_view c.loop-steps.log in
    let all : c.loop-steps.steps ≡ c.args.budget = omega (arith, c.loop-steps-test.false, c.loop-steps.auto.steps-end) in
    record {
      drained = as_ended blank (queue_reason g.S.Fault.Refusal.reason) _ (Ok _) ws m l
          (inv.0 ∙ drain_used_up blank c.args.budget c.loop-steps.steps c.loop-steps.k ws m l c.loop-steps-test.false
          ∙ ap (λ (n : ℕ). ends blank n (Ok (leb (length ws) c.loop-steps.k)) ws m l) all);
      fault = tt;
      lender = inv.1;
      lent = inv.2;
    }
