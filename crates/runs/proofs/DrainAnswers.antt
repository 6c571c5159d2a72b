-- The answer of a drain from where it ended.
use Rattle.std.proofs.Common.{◌≡◌, ℕ, Bool, List, Some, Err, Option, Result, sym, ap, subst}
use Rattle.stores.specs.declared.refusal.Layer.{Layer}
use Rattle.stores.specs.Refusals.{Reason}
use Rattle.stores.specs.Model.{Contents}
use Rattle.protocol.specs.declared.record.Worker.{Worker}
use Rattle.protocol.specs.Records.{Log}
use Rattle.schedules.specs.Drains.{Drained as Drain, no_drain, ends, drain_unless, drained}
use Rattle.schedules.specs.Budgets.{DrainedInTime}
use Rattle.schedules.proofs.InTime.{drained_in_time}
use Rattle.runs.specs.declared.draining.Drained.{Drained}
use Rattle.runs.specs.declared.draining.DrainStop.{DrainStop}
use Rattle.queue.specs.declared.fault.QueueFault.{QueueFault}
use Rattle.runs.specs.declared.fault.RunFault.{RunFault}
use Rattle.runs.specs.declared.fault.RunFault.TheVariants.{NoCells, WorkerCount, StillOpen, NoItemLeft, Below}
use Rattle.runs.specs.Faults.{run_reason, DrainFault, StepFault}
use Rattle.runs.specs.Drains.{steps_of, outcome_of, OfChecks, DrainedAs}

pub as_ended : {X F : Type 0} (blank : X) (reason : F → Reason) (d : Drain X) (r : Result Drained (DrainStop (RunFault F))) (ws : List (Worker X)) (m : Contents X) (l : Log X) →
    d ≡ ends blank (steps_of r) (outcome_of reason r) ws m l → DrainedAs reason d r ws m l
as_ended blank reason d r ws m l e =
    record {
      steps = sym (ap (λ x. x.steps) e);
      outcome = sym (ap (λ x. x.outcome) e);
      workers = sym (ap (λ x. x.workers) e);
      store = sym (ap (λ x. x.store) e);
      log = sym (ap (λ x. x.log) e);
    }

-- what is known of the drain is known of the answer
pub in_time_too : {X F : Type 0} (blank : X) (reason : F → Reason) (budget : ℕ) (ws : List (Worker X)) (m : Contents X) (l : Log X) (r : Result Drained (DrainStop (RunFault F)))
    (ws' : List (Worker X)) (m' : Contents X) (l' : Log X) → DrainedAs reason (drained blank budget ws m l) r ws' m' l' →
    DrainedInTime blank budget ws m l (steps_of r) (outcome_of reason r)
in_time_too blank reason budget ws m l r ws' m' l' is =
    subst (λ (n : ℕ). DrainedInTime blank budget ws m l n (outcome_of reason r)) (sym is.steps)
    (subst (λ (o : Result Bool Reason). DrainedInTime blank budget ws m l (drained blank budget ws m l).steps o) (sym is.outcome) (drained_in_time blank budget ws m l))

-- the checks refuse it, or they do not
pub by_checks : {X F : Type 0} (blank : X) (reason : F → Reason) (budget : ℕ) (ws : List (Worker X)) (m : Contents X) (l : Log X) (o : Option Reason) (r : Result Drained (DrainStop (RunFault F)))
    (ws' : List (Worker X)) (m' : Contents X) (l' : Log X) → no_drain m ws ≡ o → DrainedAs reason (drain_unless blank o budget ws m l) r ws' m' l' →
    DrainedAs reason (drained blank budget ws m l) r ws' m' l'
by_checks blank reason budget ws m l o r ws' m' l' e h = subst (λ (x : Option Reason). DrainedAs reason (drain_unless blank x budget ws m l) r ws' m' l') (sym e) h

-- a check refuses it before the first step
pub checked_out : {X F : Type 0} (blank : X) (reason : F → Reason) (budget : ℕ) (ws : List (Worker X)) (m : Contents X) (l : Log X) (e : DrainStop (RunFault F)) →
    e.steps ≡ 0 → no_drain m ws ≡ Some (run_reason reason e.fault) → DrainedAs reason (drained blank budget ws m l) (Err e) ws m l
checked_out blank reason budget ws m l e zero why =
    by_checks blank reason budget ws m l (Some (run_reason reason e.fault)) (Err e) ws m l why
    (as_ended blank reason _ (Err e) ws m l (ap (λ (n : ℕ). ends blank n (Err (run_reason reason e.fault)) ws m l) (sym zero)))

pub step_fault : {F : Type 0} (reason : F → Reason) (layer : Layer) (f : RunFault (QueueFault F)) → StepFault reason layer f → DrainFault reason layer f
step_fault reason layer NoCells o = absurd o
step_fault reason layer (WorkerCount n) o = absurd o
step_fault reason layer StillOpen o = absurd o
step_fault reason layer (NoItemLeft turn) o = o
step_fault reason layer (Below f) o = o

pub no_check : {F : Type 0} (reason : F → Reason) (layer : Layer) (f : RunFault (QueueFault F)) → StepFault reason layer f → OfChecks f → ⊥
no_check reason layer NoCells o c = o
no_check reason layer (WorkerCount n) o c = o
no_check reason layer StillOpen o c = o
no_check reason layer (NoItemLeft turn) o c = o
no_check reason layer (Below f) o c = c
