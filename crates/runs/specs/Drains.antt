-- What a drain answers: its steps, and whether it finished or why it stopped.
use Rattle.std.specs.Prelude.{◌≡◌, ℕ, Bool, List, Ok, Err, Result}
use Rattle.stores.specs.Refusals.{Reason}
use Rattle.stores.specs.Model.{Contents}
use Rattle.protocol.specs.declared.record.Worker.{Worker}
use Rattle.protocol.specs.Records.{Log}
use Rattle.schedules.specs.Drains.{Drained as Drain}
use Rattle.runs.specs.declared.draining.Drained.{Drained}
use Rattle.runs.specs.declared.draining.DrainStop.{DrainStop}
use Rattle.runs.specs.declared.fault.RunFault.{RunFault}
use Rattle.runs.specs.declared.fault.RunFault.TheVariants.{NoCells, WorkerCount, StillOpen, NoItemLeft, Below}
use Rattle.runs.specs.Faults.{run_reason}

module _ {F : Type 0} where
  abbrev pub steps_of : Result Drained (DrainStop (RunFault F)) → ℕ
  steps_of (Ok d) = d.steps
  steps_of (Err e) = e.steps

  abbrev pub outcome_of : (F → Reason) → Result Drained (DrainStop (RunFault F)) → Result Bool Reason
  outcome_of reason (Ok d) = Ok d.finished
  outcome_of reason (Err e) = Err (run_reason reason e.fault)

  -- it is refused by one of its checks, before the first step
  abbrev pub OfChecks : RunFault F → Type 0
  OfChecks NoCells = Unit {0}
  OfChecks (WorkerCount n) = Unit {0}
  OfChecks StillOpen = Unit {0}
  OfChecks (NoItemLeft turn) = ⊥
  OfChecks (Below f) = ⊥

  -- the answer r, and the workers, the store's model and the log that are left, are those of the drain d
  pub record DrainedAs {X : Type 0} (reason : F → Reason) (d : Drain X) (r : Result Drained (DrainStop (RunFault F))) (ws : List (Worker X)) (m : Contents X) (l : Log X) : Type 0 where
    pub steps : steps_of r ≡ d.steps
    pub outcome : outcome_of reason r ≡ d.outcome
    pub workers : ws ≡ d.workers
    pub store : m ≡ d.store
    pub log : l ≡ d.log
