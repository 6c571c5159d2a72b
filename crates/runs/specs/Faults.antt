-- What the faults of runs tell.
use Rattle.std.specs.Prelude.{◌⊎◌}
use Rattle.stores.specs.declared.refusal.Layer.{Layer}
use Rattle.stores.specs.declared.refusal.Layer.TheVariants.{Run}
use Rattle.stores.specs.Refusals.{Reason, reason_by}
use Rattle.queue.specs.declared.fault.QueueFault.{QueueFault}
use Rattle.queue.specs.Faults.{Own, Carries}
use Rattle.runs.specs.declared.fault.RunFault.{RunFault}
use Rattle.runs.specs.declared.fault.RunFault.TheVariants.{NoCells, WorkerCount, StillOpen, NoItemLeft, Below}

abbrev pub run_layer : Layer
run_layer = Run

-- a fault from below keeps its number and its place, under this layer's name
abbrev pub run_reason : {F : Type 0} → (F → Reason) → RunFault F → Reason
run_reason reason NoCells = reason_by Run 1 0
run_reason reason (WorkerCount n) = reason_by Run 3 n
run_reason reason StillOpen = reason_by Run 11 0
run_reason reason (NoItemLeft turn) = reason_by Run 14 turn
run_reason reason (Below f) = reason_by Run (reason f).number (reason f).place

-- a drain's fault: one of its own three, or the fault of a worker's step, carried whole
abbrev pub DrainFault : {F : Type 0} → (F → Reason) → Layer → RunFault (QueueFault F) → Type 0
DrainFault reason layer NoCells = Unit {0}
DrainFault reason layer (WorkerCount n) = Unit {0}
DrainFault reason layer StillOpen = Unit {0}
DrainFault reason layer (NoItemLeft turn) = ⊥
DrainFault reason layer (Below f) = Carries reason layer f

-- the fault of a drain's step: that of the worker's step, carried whole
abbrev pub StepFault : {F : Type 0} → (F → Reason) → Layer → RunFault (QueueFault F) → Type 0
StepFault reason layer NoCells = ⊥
StepFault reason layer (WorkerCount n) = ⊥
StepFault reason layer StillOpen = ⊥
StepFault reason layer (NoItemLeft turn) = ⊥
StepFault reason layer (Below f) = Carries reason layer f

-- the fault of a turn: no item was left, or the fault of the queue's call, carried whole
abbrev pub TurnFault : {F : Type 0} → (F → Reason) → Layer → RunFault (QueueFault F) → Type 0
TurnFault reason layer NoCells = ⊥
TurnFault reason layer (WorkerCount n) = ⊥
TurnFault reason layer StillOpen = ⊥
TurnFault reason layer (NoItemLeft turn) = Unit {0}
TurnFault reason layer (Below f) = Own f ⊎ Carries reason layer f

-- the fault of a refused lay out, carried whole
abbrev pub LayOutFault : {F : Type 0} → RunFault (QueueFault F) → Type 0
LayOutFault NoCells = ⊥
LayOutFault (WorkerCount n) = ⊥
LayOutFault StillOpen = ⊥
LayOutFault (NoItemLeft turn) = ⊥
LayOutFault (Below f) = Own f
