-- What the faults of the queue tell.
use Rattle.std.specs.Prelude.{◌≡◌, Some, None, Ok, Err, Option, Result}
use Rattle.stores.specs.declared.refusal.Layer.{Layer}
use Rattle.stores.specs.declared.refusal.Layer.TheVariants.{Queue}
use Rattle.stores.specs.Refusals.{Reason, reason_by}
use Rattle.queue.specs.declared.fault.QueueFault.{QueueFault}
use Rattle.queue.specs.declared.fault.QueueFault.TheVariants.{NoCells, StartTooHigh, WorkerCount, Closed, HandFull, TailAtLimit, LogFull, RankOutOfRange, HandEmpty, NoSuchWorker, Below}

abbrev pub queue_layer : Layer
queue_layer = Queue

-- a fault from below keeps its number and its place, under this layer's name
abbrev pub queue_reason : {F : Type 0} → (F → Reason) → QueueFault F → Reason
queue_reason reason NoCells = reason_by Queue 1 0
queue_reason reason StartTooHigh = reason_by Queue 2 0
queue_reason reason (WorkerCount n) = reason_by Queue 3 n
queue_reason reason Closed = reason_by Queue 4 0
queue_reason reason HandFull = reason_by Queue 5 0
queue_reason reason TailAtLimit = reason_by Queue 6 0
queue_reason reason (LogFull k) = reason_by Queue 7 k
queue_reason reason (RankOutOfRange k) = reason_by Queue 8 k
queue_reason reason HandEmpty = reason_by Queue 9 0
queue_reason reason (NoSuchWorker k) = reason_by Queue 10 k
queue_reason reason (Below f) = reason_by Queue (reason f).number (reason f).place

-- a fault of the queue's own
abbrev pub Own : {F : Type 0} → QueueFault F → Type 0
Own NoCells = Unit {0}
Own StartTooHigh = Unit {0}
Own (WorkerCount n) = Unit {0}
Own Closed = Unit {0}
Own HandFull = Unit {0}
Own TailAtLimit = Unit {0}
Own (LogFull k) = Unit {0}
Own (RankOutOfRange k) = Unit {0}
Own HandEmpty = Unit {0}
Own (NoSuchWorker k) = Unit {0}
Own (Below f) = ⊥

-- a fault of a call that takes ranks: one from below is the store's own refusal for want of ranks,
-- and no other fault says that
abbrev pub Carries : {F : Type 0} → (F → Reason) → Layer → QueueFault F → Type 0
Carries reason layer NoCells = Unit {0}
Carries reason layer StartTooHigh = Unit {0}
Carries reason layer (WorkerCount n) = Unit {0}
Carries reason layer Closed = Unit {0}
Carries reason layer HandFull = Unit {0}
Carries reason layer TailAtLimit = ⊥
Carries reason layer (LogFull k) = Unit {0}
Carries reason layer (RankOutOfRange k) = Unit {0}
Carries reason layer HandEmpty = Unit {0}
Carries reason layer (NoSuchWorker k) = Unit {0}
Carries reason layer (Below f) = reason f ≡ reason_by layer 6 0

-- why a call is refused, if it is
abbrev pub reason_of : {V F : Type 0} → (F → Reason) → Result V F → Option Reason
reason_of reason (Ok v) = None
reason_of reason (Err f) = Some (reason f)
