-- One call of a life: what it makes of the queue, and what it answers.
use Rattle.std.specs.Prelude.{◌≡◌, Ok, Err, Result}
use Rattle.stores.specs.declared.refusal.Layer.{Layer}
use Rattle.stores.specs.Refusals.{Reason}
use Rattle.protocol.specs.declared.answer.Call.{Call}
use Rattle.protocol.specs.declared.answer.Call.TheVariants.{Submit, Withdraw, ReceiverStep, WorkerStep, Close}
use Rattle.protocol.specs.declared.answer.Answer.{Answer}
use Rattle.protocol.specs.declared.answer.Answer.TheVariants.{NotMade, Refused, Submitted, Withdrew, Received, Worked, Closed}
use Rattle.protocol.specs.Lives.{Queue, make}
use Rattle.queue.specs.declared.fault.QueueFault.{QueueFault}
use Rattle.queue.specs.Faults.{Own, Carries}

module _ {X : Type 0} where
  -- the call c takes the queue q to `new` and answers a
  abbrev pub Makes : X → Queue X → Call X → Queue X → Answer X → Type 0
  Makes blank q c new a = make blank q c ≡ record { answer = a; queue = new }

  -- an answer in which a refusal is told by its number and place alone
  abbrev pub told : {F : Type 0} → (F → Reason) → Result (Answer X) F → Answer X
  told reason (Ok a) = a
  told reason (Err f) = Refused (reason f).number (reason f).place

  -- an answer that is no refusal
  abbrev pub Accepted : Answer X → Type 0
  Accepted NotMade = Unit {0}
  Accepted (Refused number place) = ⊥
  Accepted Submitted = Unit {0}
  Accepted (Withdrew h) = Unit {0}
  Accepted (Received a) = Unit {0}
  Accepted (Worked a) = Unit {0}
  Accepted (Closed e) = Unit {0}

  -- a fault of the call c: the queue's own or, of a worker's step, the store's for want of ranks
  abbrev pub FaultOf : {F : Type 0} → (F → Reason) → Layer → Call X → QueueFault F → Type 0
  FaultOf reason layer (Submit x) f = Own f
  FaultOf reason layer Withdraw f = ⊥
  FaultOf reason layer ReceiverStep f = Own f
  FaultOf reason layer (WorkerStep k) f = Carries reason layer f
  FaultOf reason layer Close f = Own f
