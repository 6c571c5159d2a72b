-- What the receiver's calls are about: its record without the bound, and answers without permits.
use Rattle.std.specs.Prelude.{ℤ, Some, None, Ok, Err, Option, Result}
use Rattle.stores.specs.Refusals.{Reason}
use Rattle.protocol.specs.declared.answer.ReceiverAnswer.{ReceiverAnswer}
use Rattle.protocol.specs.declared.answer.ReceiverAnswer.TheVariants as answer
use Rattle.protocol.specs.Records.{Receiver}
use Rattle.queue.specs.declared.permit.Refused.{Refused}
use Rattle.queue.specs.declared.permit.ReceiverStep.{ReceiverStep}
use Rattle.queue.specs.declared.permit.ReceiverStep.TheVariants.{Stepped, Skipped, Announced}
use Rattle.queue.specs.declared.receiver.Receiver.{Receiver as Held}

abbrev pub receiver_view : {X : Type 0} → Held X → Receiver X
receiver_view r = record { tail = r.tail; phase = r.phase; hand = r.hand }

-- why a call is refused, if it is; `reason` tells of a fault
abbrev pub refusal_of : {V P F : Type 0} → (F → Reason) → Result V (Refused P F) → Option Reason
refusal_of reason (Ok v) = None
refusal_of reason (Err r) = Some (reason r.fault)

-- what a receiver step answers
abbrev pub step_said : ReceiverStep → ReceiverAnswer
step_said (Stepped permit phase tail) = answer.Stepped phase tail
step_said (Skipped permit rank) = answer.Skipped rank
step_said (Announced permit rank) = answer.Announced rank

abbrev pub step_answer : {P F : Type 0} → (F → Reason) → Result ReceiverStep (Refused P F) → Result ReceiverAnswer Reason
step_answer reason (Ok s) = Ok (step_said s)
step_answer reason (Err r) = Err (reason r.fault)

-- what a close answers: the end mark, or why it is refused
abbrev pub close_answer : {P F : Type 0} → (F → Reason) → Result ℤ (Refused P F) → Result ℤ Reason
close_answer reason (Ok mark) = Ok mark
close_answer reason (Err r) = Err (reason r.fault)

-- v, unless there is a refusal
abbrev pub answer_unless : {V : Type 0} → Option Reason → V → Result V Reason
answer_unless None v = Ok v
answer_unless (Some why) v = Err why
