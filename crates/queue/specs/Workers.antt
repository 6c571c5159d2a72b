-- What a worker's step answers: the record that it leaves, and refusals by their reason.
use Rattle.std.specs.Prelude.{Ok, Err, Result}
use Rattle.stores.specs.Refusals.{Reason}
use Rattle.protocol.specs.declared.answer.WorkerAnswer.{WorkerAnswer}
use Rattle.protocol.specs.Rules.{Moved}
use Rattle.queue.specs.declared.worker.phases.Moved.{Moved as Made}

abbrev pub moved_view : {X : Type 0} → Made X → Moved X
moved_view v = record { answer = v.answer; worker = v.worker }

abbrev pub moved_answer : {X F : Type 0} → (F → Reason) → Result (Made X) F → Result (Moved X) Reason
moved_answer reason (Ok v) = Ok (moved_view v)
moved_answer reason (Err f) = Err (reason f)

abbrev pub worker_answer : {X F : Type 0} → (F → Reason) → Result (WorkerAnswer X) F → Result (WorkerAnswer X) Reason
worker_answer reason (Ok a) = Ok a
worker_answer reason (Err f) = Err (reason f)
