-- What can happen in the life of a queue.
use Rattle.std.specs.Prelude.{ℕ, List, ℤ, Option}
use Rattle.protocol.specs.declared.answer.Call.{Call}
use Rattle.protocol.specs.declared.answer.ReceiverAnswer.{ReceiverAnswer}
use Rattle.protocol.specs.declared.answer.WorkerAnswer.{WorkerAnswer}

-- a call with its answer
pub data Event (X : Type 0) : Type 0 where
  -- the permit that the call takes is not at hand
  not_made : Call X → Event X
  -- with the number and the place of the refusal
  refused : Call X → ℕ → ℕ → Event X
  submitted : X → Event X
  -- with the item that was in hand
  withdrew : Option X → Event X
  received : ReceiverAnswer → Event X
  -- with the worker's number
  worked : ℕ → WorkerAnswer X → Event X
  -- with the end mark
  closed : ℤ → Event X

-- events in their order
abbrev pub History : Type 0 → Type 0
History X = List (Event X)
