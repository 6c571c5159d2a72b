-- The receiver's hand beside its permit: who holds a permit can tell by it whether the hand is empty.
use Rattle.std.specs.Prelude.{◌≡◌, ℕ, zero, suc, List, [], ◌∷◌, Some, None, Option}
use Rattle.protocol.specs.declared.answer.Call.{Call}
use Rattle.protocol.specs.declared.answer.Call.TheVariants.{Submit, ReceiverStep, WorkerStep}
use Rattle.protocol.specs.State.{Permit, free, full, spent}

module _ {X : Type 0} where
  -- the hand is empty while the permit is free, and full while it is full
  abbrev pub HandFits : Permit → Option X → Type 0
  HandFits free h = h ≡ None
  HandFits full h = (x : X) × (h ≡ Some x)
  HandFits spent h = ⊥

  abbrev pub receiver_call_by : Permit → List X → Option (Call X)
  receiver_call_by free [] = None
  receiver_call_by free (x ∷ items) = Some (Submit x)
  receiver_call_by full items = Some ReceiverStep
  receiver_call_by spent items = None

  -- the call of a party's turn, by the permit
  abbrev pub party_call : Permit → List X → ℕ → Option (Call X)
  party_call p items zero = receiver_call_by p items
  party_call p items (suc k) = Some (WorkerStep k)
