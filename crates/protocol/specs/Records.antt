-- What the queue's calls read and write beside the store.
use Rattle.std.specs.Prelude.{ℕ, List, Option}
use Rattle.protocol.specs.declared.record.ReceiverPhase.{ReceiverPhase}
use Rattle.protocol.specs.declared.record.Entry.{Entry}

-- the receiver: the next rank to announce or skip, how far it is, and the item in hand
pub record Receiver (X : Type 0) : Type 0 where
  pub tail : ℕ
  pub phase : ReceiverPhase
  pub hand : Option X

-- the log: the entry memory, of which the first `count` are kept
pub record Log (X : Type 0) : Type 0 where
  pub entries : List (Entry X)
  pub count : ℕ
