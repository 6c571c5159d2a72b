-- The state of a queue as the relation of its steps sees it.
use Rattle.std.specs.Prelude.{ℕ, cond, List, ℤ, Option, ◌==◌}
use Rattle.stores.specs.declared.cell.Cell.{Cell}
use Rattle.protocol.specs.declared.record.ReceiverPhase.{ReceiverPhase}
use Rattle.protocol.specs.declared.record.Worker.{Worker}
use Rattle.protocol.specs.declared.record.Entry.{Entry}

-- what the receiver may do: `free` to submit or close, `full` to step or withdraw, nothing once it is `spent`
pub data Permit : Type 0 where
  free full spent : Permit

-- what never changes: the numbers of cells, of workers and of log entries that there is room for
pub record Sizes : Type 0 where
  pub cells : ℕ
  pub workers : ℕ
  pub room : ℕ

-- head, end mark and cells are the store's; tail, phase and hand the receiver's; X is the type of items.
-- Cells and workers are tables: functions of a number
pub record State (X : Type 0) : Type 0 where
  pub head : ℕ
  pub end : ℤ
  pub cells : ℕ → Cell X
  pub tail : ℕ
  pub phase : ReceiverPhase
  pub hand : Option X
  pub permit : Permit
  pub workers : ℕ → Worker X
  pub log : List (Entry X)

-- a table with place i changed
unfoldable pub put : {V : Type 0} → (ℕ → V) → ℕ → V → ℕ → V
put f i v j = cond (j == i) v (f j)
