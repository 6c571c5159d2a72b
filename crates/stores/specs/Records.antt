-- The model of a store over lent cell records.
use Rattle.std.specs.Prelude.{ℕ, ◌^◌, ◌≤◌, min, Bool, true, false, cond, ◌&&◌, List, length, ℤ, nat_le, nat_lt}
use Rattle.std.proofs.Common.{arith}
use Rattle.stores.specs.declared.cell.Cell.{Cell}
use Rattle.stores.specs.declared.record.RecordMemory.{RecordMemory}
use Rattle.stores.specs.Model.{Contents, cleared, no_contents}

-- so many records make a store
abbrev pub records_fit : ℕ → Bool
records_fit n = nat_lt 0 n && nat_le n 65536

-- the lent records
abbrev pub records : {X : Type 0} → RecordMemory X → List (Cell X)
records s = s.cells.now

-- over records that make no store: no cells, head 0, end mark -1
abbrev pub record_model : {X : Type 0} → RecordMemory X → Contents X
record_model s =
    cond (records_fit (length (records s)))
    (record { head = min s.head (2 ^ 40); end = s.end; cells = records s })
    no_contents

-- what a store that is made over these records means
abbrev pub made_model : {X : Type 0} → X → List (Cell X) → Contents X
made_model blank cs = cond (records_fit (length cs)) (cleared blank (length cs) 0) no_contents

head_bound_at : {X : Type 0} (b : Bool) (h : ℕ) (z : ℤ) (cs : List (Cell X)) →
    (let m : Contents X = cond b (record { head = min h (2 ^ 40); end = z; cells = cs }) no_contents in m.head ≤ 2 ^ 40)
head_bound_at true h z cs = omega arith
head_bound_at false h z cs = omega arith

pub record_bound : {X : Type 0} (s : RecordMemory X) → (record_model s).head ≤ 2 ^ 40
record_bound s = head_bound_at (records_fit (length (records s))) s.head s.end (records s)
