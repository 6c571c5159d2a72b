-- What a store of so many cells checks before a call, and the fault where it does not hold.
use Rattle.std.specs.Prelude.{ℕ, ◌^◌, cond, Ok, Err, Result, ◌==◌, nat_lt}
use Rattle.stores.specs.declared.refusal.StoreFault.{StoreFault}
use Rattle.stores.specs.declared.refusal.StoreFault.TheVariants.{NoSuchCell, NoCells, StartTooHigh}

-- there is a cell i
abbrev pub cell_check : ℕ → ℕ → Result Unit StoreFault
cell_check n i = cond (nat_lt i n) (Ok tt) (Err (NoSuchCell i))

-- there is a cell
abbrev pub some_check : ℕ → Result Unit StoreFault
some_check n = cond (n == 0) (Err NoCells) (Ok tt)

-- there is a cell, and the start is a rank
abbrev pub start_check : ℕ → ℕ → Result Unit StoreFault
start_check n start = cond (n == 0) (Err NoCells) (cond (nat_lt start (2 ^ 40)) (Ok tt) (Err StartTooHigh))
