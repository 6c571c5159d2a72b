-- The sizes that an arrangement fits, the place of each cell, and the cell at each place.
use Rattle.std.specs.Prelude.{ℕ, ◌+◌, ◌*◌, ◌/◌, ◌%◌, Bool, true, cond, ◌&&◌, Some, None, Option, ◌==◌, count_ones, nat_le, nat_lt}

-- v, where n fits and i is below it
abbrev pub in_range : Bool → ℕ → ℕ → ℕ → Option ℕ
in_range fits n i v = cond (fits && nat_lt i n) (Some v) None

-- straight: every size, each cell at the place of its own number
abbrev pub every_size : ℕ → Bool
every_size n = true

abbrev pub same_number : ℕ → ℕ → ℕ
same_number n i = i

-- turned: the powers of two from 16 to 65,536, which have a single 1 in binary
abbrev pub turned_size : ℕ → Bool
turned_size n = nat_le 16 n && nat_le n 65536 && count_ones n == 1

-- the cells in so many rows, placed column by column: n / rows is the length of a row
abbrev pub turned_place : ℕ → ℕ → ℕ → ℕ
turned_place rows n i = (i % (n / rows)) * rows + i / (n / rows)

abbrev pub turned_cell : ℕ → ℕ → ℕ → ℕ
turned_cell rows n p = (p % rows) * (n / rows) + p / rows
