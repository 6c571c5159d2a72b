-- The model of a store, and what each action makes of it.
use Rattle.std.specs.Prelude.{ℕ, List, [], length, replicate, ℤ, negsuc, slice_index_or, slice_set}
use Rattle.stores.specs.declared.cell.Cell.{Cell}

-- a head, an end mark and the cells; X is the type of items
pub record Contents (X : Type 0) : Type 0 where
  pub head : ℕ
  pub end : ℤ
  pub cells : List (Cell X)

-- the number of cells
abbrev pub size : {X : Type 0} → Contents X → ℕ
size m = length m.cells

-- a cell after a clear
abbrev pub fresh_cell : {X : Type 0} → X → Cell X
fresh_cell blank = record { item = blank; rank = negsuc 0; gap = negsuc 0 }

-- cell i; past the last one, a fresh cell
abbrev pub cell_of : {X : Type 0} → X → Contents X → ℕ → Cell X
cell_of blank m i = slice_index_or m.cells i (fresh_cell blank)

-- one part of a cell replaced
abbrev pub cell_item : {X : Type 0} → X → Cell X → Cell X
cell_item x c = record { item = x; rank = c.rank; gap = c.gap }

abbrev pub cell_rank : {X : Type 0} → ℤ → Cell X → Cell X
cell_rank z c = record { item = c.item; rank = z; gap = c.gap }

abbrev pub cell_gap : {X : Type 0} → ℤ → Cell X → Cell X
cell_gap z c = record { item = c.item; rank = c.rank; gap = z }

-- cell i replaced
abbrev pub with_cell : {X : Type 0} → Contents X → ℕ → Cell X → Contents X
with_cell m i c = record { head = m.head; end = m.end; cells = slice_set m.cells i c }

abbrev pub with_item : {X : Type 0} → X → Contents X → ℕ → X → Contents X
with_item blank m i x = with_cell m i (cell_item x (cell_of blank m i))

abbrev pub with_rank : {X : Type 0} → X → Contents X → ℕ → ℤ → Contents X
with_rank blank m i z = with_cell m i (cell_rank z (cell_of blank m i))

abbrev pub with_gap : {X : Type 0} → X → Contents X → ℕ → ℤ → Contents X
with_gap blank m i z = with_cell m i (cell_gap z (cell_of blank m i))

abbrev pub with_end : {X : Type 0} → Contents X → ℤ → Contents X
with_end m z = record { head = m.head; end = z; cells = m.cells }

abbrev pub with_head : {X : Type 0} → Contents X → ℕ → Contents X
with_head m h = record { head = h; end = m.end; cells = m.cells }

-- n cells after a clear at `start`
abbrev pub cleared : {X : Type 0} → X → ℕ → ℕ → Contents X
cleared blank n start = record { head = start; end = negsuc 0; cells = replicate n (fresh_cell blank) }

-- a store over memory that is no store's
abbrev pub no_contents : {X : Type 0} → Contents X
no_contents = record { head = 0; end = negsuc 0; cells = [] }
