-- What is read from the bytes of a memory where they lie.
use Rattle.std.specs.Prelude.{ℕ, ◌/◌, cond, List, length, Some, None, Option, nat_lt}
use Rattle.std.specs.Int.{w64}
use Rattle.std.proofs.Common.{to_z}
use Rattle.stores.specs.declared.cell.Cell.{Cell}
use Rattle.layout.specs.Words.{word}
use Rattle.layout.specs.Blocks.{place}
use Rattle.layout.specs.Decoding.{cell_block, cell_in}
use Rattle.blocks.specs.declared.reading.Header.{Header}

-- words 0, 1 and 2 of block 0, if the memory has it whole
abbrev pub header_in : List ℕ → Header
header_in m = record { cells = word m (place 0 0); head = word m (place 0 1); end = to_z w64 (word m (place 0 2)) }

abbrev pub header_answer : List ℕ → Option Header
header_answer m = cond (nat_lt (length m) 512) None (Some (header_in m))

-- cell i, if the memory has its block whole; `item` reads a word as an item
abbrev pub cell_answer : {X : Type 0} → (ℕ → X) → List ℕ → ℕ → Option (Cell X)
cell_answer item m i = cond (nat_lt (cell_block i) (length m / 512)) (Some (cell_in item m i)) None
