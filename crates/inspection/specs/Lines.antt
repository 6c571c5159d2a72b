-- The lines that are printed.
use Rattle.std.specs.Prelude.{ℕ, zero, suc, List, [], ◌++◌, ℤ, pos, negsuc, codes, decimal}
use Rattle.std.specs.Fmt.{signed_decimal}
use Rattle.items.specs.declared.reading.Reading.{Reading}
use Rattle.items.specs.Readings.{reading_of}
use Rattle.stores.specs.declared.cell.Cell.{Cell}
use Rattle.layout.specs.Decoding.{cell_in}
use Rattle.blocks.specs.declared.reading.Header.{Header}
use Rattle.blocks.specs.declared.fault.BlockFault.{BlockFault}
use Rattle.blocks.specs.Faults.{block_reason}

abbrev pub usage_line : List ℕ
usage_line = codes "usage: inspect CELLS < IMAGE (CELLS is a decimal number without leading zeros, below 2^64)\n"

abbrev pub refusal_line : ℕ → ℕ → List ℕ
refusal_line number place = codes "refused " ++ (decimal number ++ (codes " " ++ (decimal place ++ codes "\n")))

abbrev pub refused_line : BlockFault → List ℕ
refused_line fault = refusal_line (block_reason fault).number (block_reason fault).place

-- the number n of the call, and the counters of block 0 as they are stored; without the last line feed
abbrev pub header_lines : ℕ → Header → List ℕ
header_lines n h = codes "cells " ++ (decimal n ++ (codes "\nhead " ++ (decimal h.head ++ (codes "\nend " ++ signed_decimal h.end))))

-- the end of a cell's line
abbrev pub reading_part : Reading → List ℕ
reading_part r =
    codes "probe " ++ (decimal r.probe ++ (codes " sequence " ++ (decimal r.sequence ++ (codes " level " ++ signed_decimal r.level))))

abbrev pub cell_line : ℕ → Cell Reading → List ℕ
cell_line i c =
    codes "cell " ++ (decimal i ++ (codes " rank " ++ (signed_decimal c.rank ++ (codes " gap " ++ (signed_decimal c.gap
    ++ (codes " " ++ (reading_part c.item ++ codes "\n")))))))

-- a line, if the rank is 0 or more
abbrev pub if_used : ℤ → List ℕ → List ℕ
if_used (pos rank) line = line
if_used (negsuc rank) line = []

-- the line of cell i, if it is in use
abbrev pub used_line : ℕ → Cell Reading → List ℕ
used_line i c = if_used c.rank (cell_line i c)

-- the lines of the first n cells
abbrev pub cell_lines : List ℕ → ℕ → List ℕ
cell_lines m zero = []
cell_lines m (suc n) = cell_lines m n ++ used_line n (cell_in reading_of m n)
