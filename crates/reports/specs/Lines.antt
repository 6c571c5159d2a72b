-- The bytes of each line that is printed.
use Rattle.std.specs.Prelude.{ℕ, List, ◌++◌, ℤ, codes, decimal}
use Rattle.std.specs.Fmt.{signed_decimal}
use Rattle.items.specs.declared.reading.Reading.{Reading}
use Rattle.protocol.specs.declared.record.Entry.{Entry}
use Rattle.reports.specs.declared.lines.Stopped.{Stopped}

-- probe, sequence and level
abbrev pub reading_part : Reading → List ℕ
reading_part r = decimal r.probe ++ (codes " " ++ (decimal r.sequence ++ (codes " " ++ signed_decimal r.level)))

-- rank and worker, and the reading
abbrev pub entry_line : Entry Reading → List ℕ
entry_line e = decimal e.rank ++ (codes " " ++ (decimal e.worker ++ (codes " " ++ (reading_part e.item ++ codes "\n"))))

-- the number of the refusal, and the turn
abbrev pub stopped_line : Stopped → List ℕ
stopped_line s = codes "stopped " ++ (decimal s.number ++ (codes " " ++ (decimal s.turn ++ codes "\n")))

-- the end mark
abbrev pub end_line : ℤ → List ℕ
end_line mark = codes "end " ++ (signed_decimal mark ++ codes "\n")

-- the number and the place of a refusal
abbrev pub refused_line : ℕ → ℕ → List ℕ
refused_line number place = codes "refused " ++ (decimal number ++ (codes " " ++ (decimal place ++ codes "\n")))
