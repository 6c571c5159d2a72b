-- All that is printed of a rehearsal.
use Rattle.std.specs.Prelude.{ℕ, List, [], ◌++◌, ℤ, Some, None, Option}
use Rattle.std.specs.List.{flat_map}
use Rattle.items.specs.declared.reading.Reading.{Reading}
use Rattle.protocol.specs.declared.record.Entry.{Entry}
use Rattle.reports.specs.declared.lines.Stopped.{Stopped}
use Rattle.reports.specs.Lines.{entry_line, stopped_line, end_line}

-- the line of a refused turn, if there is one
abbrev pub stop_text : Option Stopped → List ℕ
stop_text None = []
stop_text (Some s) = stopped_line s

-- a line for each entry in order, that of a refused turn, and the end mark
abbrev pub report_text : List (Entry Reading) → Option Stopped → ℤ → List ℕ
report_text entries stopped mark = flat_map entry_line entries ++ (stop_text stopped ++ end_line mark)
