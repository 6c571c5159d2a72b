use Rattle.std.proofs.Common.{◌≡◌, string_bytes}
use Rattle.inspection.specs.Lines.{cell_lines}
use Rattle.inspection.proofs.lines.cells_text.Given as goal

abbrev pub invariant-loop-i : goal.invariant-loop-i
invariant-loop-i l = string_bytes l.text ≡ cell_lines l.memory l.i
