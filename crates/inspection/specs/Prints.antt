-- All that is printed of an argument and a memory.
use Rattle.std.specs.Prelude.{◌≡◌, ℕ, List, ◌++◌, Some, None, Ok, Err, codes, Option, Result}
use Rattle.blocks.specs.declared.fault.BlockFault.{BlockFault}
use Rattle.blocks.specs.Inspection.{Inspected}
use Rattle.blocks.specs.Readings.{header_in}
use Rattle.inspection.specs.Arguments.{Counted}
use Rattle.inspection.specs.Lines.{usage_line, refused_line, header_lines, cell_lines}

-- of a memory of n cells whose checks hold
abbrev pub holds_text : List ℕ → ℕ → List ℕ
holds_text m n = codes "checks hold\n" ++ (header_lines n (header_in m) ++ (codes "\n" ++ cell_lines m n))

-- of the verdict of the inspection
abbrev pub verdict_text : List ℕ → ℕ → Result Prim.Unit BlockFault → List ℕ
verdict_text m n (Ok u) = holds_text m n
verdict_text m n (Err fault) = refused_line fault

-- `out` is what is printed of the argument and the memory m: exactly one text is
pub data Printed (argument : Option (List ℕ)) (m out : List ℕ) : Type 0 where
  usage : Counted argument None → out ≡ usage_line → Printed argument m out
  verdict : (n : ℕ) (r : Result Prim.Unit BlockFault) → Counted argument (Some n) → Inspected m n r → out ≡ verdict_text m n r → Printed argument m out
