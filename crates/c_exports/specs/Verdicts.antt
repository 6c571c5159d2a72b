-- Answers about a block memory as two numbers.
use Rattle.std.specs.Prelude.{◌≡◌, ℕ, List, Ok, Err, Result}
use Rattle.blocks.specs.declared.fault.BlockFault.{BlockFault}
use Rattle.blocks.specs.Faults.{block_reason}
use Rattle.blocks.specs.Inspection.{Inspected}
use Rattle.c_exports.specs.declared.verdict.Verdict.{Verdict}

-- the number and the place of the refusal; both 0 where nothing is refused
abbrev pub verdict_of : Result Prim.Unit BlockFault → Verdict
verdict_of (Ok u) = record { number = 0; place = 0 }
verdict_of (Err e) = record { number = (block_reason e).number; place = (block_reason e).place }

-- v tells the answer to the inspection of the memory m for n cells, of which there is exactly one
pub record InspectedAs (m : List ℕ) (n : ℕ) (v : Verdict) : Type 0 where
  pub answer : Result Prim.Unit BlockFault
  pub inspected : Inspected m n answer
  pub told : v ≡ verdict_of answer
