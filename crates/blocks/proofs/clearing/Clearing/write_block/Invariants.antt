use Rattle.std.proofs.Common.{◌≡◌, ◌+◌, ◌*◌, ◌%◌, ◌^◌}
use Rattle.stores.specs.Model.{cleared}
use Rattle.layout.specs.Image.{plain, sum_of, Written}
use Rattle.blocks.proofs.clearing.Clearing.write_block.Given as goal

abbrev pub invariant-loop-j : goal.invariant-loop-j
invariant-loop-j l =
    Written (plain (cleared l.self.blank l.self.cells l.self.start)) l.mem (512 * l.b + 8 * l.j)
    × (l.check ≡ (l.b + 1 + sum_of (plain (cleared l.self.blank l.self.cells l.self.start)) l.b l.j) % 2 ^ 64)
