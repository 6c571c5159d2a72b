use Rattle.std.proofs.Common.{◌*◌}
use Rattle.stores.specs.Model.{cleared}
use Rattle.layout.specs.Image.{plain, Written}
use Rattle.blocks.proofs.clearing.Clearing.write.Given as goal

abbrev pub invariant-loop-b : goal.invariant-loop-b
invariant-loop-b l = Written (plain (cleared l.self.blank l.self.cells l.self.start)) l.mem (512 * l.b)
