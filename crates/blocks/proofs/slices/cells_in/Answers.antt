use Rattle.std.proofs.Common.{sym}
use Rattle.layout.proofs.Fits.{size_fit, size_unfit}
use Rattle.blocks.proofs.slices.cells_in.Goals as goal

pub returns-then-is_fit : goal.returns-then-is_fit
returns-then-is_fit g c = size_fit g.I.ItemKind.item c.args.n c.args.mem.now (sym c.if-is_fit.ensures)

pub returns-else-is_fit : goal.returns-else-is_fit
returns-else-is_fit g c = size_unfit g.I.ItemKind.item c.args.n c.args.mem.now (sym c.if-is_fit.ensures)
