use Rattle.std.proofs.Common.{sym, ◌∙◌}
use Rattle.layout.proofs.Fits.{room, cell_model}
use Rattle.blocks.proofs.slices.cell_in.Goals as goal

pub cell_at-requires : goal.cell_at-requires
cell_at-requires g c = room g.I.ItemKind.item c.args.n c.args.mem.now c.args.i c.requires

pub returns : goal.returns
returns g c = c.cell_at.ensures ∙ sym (cell_model g.I.ItemKind.item c.args.n c.args.mem.now g.I.ItemKind.blank c.args.i c.requires)
