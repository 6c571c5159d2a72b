use Rattle.std.proofs.Common.{ap, ◌∙◌}
use Rattle.stores.specs.Model.{cleared}
use Rattle.layout.proofs.Fits.{fit_some, size_fit}
use Rattle.blocks.proofs.slices.clear_in.Goals as goal

pub write_cleared-requires-clause-fit : goal.write_cleared-requires-clause-fit
write_cleared-requires-clause-fit g c = fit_some g.I.ItemKind.item c.args.n c.args.mem.now 0 c.requires.some

pub returns-clause-model : goal.returns-clause-model
returns-clause-model g c =
    c.write_cleared.ensures.model
    ∙ ap (λ k. cleared g.I.ItemKind.blank k c.args.start) (size_fit g.I.ItemKind.item c.args.n c.args.mem.now (fit_some g.I.ItemKind.item c.args.n c.args.mem.now 0 c.requires.some))
