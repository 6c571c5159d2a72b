use Rattle.std.proofs.Common.{length, sym, ◌∙◌}
use Rattle.std.proofs.lemmas.Bool.{cond-false}
use Rattle.layout.specs.Blocks.{fit}
use Rattle.layout.proofs.Fits.{model_unfit, imaged_unfit}
use Rattle.blocks.proofs.slices.make_in.Goals as goal

pub returns-else-is_fit-clause-model : goal.returns-else-is_fit-clause-model
returns-else-is_fit-clause-model g c =
    let unfit = sym c.if-is_fit.ensures in
    model_unfit g.I.ItemKind.item c.args.n c.args.mem.now unfit ∙ sym (cond-false (fit (length c.args.mem.now) c.args.n) _ _ unfit)

pub returns-else-is_fit-clause-image : goal.returns-else-is_fit-clause-image
returns-else-is_fit-clause-image g c =
    imaged_unfit g.I.ItemKind.item c.args.n c.args.mem.now g.I.ItemKind.word (sym c.if-is_fit.ensures)
