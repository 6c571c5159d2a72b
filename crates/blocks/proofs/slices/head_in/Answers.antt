use Rattle.std.proofs.Common.{◌^◌, min, sym, ap, ◌∙◌}
use Rattle.layout.proofs.Fits.{head_fit, head_unfit}
use Rattle.blocks.proofs.slices.head_in.Goals as goal

pub returns-then-is_fit-clause-value : goal.returns-then-is_fit-clause-value
returns-then-is_fit-clause-value g c =
    c.min.ensures ∙ ap (λ w. min w (2 ^ 40)) c.word_at.ensures
    ∙ head_fit g.I.ItemKind.item c.args.n c.args.mem.now (sym c.if-is_fit.ensures)

pub returns-else-is_fit-clause-value : goal.returns-else-is_fit-clause-value
returns-else-is_fit-clause-value g c = head_unfit g.I.ItemKind.item c.args.n c.args.mem.now (sym c.if-is_fit.ensures)
