use Rattle.std.proofs.Common.{sym, ap, ◌∙◌, w64, SFits, to_z, rules}
use Rattle.std.proofs.lemmas.Int.{to_z-of_z}
use Rattle.layout.proofs.Fits.{end_fit, end_unfit}
use Rattle.blocks.proofs.slices.end_in.Goals as goal

pub returns-then-is_fit : goal.returns-then-is_fit
returns-then-is_fit g c =
    let f : SFits w64 c.cast_signed.result = search rules in
    to_z-of_z w64 c.cast_signed.result f ∙ c.cast_signed.ensures ∙ ap (to_z w64) c.word_at.ensures
    ∙ end_fit g.I.ItemKind.item c.args.n c.args.mem.now (sym c.if-is_fit.ensures)

pub returns-else-is_fit : goal.returns-else-is_fit
returns-else-is_fit g c = end_unfit g.I.ItemKind.item c.args.n c.args.mem.now (sym c.if-is_fit.ensures)
