use Rattle.std.proofs.Common.{◌≡◌, ap, ◌∙◌, arith, w64, of_z}
use Rattle.std.proofs.lemmas.Int.{to_z-of_z}
use Rattle.layout.proofs.Fits.{fits_some}
use Rattle.layout.proofs.Actions.{end_model, end_imaged}
use Rattle.blocks.proofs.slices.set_end_in.Goals as goal

pub store_word-requires-clause-block : goal.store_word-requires-clause-block
store_word-requires-clause-block g c = let f = fits_some g.I.ItemKind.item c.args.n c.args.mem.now 0 c.requires in omega (arith, f.whole)

pub returns : goal.returns
returns g c =
    let coded : c.cast_unsigned.result ≡ of_z w64 c.args.mark =
    c.cast_unsigned.ensures ∙ ap (of_z w64) (to_z-of_z w64 c.args.mark c.ranges.mark) in
    record {
      model = end_model g.I.ItemKind.word g.I.ItemKind.item c.args.n c.args.mem.now c.requires _ c.args.mark c.cast_unsigned.result c.ranges.mark c.cast_unsigned.type_inv coded
          c.store_word.ensures;
      image = end_imaged g.I.ItemKind.word g.I.ItemKind.item c.args.n c.args.mem.now c.requires _ c.args.mark c.cast_unsigned.result c.ranges.mark c.cast_unsigned.type_inv coded
          c.store_word.ensures;
    }
