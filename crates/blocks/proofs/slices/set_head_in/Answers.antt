use Rattle.std.proofs.Common.{arith}
use Rattle.layout.proofs.Fits.{fits_some}
use Rattle.layout.proofs.Actions.{head_model, head_imaged}
use Rattle.blocks.proofs.slices.set_head_in.Goals as goal

pub store_word-requires-clause-block : goal.store_word-requires-clause-block
store_word-requires-clause-block g c = let f = fits_some g.I.ItemKind.item c.args.n c.args.mem.now 0 c.requires.some in omega (arith, f.whole)

pub returns : goal.returns
returns g c =
    record {
      model = head_model g.I.ItemKind.word g.I.ItemKind.item c.args.n c.args.mem.now c.requires.some _ c.args.head c.requires.low c.store_word.ensures;
      image = head_imaged g.I.ItemKind.word g.I.ItemKind.item c.args.n c.args.mem.now c.requires.some _ c.args.head c.requires.low c.store_word.ensures;
    }
