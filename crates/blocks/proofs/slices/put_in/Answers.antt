use Rattle.std.proofs.Common.{◌≡◌, sym, ap, ◌∙◌, rules, w64, SFits, of_z}
use Rattle.std.proofs.lemmas.Int.{to_z-of_z}
use Rattle.layout.specs.Decoding.{block_model}
use Rattle.layout.proofs.Fits.{room}
use Rattle.layout.proofs.Actions.{item_model, item_imaged, rank_model, rank_imaged, gap_model, gap_imaged}
use Rattle.blocks.specs.Models.{with_part}
use Rattle.blocks.proofs.slices.put_in.Goals as goal

pub put_part-requires-clause-block : goal.put_part-requires-clause-block
put_part-requires-clause-block g c = room g.I.ItemKind.item c.args.n c.args.mem.now c.args.i c.requires

pub put_part-requires-in-Rank-clause-block : goal.put_part-requires-in-Rank-clause-block
put_part-requires-in-Rank-clause-block g c = room g.I.ItemKind.item c.args.n c.args.mem.now c.args.i c.requires

pub put_part-requires-in-Gap-clause-block : goal.put_part-requires-in-Gap-clause-block
put_part-requires-in-Gap-clause-block g c = room g.I.ItemKind.item c.args.n c.args.mem.now c.args.i c.requires

pub returns-in-Item : goal.returns-in-Item
returns-in-Item g c =
    record {
      model = item_model g.I.ItemKind.word g.I.ItemKind.item c.args.n c.args.mem.now g.I.ItemKind.blank c.args.i c.requires _ c.in-Item.item c.encode.result c.encode.type_inv
          c.encode.ensures.value c.encode.ensures.law c.put_part.ensures
          ∙ ap (with_part g.I.ItemKind.blank (block_model g.I.ItemKind.item c.args.n c.args.mem.now) c.args.i) (sym c.in-Item.is);
      image = item_imaged g.I.ItemKind.word g.I.ItemKind.item c.args.n c.args.mem.now g.I.ItemKind.blank c.args.i c.requires _ c.in-Item.item c.encode.result c.encode.type_inv
          c.encode.ensures.value c.encode.ensures.law c.put_part.ensures;
    }

pub returns-in-Rank : goal.returns-in-Rank
returns-in-Rank g c =
    let small : SFits w64 c.in-Rank.rank = search rules in
    let coded : c.cast_unsigned.result ≡ of_z w64 c.in-Rank.rank =
    c.cast_unsigned.ensures ∙ ap (of_z w64) (to_z-of_z w64 c.in-Rank.rank small) in
    record {
      model = rank_model g.I.ItemKind.word g.I.ItemKind.item c.args.n c.args.mem.now g.I.ItemKind.blank c.args.i c.requires _ c.in-Rank.rank c.cast_unsigned.result small
          c.cast_unsigned.type_inv coded c.put_part-in-Rank.ensures
          ∙ ap (with_part g.I.ItemKind.blank (block_model g.I.ItemKind.item c.args.n c.args.mem.now) c.args.i) (sym c.in-Rank.is);
      image = rank_imaged g.I.ItemKind.word g.I.ItemKind.item c.args.n c.args.mem.now g.I.ItemKind.blank c.args.i c.requires _ c.in-Rank.rank c.cast_unsigned.result small
          c.cast_unsigned.type_inv coded c.put_part-in-Rank.ensures;
    }

pub returns-in-Gap : goal.returns-in-Gap
returns-in-Gap g c =
    let small : SFits w64 c.in-Gap.gap = search rules in
    let coded : c.cast_unsigned-in-Gap.result ≡ of_z w64 c.in-Gap.gap =
    c.cast_unsigned-in-Gap.ensures ∙ ap (of_z w64) (to_z-of_z w64 c.in-Gap.gap small) in
    record {
      model = gap_model g.I.ItemKind.word g.I.ItemKind.item c.args.n c.args.mem.now g.I.ItemKind.blank c.args.i c.requires _ c.in-Gap.gap c.cast_unsigned-in-Gap.result small
          c.cast_unsigned-in-Gap.type_inv coded c.put_part-in-Gap.ensures
          ∙ ap (with_part g.I.ItemKind.blank (block_model g.I.ItemKind.item c.args.n c.args.mem.now) c.args.i) (sym c.in-Gap.is);
      image = gap_imaged g.I.ItemKind.word g.I.ItemKind.item c.args.n c.args.mem.now g.I.ItemKind.blank c.args.i c.requires _ c.in-Gap.gap c.cast_unsigned-in-Gap.result small
          c.cast_unsigned-in-Gap.type_inv coded c.put_part-in-Gap.ensures;
    }
