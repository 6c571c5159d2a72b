use Rattle.std.proofs.Common.{◌≡◌, ◌^◌, ◌<◌, true, length, sym, ap, ◌∙◌, arith}
use Rattle.stores.specs.Model.{cleared}
use Rattle.layout.specs.Blocks.{fit}
use Rattle.layout.specs.Image.{image}
use Rattle.layout.proofs.Fits.{fit_true}
use Rattle.layout.proofs.Clearing.{cleared_model, cleared_imaged}
use Rattle.blocks.proofs.slices.write_cleared.Goals as goal

pub returns : goal.returns
returns g c =
    let word = g.I.ItemKind.word in
    let item = g.I.ItemKind.item in
    let coded : c.encode.result ≡ word g.I.ItemKind.blank = c.encode.ensures.value ∙ ap word c.blank.ensures in
    let law : item (word g.I.ItemKind.blank) ≡ g.I.ItemKind.blank =
    ap (λ x. item (word x)) (sym c.blank.ensures) ∙ c.encode.ensures.law ∙ c.blank.ensures in
    let small : word g.I.ItemKind.blank < 2 ^ 64 = omega (arith, coded, c.encode.type_inv) in
    let fits : fit (length c.write.new.mem) c.args.n ≡ true = ap (λ k. fit k c.args.n) c.write.auto.mem ∙ c.requires.fit in
    let whole = fit_true (length c.write.new.mem) c.args.n fits in
    let wrote = c.write.ensures ∙ ap (λ w. image (cleared w c.args.n c.args.start)) coded in
    record {
      model = cleared_model word item g.I.ItemKind.blank law small c.args.n c.args.start c.requires.low c.write.new.mem whole wrote fits;
      image = cleared_imaged word item g.I.ItemKind.blank law small c.args.n c.args.start c.requires.low c.write.new.mem whole wrote;
    }
