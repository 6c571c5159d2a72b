use Rattle.std.proofs.Common.{length, sym, ap, ◌∙◌, arith}
use Rattle.std.proofs.lemmas.List.{length-replicate}
use Rattle.stores.specs.Model.{cleared, fresh_cell}
use Rattle.layout.specs.Blocks.{blocks_for}
use Rattle.layout.specs.Image.{plain, bytes_of}
use Rattle.layout.proofs.Fits.{fit_true}
use Rattle.layout.proofs.Writing.{written_all}
use Rattle.blocks.proofs.clearing.Clearing.write.Goals as goal

pub returns : goal.returns
returns c =
    let f = fit_true (length c.args.mem.now) c.args.self.cells c.requires in
    let fresh = cleared c.args.self.blank c.args.self.cells c.args.self.start in
    let n = length-replicate c.args.self.cells (fresh_cell c.args.self.blank) in
    written_all (plain fresh) c.loop-b.mem (blocks_for c.args.self.cells) (c.loop-b.auto.mem ∙ f.whole)
    (λ i h. c.loop-b.invariant i (omega arith))
    ∙ ap (λ k. bytes_of (plain fresh) (blocks_for k)) (sym n)
