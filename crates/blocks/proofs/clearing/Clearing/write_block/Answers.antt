use Rattle.std.proofs.Common.{◌≡◌, ℕ, ◌+◌, ◌%◌, ◌^◌, sym, ap, ◌∙◌, add-one, arith}
use Rattle.stores.specs.Model.{cleared}
use Rattle.layout.specs.Image.{plain, sum_of}
use Rattle.layout.proofs.Images.{full_plain, full_check}
use Rattle.layout.proofs.Sums.{sum_of_none, sum_of_more}
use Rattle.layout.proofs.Writing.{written_more}
use Rattle.blocks.proofs.clearing.Clearing.write_block.Goals as goal

pub loop-j-init : goal.loop-j-init
loop-j-init c =
    let f : ℕ → ℕ → ℕ = plain (cleared c.args.self.blank c.args.self.cells c.args.self.start) in
    ((λ i h. c.requires.before i (omega arith)), omega (arith, sum_of_none f c.args.b))

pub loop-j-preserved : goal.loop-j-preserved
loop-j-preserved c =
    let f : ℕ → ℕ → ℕ = plain (cleared c.args.self.blank c.args.self.cells c.args.self.start) in
    let w = c.word-w.ensures ∙ sym (full_plain f c.args.b c.loop-j.j c.loop-j-test.true) in
    let more : sum_of f c.args.b (c.loop-j.j + 1) ≡ sum_of f c.args.b c.loop-j.j + c.word-w.result =
    rw add-one (sum_of_more f c.args.b c.loop-j.j ∙ ap (λ x. sum_of f c.args.b c.loop-j.j + x) (sym c.word-w.ensures)) in (
      written_more f c.loop-j.mem c.put_word.new.mem c.args.b c.loop-j.j c.word-w.result _ (omega arith) (omega arith) w
          c.put_word.ensures (omega arith) c.loop-j.invariant.0,
      omega (arith, c.loop-j.invariant.1),
    )

pub returns : goal.returns
returns c =
    let f : ℕ → ℕ → ℕ = plain (cleared c.args.self.blank c.args.self.cells c.args.self.start) in
    let done : c.loop-j.j ≡ 63 = omega arith in
    let check = c.loop-j.invariant.1 ∙ ap (λ j. (c.args.b + 1 + sum_of f c.args.b j) % 2 ^ 64) done ∙ sym (full_check f c.args.b 63 (omega arith)) in
    written_more f c.loop-j.mem c.put_word-2.new.mem c.args.b 63 c.loop-j.check _ (omega arith) (omega arith) check
    c.put_word-2.ensures (omega arith) (λ i h. c.loop-j.invariant.0 i (omega arith))
