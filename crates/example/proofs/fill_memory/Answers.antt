use Rattle.std.proofs.Common.{◌≡◌, false, cond, length, ap, ◌∙◌, lit<, rules}
use Rattle.std.proofs.lemmas.Bool.{cond-false, ne_eqb}
use Rattle.items.specs.Readings.{reading_word, reading_of, zero_reading}
use Rattle.stores.specs.Model.{size, cleared, no_contents}
use Rattle.layout.specs.Blocks.{fit}
use Rattle.layout.proofs.Fits.{imaged_bytes}
use Rattle.example.specs.Example.{example_contents, example_bytes}
use Rattle.example.proofs.fill_memory.Goals as goal

pub returns : goal.returns
unfolding example_bytes
returns c =
    record {
      fit = λ d e.
          let made = c.new-store.ensures.model ∙ ap (λ k. cond (fit k c.args.n) (cleared zero_reading c.args.n 0) no_contents) e
          ∙ ap (λ k. cond (fit 1536 k) (cleared zero_reading k 0) no_contents) d in
          let done = c.fill.ensures.filled made in
          let bytes : c.fill.new.store.mem.now ≡ example_bytes =
          imaged_bytes reading_of c.fill.new.store.n c.fill.new.store.mem.now reading_word example_contents (lit< tt)
          c.fill.new.store.image done.1 in
          (done.0, search rules);
      unfit = λ d ne.
          let off : fit (length c.args.mem.now) c.args.n ≡ false =
          ap (fit (length c.args.mem.now)) d ∙ ne_eqb (length c.args.mem.now) 1536 ne in
          let none = ap size (c.new-store.ensures.model ∙ cond-false (fit (length c.args.mem.now) c.args.n) _ _ off) in
          let same = c.fill.ensures.none none in
          let left : c.fill.new.store.mem.now ≡ c.args.mem.now = ap (λ s. s.mem.now) same.0 ∙ c.new-store.ensures.alone off in
          (search rules, same.1);
    }
