use Rattle.std.proofs.Common.{◌≡◌, ℕ, ◌+◌, List, ◌++◌, ap, ◌∙◌, add-one, rules}
use Rattle.items.specs.Readings.{reading_of}
use Rattle.layout.specs.Decoding.{cell_in}
use Rattle.inspection.specs.Lines.{used_line, cell_lines}
use Rattle.inspection.proofs.lines.cells_text.Goals as goal

one_more : (m : List ℕ) (i : ℕ) (old line new : List ℕ) → old ≡ cell_lines m i → line ≡ used_line i (cell_in reading_of m i) →
    new ≡ old ++ line → new ≡ cell_lines m (i + 1)
one_more m i old line new a b e = rw add-one (e ∙ (λ j. a j ++ b j))

pub loop-i-preserved : goal.loop-i-preserved
loop-i-preserved c =
    let cell : c.unwrap-cell.result ≡ cell_in reading_of c.args.memory.now c.loop-i.i = search rules in
    one_more c.args.memory.now c.loop-i.i _ _ _ c.loop-i.invariant (ap (used_line c.loop-i.i) cell) c.in_ok-push_used.ensures
