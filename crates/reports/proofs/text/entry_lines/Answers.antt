use Rattle.std.proofs.Common.{◌≡◌, ℕ, ◌+◌, ◌<◌, List, [], ◌++◌, length, get_or, take, sym, ap, ◌∙◌, refl, arith}
use Rattle.std.specs.List.{flat_map}
use Rattle.std.proofs.lemmas.List.{take_more, take_all, flat_map_more}
use Rattle.items.specs.declared.reading.Reading.{Reading}
use Rattle.protocol.specs.declared.record.Entry.{Entry}
use Rattle.reports.specs.Lines.{entry_line}
use Rattle.reports.proofs.text.entry_lines.Goals as goal

one_more : (es : List (Entry Reading)) (i : ℕ) (d : Entry Reading) (old line new : List ℕ) → new ≡ old ++ line → i < length es →
    old ≡ flat_map entry_line (take i es) → line ≡ entry_line (get_or es i d) → new ≡ flat_map entry_line (take (i + 1) es)
one_more es i d old line new e h a b =
    e ∙ (λ j. a j ++ b j) ∙ flat_map_more entry_line [] (take i es) (get_or es i d) ∙ ap (flat_map entry_line) (sym (take_more es i d h))

pub loop-entry-preserved : goal.loop-entry-preserved
loop-entry-preserved c = one_more c.args.entries.now c.loop-entry.entry-index _ _ _ _ c.in_ok-push_entry.ensures (omega arith) c.loop-entry.invariant refl

pub returns : goal.returns
returns c =
    c.loop-entry.invariant ∙ ap (flat_map entry_line) (take_all c.loop-entry.entry-index c.args.entries.now (omega arith))
