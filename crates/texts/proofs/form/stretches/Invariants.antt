use Rattle.std.proofs.Common.{◌≡◌, ◌+◌, ◌≤◌, map, take, vec_items}
use Rattle.std.specs.List.{AllByRecursion}
use Rattle.grammar.specs.Plans.{turn_count, stretch_words}
use Rattle.texts.specs.Words.{token_of}
use Rattle.texts.proofs.form.stretches.Given as goal

abbrev pub invariant-loop-word : goal.invariant-loop-word
invariant-loop-word l =
    (map token_of (take l.word-index l.words) ≡ stretch_words (vec_items l.stretches))
    × AllByRecursion (λ s. (s.party ≤ l.workers) × (1 ≤ s.count)) (vec_items l.stretches)
    × (turn_count (vec_items l.stretches) + l.room ≡ 4096)
