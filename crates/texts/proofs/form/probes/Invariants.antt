use Rattle.std.proofs.Common.{◌≡◌, ◌≤◌, map, take, vec_items}
use Rattle.std.specs.List.{AllByRecursion}
use Rattle.grammar.specs.Plans.{probe_words}
use Rattle.texts.specs.Words.{token_of}
use Rattle.texts.proofs.form.probes.Given as goal

abbrev pub invariant-loop-word : goal.invariant-loop-word
invariant-loop-word l =
    (map token_of (take l.word-index l.words) ≡ probe_words (vec_items l.probes)) × AllByRecursion (λ p. p ≤ 65535) (vec_items l.probes)
