use Rattle.std.proofs.Common.{◌-◌, length, vec_items}
use Rattle.texts.specs.Words.{whole}
use Rattle.texts.proofs.Steps.{Reading}
use Rattle.texts.proofs.lexer.Lexer.line.Given as goal

abbrev pub invariant-loop-word : goal.invariant-loop-word
invariant-loop-word l = Reading l.initial.self l.self (vec_items l.words)

abbrev pub decreases-loop-word : goal.decreases-loop-word
decreases-loop-word l = length (whole l.initial.self) - l.self.at
