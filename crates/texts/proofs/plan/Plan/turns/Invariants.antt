use Rattle.std.proofs.Common.{◌≡◌, take}
use Rattle.grammar.specs.Meanings.{turns_of}
use Rattle.texts.proofs.plan.Plan.turns.Given as goal

abbrev pub invariant-loop-stretch : goal.invariant-loop-stretch
invariant-loop-stretch l = l.turns.items ≡ turns_of (take l.stretch-index l.self.stretches.items)
