use Rattle.std.proofs.Common.{◌≡◌, ◌++◌, map, take, drop}
use Rattle.protocol.specs.Rules.{idled}
use Rattle.queue.proofs.laying.make_idle.Given as goal

abbrev pub invariant-loop-w : goal.invariant-loop-w
invariant-loop-w g l = l.workers ≡ map idled (take l.w-index l.initial.workers) ++ drop l.w-index l.initial.workers
