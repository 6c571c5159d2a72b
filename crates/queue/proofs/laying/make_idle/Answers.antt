use Rattle.std.proofs.Common.{rules}
use Rattle.std.proofs.lemmas.List.Edits.{map_over_more}
use Rattle.protocol.specs.Rules.{idled}
use Rattle.queue.proofs.laying.make_idle.Goals as goal

pub loop-w-preserved : goal.loop-w-preserved
loop-w-preserved g c = search (rules, map_over_more (idled {X = g.row.I.Denot}))
