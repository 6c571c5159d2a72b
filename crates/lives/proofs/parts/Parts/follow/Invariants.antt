use Rattle.std.proofs.Common.{take}
use Rattle.lives.specs.Lent.{queue_view, SameParts}
use Rattle.lives.specs.Permits.{permit_of}
use Rattle.lives.specs.Replays.{Lived}
use Rattle.lives.proofs.parts.Parts.follow.Given as goal

abbrev pub invariant-loop-i : goal.invariant-loop-i
invariant-loop-i g l = record {
  lived : Lived g.I.ItemKind.blank (queue_view g.S.Store.model l.initial.self (permit_of l.initial.held)) (take l.i l.calls)
      (queue_view g.S.Store.model l.self (permit_of l.held)) l.initial.answers l.answers;
  lent : SameParts g.S.Store.lender l.initial.self l.self;
}
