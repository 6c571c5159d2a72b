use Rattle.std.proofs.Common.{◌≡◌, drop}
use Rattle.stores.specs.Model.{size}
use Rattle.queue.specs.Receivers.{receiver_view}
use Rattle.lives.specs.Lent.{queue_view, SameParts}
use Rattle.lives.specs.Permits.{permit_of}
use Rattle.schedules.specs.Hands.{HandFits}
use Rattle.schedules.specs.Rehearsals.{take_turns}
use Rattle.runs.proofs.rehearsing.take_turns.Given as goal

abbrev pub invariant-loop-turn : goal.invariant-loop-turn
invariant-loop-turn g l = record {
  ended : take_turns g.I.ItemKind.blank 0 (queue_view g.S.Store.model l.initial.parts (permit_of l.initial.side.held)) l.initial.side.items.now l.turns
      ≡ take_turns g.I.ItemKind.blank l.turn (queue_view g.S.Store.model l.parts (permit_of l.side.held)) l.side.items.now (drop l.turn l.turns);
  hand : HandFits (permit_of l.side.held) (receiver_view l.parts.receiver.now).hand;
  size : size (g.S.Store.model l.parts.store.now) ≡ size (g.S.Store.model l.initial.parts.store.now);
  lent : SameParts g.S.Store.lender l.initial.parts l.parts;
}
