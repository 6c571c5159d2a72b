use Rattle.std.proofs.Common.{◌+◌, drop, IfErr, ap, ◌∙◌, subst, rules}
use Rattle.queue.specs.Faults.{queue_reason}
use Rattle.lives.specs.Lent.{queue_view}
use Rattle.lives.specs.Permits.{permit_of}
use Rattle.schedules.specs.Rehearsals.{take_turns}
use Rattle.schedules.proofs.Rehearsing.{turns_over}
use Rattle.runs.specs.Faults.{TurnFault}
use Rattle.runs.specs.Rehearsals.{went}
use Rattle.runs.proofs.Turns.{turns_step}
use Rattle.runs.proofs.rehearsing.take_turns.Goals as goal

pub returns-in-Err : goal.returns-in-Err
returns-in-Err g c =
    let inv = c.loop-turn.invariant in
    let blank = g.I.ItemKind.blank in
    let reason = queue_reason g.S.Fault.Refusal.reason in
    let q = queue_view g.S.Store.model c.loop-turn.parts (permit_of c.loop-turn.side.held) in
    let taken = c.take_turn-outcome in
    let new = queue_view g.S.Store.model taken.new.parts (permit_of taken.result.side.held) in
    let turns = c.args.turns.now in
    let i = c.loop-turn.turn in
    let did = taken.ensures in
    record {
      ended =
          turns_step blank reason _ turns i q c.loop-turn.side.items.now new taken.result.side.items.now taken.result.outcome c.loop-turn-test.true inv.ended did.went
          ∙ ap (λ o. went reason o i new (take_turns blank (i + 1) new taken.result.side.items.now (drop (i + 1) turns))) c.in-Err.is;
      hand = did.hand;
      size = did.size ∙ inv.size;
      fault = subst (λ o. IfErr o (TurnFault g.S.Fault.Refusal.reason g.S.Fault.Refusal.layer)) c.in-Err.is did.fault;
      lent = search rules;
    }

pub loop-turn-preserved : goal.loop-turn-preserved
loop-turn-preserved g c =
    let inv = c.loop-turn.invariant in
    let blank = g.I.ItemKind.blank in
    let reason = queue_reason g.S.Fault.Refusal.reason in
    let q = queue_view g.S.Store.model c.loop-turn.parts (permit_of c.loop-turn.side.held) in
    let taken = c.take_turn-outcome in
    let new = queue_view g.S.Store.model taken.new.parts (permit_of taken.result.side.held) in
    let turns = c.args.turns.now in
    let i = c.loop-turn.turn in
    let did = taken.ensures in
    record {
      ended =
          turns_step blank reason _ turns i q c.loop-turn.side.items.now new taken.result.side.items.now taken.result.outcome c.loop-turn-test.true inv.ended did.went
          ∙ ap (λ o. went reason o i new (take_turns blank (i + 1) new taken.result.side.items.now (drop (i + 1) turns))) c.in_default.is;
      hand = did.hand;
      size = did.size ∙ inv.size;
      lent = search rules;
    }

pub returns : goal.returns
returns g c =
    let inv = c.loop-turn.invariant in
    record {
      ended =
          inv.ended
          ∙ turns_over g.I.ItemKind.blank c.loop-turn.turn (queue_view g.S.Store.model c.loop-turn.parts (permit_of c.loop-turn.side.held)) c.loop-turn.side.items.now
          c.args.turns.now c.loop-turn-test.false;
      hand = inv.hand;
      size = inv.size;
      fault = tt;
      lent = inv.lent;
    }
