use Rattle.std.proofs.Common.{sym, ap, ◌∙◌, subst, MatchResult}
use Rattle.queue.specs.Faults.{queue_reason}
use Rattle.lives.specs.Lent.{queue_view}
use Rattle.lives.specs.Permits.{permit_of}
use Rattle.lives.specs.Turns.{told, Accepted, FaultOf}
use Rattle.runs.proofs.Turns.{turn_accepted, turn_refused, turn_is, hand_after, size_after, turn_fault}
use Rattle.runs.proofs.rehearsing.take_turn.Goals as goal

pub returns-in-Ok : goal.returns-in-Ok
returns-in-Ok g c =
    let blank = g.I.ItemKind.blank in
    let reason = queue_reason g.S.Fault.Refusal.reason in
    let q = queue_view g.S.Store.model c.args.parts.now (permit_of c.args.side.held) in
    let new = queue_view g.S.Store.model c.make-held.new.self (permit_of c.make-held.result.held) in
    let items = c.args.side.items.now in
    let call = c.in-Some.call in
    let answer = c.make-held.result.answer in
    let made = c.make-held.ensures in
    let is = turn_is blank q items c.args.party call new (told reason answer) c.requires c.in-Some.ensures in
    record {
      went = λ next.
          turn_accepted blank reason q items c.args.party c.args.turn call new answer is made.made next c.in-Ok.field-0 _ c.in-Ok.is made.fault
          ∙ ap (next new) (sym c.items_after.ensures);
      hand = hand_after blank q items c.args.party call new (told reason answer) c.requires is made.made;
      size = size_after blank q items c.args.party call new (told reason answer) c.requires made.made;
      fault = tt;
      lent = made.lent;
    }

pub returns-in-Err : goal.returns-in-Err
returns-in-Err g c =
    let blank = g.I.ItemKind.blank in
    let reason = queue_reason g.S.Fault.Refusal.reason in
    let q = queue_view g.S.Store.model c.args.parts.now (permit_of c.args.side.held) in
    let new = queue_view g.S.Store.model c.make-held.new.self (permit_of c.make-held.result.held) in
    let items = c.args.side.items.now in
    let call = c.in-Some.call in
    let answer = c.make-held.result.answer in
    let made = c.make-held.ensures in
    let is = turn_is blank q items c.args.party call new (told reason answer) c.requires c.in-Some.ensures in
    record {
      went = λ next. turn_refused blank reason q items c.args.party c.args.turn call new answer is made.made next c.in-Err.fault c.in-Err.is;
      hand = hand_after blank q items c.args.party call new (told reason answer) c.requires is made.made;
      size = size_after blank q items c.args.party call new (told reason answer) c.requires made.made;
      fault =
          turn_fault g.S.Fault.Refusal.reason g.S.Fault.Refusal.layer call c.in-Err.fault
          (subst (λ o. MatchResult o Accepted (FaultOf g.S.Fault.Refusal.reason g.S.Fault.Refusal.layer call)) c.in-Err.is made.fault);
      lent = made.lent;
    }
