-- One turn of a rehearsal, made as a call.
use Rattle.std.proofs.Common.{◌≡◌, ℕ, ◌+◌, ◌<◌, ◌⊎◌, List, length, get_or, drop, Some, Ok, Err, Result, sym, refl, ap, ◌∙◌, subst, inl, inr, MatchResult}
use Rattle.stores.specs.declared.refusal.Layer.{Layer}
use Rattle.stores.specs.Refusals.{Reason}
use Rattle.stores.specs.Model.{size}
use Rattle.protocol.specs.declared.answer.Call.{Call}
use Rattle.protocol.specs.declared.answer.Call.TheVariants.{Submit, Withdraw, ReceiverStep, WorkerStep, Close}
use Rattle.protocol.specs.declared.answer.Answer.{Answer}
use Rattle.protocol.specs.declared.answer.Answer.TheVariants.{NotMade, Refused, Submitted, Withdrew, Received, Worked, Closed}
use Rattle.protocol.specs.Lives.{Queue}
use Rattle.protocol.proofs.Lives.{sizes_kept}
use Rattle.queue.specs.declared.fault.QueueFault.{QueueFault}
use Rattle.queue.specs.Faults.{Own, Carries}
use Rattle.lives.specs.Turns.{Makes, told, Accepted, FaultOf}
use Rattle.schedules.specs.Drains.{refusal}
use Rattle.schedules.specs.Hands.{HandFits, party_call}
use Rattle.schedules.specs.Rehearsals.{Ended, turn_call, items_after, stops, by_answer, by_call, take_turns}
use Rattle.schedules.proofs.Rehearsing.{Fits, turn_fits, party_is_turn, turn_more}
use Rattle.runs.specs.declared.fault.RunFault.{RunFault}
use Rattle.runs.specs.Rehearsals.{went}

goes_on : {X : Type 0} (a : Answer X) (turn : ℕ) (q : Queue X) (e : Ended X) → Accepted a → by_answer a turn q e ≡ e
goes_on NotMade turn q e h = refl
goes_on (Refused number place) turn q e h = absurd h
goes_on Submitted turn q e h = refl
goes_on (Withdrew o) turn q e h = refl
goes_on (Received a) turn q e h = refl
goes_on (Worked a) turn q e h = refl
goes_on (Closed z) turn q e h = refl

module _ {X F : Type 0} (blank : X) (reason : F → Reason) (q : Queue X) (items : List X) (party turn : ℕ) (c : Call X) (q' : Queue X) (o : Result (Answer X) F)
    (is : turn_call q items party ≡ Some c) (made : Makes blank q c q' (told reason o)) (next : Queue X → List X → Ended X) where
  by_made : by_call blank (turn_call q items party) turn q items next ≡ by_answer (told reason o) turn q' (next q' (items_after c items))
  by_made =
      ap (λ x. by_call blank x turn q items next) is
      ∙ ap (λ m. by_answer m.answer turn m.queue (next m.queue (items_after c items))) made

  pub turn_accepted : (a : Answer X) (P : F → Type 0) → o ≡ Ok a → MatchResult o Accepted P → by_call blank (turn_call q items party) turn q items next ≡ next q' (items_after c items)
  turn_accepted a P e h =
      by_made ∙ ap (λ x. by_answer (told reason x) turn q' (next q' (items_after c items))) e
      ∙ goes_on a turn q' (next q' (items_after c items)) (subst (λ x. MatchResult x Accepted P) e h)

  pub turn_refused : (f : F) → o ≡ Err f → by_call blank (turn_call q items party) turn q items next ≡ stops turn q' (refusal (reason f).number (reason f).place)
  turn_refused f e = by_made ∙ ap (λ x. by_answer (told reason x) turn q' (next q' (items_after c items))) e

module _ {X : Type 0} (blank : X) (q : Queue X) (items : List X) (party : ℕ) (c : Call X) (q' : Queue X) (a : Answer X) (fits : HandFits q.permit q.receiver.hand) where
  -- the permit told the call
  pub turn_is : Some c ≡ party_call q.permit items party → turn_call q items party ≡ Some c
  turn_is e = sym (e ∙ party_is_turn blank q items party fits)

  pub hand_after : turn_call q items party ≡ Some c → Makes blank q c q' a → HandFits q'.permit q'.receiver.hand
  hand_after e made = subst (λ m. Fits blank m.queue) made (turn_fits blank q items party c e fits)

  pub size_after : Makes blank q c q' a → size q'.store ≡ size q.store
  size_after made = subst (λ m. size m.queue.store ≡ size q.store) made (ap (λ z. z.cells) (sizes_kept blank q c))

pub turn_fault : {X F : Type 0} (reason : F → Reason) (layer : Layer) (c : Call X) (f : QueueFault F) → FaultOf reason layer c f → Own f ⊎ Carries reason layer f
turn_fault reason layer (Submit x) f h = inl h
turn_fault reason layer Withdraw f h = absurd h
turn_fault reason layer ReceiverStep f h = inl h
turn_fault reason layer (WorkerStep k) f h = inr h
turn_fault reason layer Close f h = inl h

-- one turn more of a rehearsal that has come to turn i
pub turns_step : {X F : Type 0} (blank : X) (reason : F → Reason) (all : Ended X) (turns : List ℕ) (i : ℕ) (q : Queue X) (left : List X) (q' : Queue X) (left' : List X) (outcome : Result Unit (RunFault F)) →
    i < length turns → all ≡ take_turns blank i q left (drop i turns) →
    ((next : Queue X → List X → Ended X) → by_call blank (turn_call q left (get_or turns i 0)) i q left next ≡ went reason outcome i q' (next q' left')) →
    all ≡ went reason outcome i q' (take_turns blank (i + 1) q' left' (drop (i + 1) turns))
turns_step blank reason all turns i q left q' left' outcome h came goes =
    came ∙ turn_more blank i q left turns h ∙ goes (λ new rest. take_turns blank (i + 1) new rest (drop (i + 1) turns))
