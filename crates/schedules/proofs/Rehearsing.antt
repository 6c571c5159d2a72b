-- A rehearsal is a life, and its hand is full just while its permit is.
use Rattle.std.proofs.Common.{◌≡◌, ℕ, zero, suc, ◌+◌, ◌<◌, ◌≤◌, Bool, true, false, cond, eqb, leb, List, [], ◌∷◌, ◌++◌, length, get_or, drop, Some, None, Ok, Err, Option, Result, sym, refl, ap, ◌∙◌, subst}
use Rattle.std.proofs.lemmas.List.{drop_more, drop_all}
use Rattle.stores.specs.Refusals.{Reason}
use Rattle.stores.specs.Model.{size, cell_of}
use Rattle.protocol.specs.declared.record.ReceiverPhase.{ReceiverPhase}
use Rattle.protocol.specs.declared.record.ReceiverPhase.TheVariants.{Probing, Busy, Found, Filled}
use Rattle.protocol.specs.declared.answer.Call.{Call}
use Rattle.protocol.specs.declared.answer.Call.TheVariants.{Submit, Withdraw, ReceiverStep, WorkerStep, Close}
use Rattle.protocol.specs.declared.answer.Answer.{Answer}
use Rattle.protocol.specs.declared.answer.Answer.TheVariants.{NotMade, Refused, Submitted, Withdrew, Received, Worked, Closed}
use Rattle.protocol.specs.declared.answer.WorkerAnswer.{WorkerAnswer}
use Rattle.protocol.specs.Tests.{limit, used}
use Rattle.protocol.specs.Rules as rules
use Rattle.protocol.specs.Rules.{refusal, hand_full, no_submit, no_step, emptied, closed_at, step_in, step_with, receiver_step, worker_step}
use Rattle.protocol.specs.State.{Permit, free, full, spent}
use Rattle.protocol.specs.Lives.{Queue, Made, make, after, submitting, receiving, working, with_free, with_full}
use Rattle.protocol.proofs.Tables.{none_some, some_eq}
use Rattle.schedules.specs.Hands.{HandFits, receiver_call_by, party_call}
use Rattle.schedules.specs.Rehearsals.{Ended, receiver_call, turn_call, items_after, by_answer, by_call, take_turns, calls_by_answer, calls_by_call, turn_calls, last_calls, rehearsed, rehearsal_calls}

module _ {X : Type 0} (blank : X) where
  after_join : (cs ds : List (Call X)) (q : Queue X) → after blank q (cs ++ ds) ≡ after blank (after blank q cs) ds
  after_join [] ds q = refl
  after_join (c ∷ cs) ds q = after_join cs ds (make blank q c).queue

  by_the_answer : (a : Answer X) (turn : ℕ) (q : Queue X) (e : Ended X) (cs : List (Call X)) → e.queue ≡ after blank q cs →
      (by_answer a turn q e).queue ≡ after blank q (calls_by_answer a cs)
  by_the_answer NotMade turn q e cs h = h
  by_the_answer (Refused number place) turn q e cs h = refl
  by_the_answer Submitted turn q e cs h = h
  by_the_answer (Withdrew o) turn q e cs h = h
  by_the_answer (Received a) turn q e cs h = h
  by_the_answer (Worked a) turn q e cs h = h
  by_the_answer (Closed z) turn q e cs h = h

  by_the_call : (o : Option (Call X)) (turn : ℕ) (q : Queue X) (items : List X) (on : Queue X → List X → Ended X) (rest : Queue X → List X → List (Call X)) →
      ((new : Queue X) (left : List X) → (on new left).queue ≡ after blank new (rest new left)) →
      (by_call blank o turn q items on).queue ≡ after blank q (calls_by_call blank o q items rest)
  by_the_call None turn q items on rest h = refl
  by_the_call (Some c) turn q items on rest h =
      by_the_answer (make blank q c).answer turn (make blank q c).queue (on (make blank q c).queue (items_after c items)) (rest (make blank q c).queue (items_after c items))
      (h (make blank q c).queue (items_after c items))

  turns_are_calls : (turns : List ℕ) (turn : ℕ) (q : Queue X) (items : List X) → (take_turns blank turn q items turns).queue ≡ after blank q (turn_calls blank q items turns)
  turns_are_calls [] turn q items = refl
  turns_are_calls (party ∷ turns) turn q items =
      by_the_call (turn_call q items party) turn q items (λ new left. take_turns blank (turn + 1) new left turns) (λ new left. turn_calls blank new left turns)
      (λ new left. turns_are_calls turns (turn + 1) new left)

  pub rehearsal_lives : (q : Queue X) (items : List X) (turns : List ℕ) → (rehearsed blank q items turns).queue ≡ after blank q (rehearsal_calls blank q items turns)
  rehearsal_lives q items turns =
      ap (λ (x : Queue X). after blank x last_calls) (turns_are_calls turns 0 q items) ∙ sym (after_join (turn_calls blank q items turns) last_calls q)

  -- ---- one turn more

  pub turn_more : (i : ℕ) (q : Queue X) (items : List X) (turns : List ℕ) → i < length turns →
      take_turns blank i q items (drop i turns) ≡ by_call blank (turn_call q items (get_or turns i 0)) i q items (λ new left. take_turns blank (i + 1) new left (drop (i + 1) turns))
  turn_more i q items turns h = ap (take_turns blank i q items) (drop_more turns i 0 h)

  pub turns_over : (i : ℕ) (q : Queue X) (items : List X) (turns : List ℕ) → length turns ≤ i → take_turns blank i q items (drop i turns) ≡ record { queue = q; stop = None }
  turns_over i q items turns h = ap (take_turns blank i q items) (drop_all i turns h)

  -- ---- the hand and the permit

  abbrev pub Fits : Queue X → Type 0
  Fits q = HandFits q.permit q.receiver.hand

  either : (P : rules.Received X → Type 0) (b : Bool) (x y : rules.Received X) → P x → P y → P (cond b x y)
  either P true x y p q = p
  either P false x y p q = q

  submit_fits : (q : Queue X) (x : X) (why : Option Reason) → Fits q → Fits (submitting q x why).queue
  submit_fits q x None h = (x, refl)
  submit_fits q x (Some why) h = h

  module _ (q : Queue X) (fits : Fits q) (x : X) (hand : q.receiver.hand ≡ Some x) where
    abbrev FitsAfter : rules.Received X → Type 0
    FitsAfter rc = Fits (receiving q rc rc.answer).queue

    by_phase : (p : ReceiverPhase) → FitsAfter (step_in blank q.receiver q.store p x)
    by_phase Probing =
        either FitsAfter (leb limit q.receiver.tail) _ _ fits
        (either FitsAfter (used (cell_of blank q.store (rules.tail_cell blank q.receiver q.store)).rank) _ _ (x, hand) (x, hand))
    by_phase Busy = (x, hand)
    by_phase Found = (x, hand)
    by_phase Filled = refl

    receive_fits : FitsAfter (receiver_step blank q.receiver q.store)
    receive_fits =
        either FitsAfter (eqb (size q.store) 0) (no_step blank q.receiver q.store 1) (step_with blank q.receiver q.store q.receiver.hand) fits
        (subst (λ (o : Option X). FitsAfter (step_with blank q.receiver q.store o)) (sym hand) (by_phase q.receiver.phase))

  work_fits : (q : Queue X) (w : rules.Worked X) (o : Result (WorkerAnswer X) Reason) → Fits q → Fits (working q w o).queue
  work_fits q w (Ok a) h = h
  work_fits q w (Err why) h = h

  with_free_fits : (p : Permit) (q : Queue X) (m : Made X) → Fits q → Fits m.queue → Fits (with_free p q m).queue
  with_free_fits free q m h k = k
  with_free_fits full q m h k = h
  with_free_fits spent q m h k = h

  with_full_fits : (p : Permit) (q : Queue X) (m : Made X) → Fits q → Fits m.queue → Fits (with_full p q m).queue
  with_full_fits free q m h k = h
  with_full_fits full q m h k = k
  with_full_fits spent q m h k = h

  step_fits : (q : Queue X) (h : Option X) → q.receiver.hand ≡ h → Fits q →
      Fits (receiving q (receiver_step blank q.receiver q.store) (receiver_step blank q.receiver q.store).answer).queue
  step_fits q None e fits =
      either (λ rc. Fits (receiving q rc rc.answer).queue) (eqb (size q.store) 0) (no_step blank q.receiver q.store 1)
      (step_with blank q.receiver q.store q.receiver.hand) fits
      (subst (λ (o : Option X). Fits (receiving q (step_with blank q.receiver q.store o) (step_with blank q.receiver q.store o).answer).queue) (sym e) fits)
  step_fits q (Some x) e fits = receive_fits q fits x e

  -- no call of a turn is a close
  abbrev NoClose : Call X → Type 0
  NoClose (Submit x) = Unit {0}
  NoClose Withdraw = Unit {0}
  NoClose ReceiverStep = Unit {0}
  NoClose (WorkerStep k) = Unit {0}
  NoClose Close = ⊥

  call_fits : (q : Queue X) (c : Call X) → NoClose c → Fits q → Fits (make blank q c).queue
  call_fits q (Submit x) n h = with_free_fits q.permit q (submitting q x (no_submit q.receiver q.store)) h (submit_fits q x (no_submit q.receiver q.store) h)
  call_fits q Withdraw n h = with_full_fits q.permit q _ h refl
  call_fits q ReceiverStep n h = with_full_fits q.permit q _ h (step_fits q q.receiver.hand refl h)
  call_fits q (WorkerStep k) n h =
      work_fits q (worker_step blank k q.workers q.store q.log) (worker_step blank k q.workers q.store q.log).answer h
  call_fits q Close n h = absurd n

  receiver_no_close : (h : Option X) (items : List X) (c : Call X) → receiver_call h items ≡ Some c → NoClose c
  receiver_no_close (Some x) items c e = subst NoClose (some_eq ReceiverStep c e) tt
  receiver_no_close None [] c e = absurd (none_some c e)
  receiver_no_close None (x ∷ items) c e = subst NoClose (some_eq (Submit x) c e) tt

  turn_no_close : (q : Queue X) (items : List X) (party : ℕ) (c : Call X) → turn_call q items party ≡ Some c → NoClose c
  turn_no_close q items zero c e = receiver_no_close q.receiver.hand items c e
  turn_no_close q items (suc k) c e = subst NoClose (some_eq (WorkerStep k) c e) tt

  -- a turn keeps the hand beside the permit
  pub turn_fits : (q : Queue X) (items : List X) (party : ℕ) (c : Call X) → turn_call q items party ≡ Some c → Fits q → Fits (make blank q c).queue
  turn_fits q items party c e h = call_fits q c (turn_no_close q items party c e) h

  by_permit : (p : Permit) (h : Option X) (items : List X) → HandFits p h → receiver_call_by p items ≡ receiver_call h items
  by_permit free h [] f = ap (λ o. receiver_call o []) (sym f)
  by_permit free h (x ∷ items) f = ap (λ o. receiver_call o (x ∷ items)) (sym f)
  by_permit full h items f = ap (λ o. receiver_call o items) (sym f.1)
  by_permit spent h items f = absurd f

  -- the permit tells the call of a turn
  pub party_is_turn : (q : Queue X) (items : List X) (party : ℕ) → Fits q → party_call q.permit items party ≡ turn_call q items party
  party_is_turn q items zero f = by_permit q.permit q.receiver.hand items f
  party_is_turn q items (suc k) f = refl
