-- Each call of a queue with cells is a step of the relation.
use Rattle.std.proofs.Common.{◌≡◌, ℕ, ◌+◌, ◌%◌, ◌^◌, ◌<◌, ◌≤◌, Bool, true, false, cond, eqb, leb, ◌⊎◌, List, length, get_or, take, set, pos, negsuc, Some, None, Option, sym, refl, ap, ◌∙◌, subst, inl, inr, mod-lt, arith, length-take}
use mathlib.Core.Path.{fun_ext}
use Rattle.std.specs.List.{slice_get}
use Rattle.std.proofs.lemmas.List.{get_or-set_same, get_or-set_other, take_more_set}
use Rattle.std.proofs.lemmas.Option.{slice_get-get_or, slice_get_past}
use Rattle.std.proofs.lemmas.Bool.{cases_lt, ne_eqb, cond-false, leb-false}
use Rattle.stores.specs.declared.cell.Cell.{Cell}
use Rattle.stores.specs.Refusals.{Reason}
use Rattle.stores.specs.Model.{Contents, size, fresh_cell, cell_of, cell_item, cell_rank, cell_gap}
use Rattle.protocol.specs.declared.record.ReceiverPhase.{ReceiverPhase}
use Rattle.protocol.specs.declared.record.ReceiverPhase.TheVariants.{Probing, Busy, Found, Filled}
use Rattle.protocol.specs.declared.record.WorkerPhase.{WorkerPhase}
use Rattle.protocol.specs.declared.record.WorkerPhase.TheVariants.{Idle, Seeking, Doubting, Marked, Passed, Sure, Copied}
use Rattle.protocol.specs.declared.record.Worker.{Worker}
use Rattle.protocol.specs.declared.record.Entry.{Entry}
use Rattle.protocol.specs.declared.answer.Call.{Call}
use Rattle.protocol.specs.declared.answer.Call.TheVariants.{Submit, Withdraw, ReceiverStep, WorkerStep, Close}
use Rattle.protocol.specs.declared.answer.ReceiverAnswer.TheVariants.{Stepped as Phase, Skipped, Announced}
use Rattle.protocol.specs.declared.answer.WorkerAnswer.{WorkerAnswer}
use Rattle.protocol.specs.declared.answer.WorkerAnswer.TheVariants.{Over, Claimed, MovedOn, Waiting, GivenUp, Stepped as Became, Delivered}
use Rattle.protocol.specs.Events.{received, worked}
use Rattle.protocol.specs.Tests.{limit, used, is_rank, covers, ended_by, is_idle}
use Rattle.protocol.specs.Records.{Receiver, Log}
use Rattle.protocol.specs.Rules as rules
use Rattle.protocol.specs.Rules.{refusal, hand_full, no_submit, no_close, no_step, step_in, step_with, receiver_step, work_in, step_of, worker_step, in_table}
use Rattle.protocol.specs.State.{Permit, free, full, spent, State, put}
use Rattle.protocol.specs.Steps.{Step, is_not_made, is_refused, submits, withdraws, closes, finds_used, finds_free, skips, fills, announces, idle_finds_over, claims, becomes_sure, doubts, marks, gives_up, waits, passes, passed_finds_over, moves_on, copies, delivers}
use Rattle.protocol.specs.Lives.{Queue, Made, make, submitting, receiving, working, closing}
use Rattle.protocol.specs.Views.{sizes, no_worker, view, event}
use Rattle.protocol.proofs.Tables.{put_at, put_id}

-- a list with one element set is a table with one place put
pub table_set : {V : Type 0} (l : List V) (i : ℕ) (v d : V) → i < length l → (λ j. get_or (set l i v) j d) ≡ put (λ j. get_or l j d) i v
table_set l i v d h =
    fun_ext
    (λ j.
    sym
    (put_at (λ u. u ≡ get_or (set l i v) j d) (λ k. get_or l k d) i v j
    (λ e. sym (ap (λ k. get_or (set l i v) k d) e ∙ get_or-set_same l i v d h)) (λ ne. sym (get_or-set_other l i j v d ne))))

-- ---- the receiver's calls

submit_made : {X : Type 0} (b u : Bool) (h : Option X) (why why' : Reason) → cond b (Some why) (cond u (Some why') (hand_full h)) ≡ None →
    (u ≡ false) × (h ≡ None)
submit_made true u h why why' e = absurd (let z : ◌≡◌ {A = ℕ} 0 1 = cc in omega arith)
submit_made false true h why why' e = absurd (let z : ◌≡◌ {A = ℕ} 0 1 = cc in omega arith)
submit_made false false None why why' e = (refl, refl)
submit_made false false (Some x) why why' e = absurd (let z : ◌≡◌ {A = ℕ} 0 1 = cc in omega arith)

close_made : {X : Type 0} (b : Bool) (h : Option X) (why : Reason) → cond b (Some why) (hand_full h) ≡ None → h ≡ None
close_made true h why e = absurd (let z : ◌≡◌ {A = ℕ} 0 1 = cc in omega arith)
close_made false None why e = refl
close_made false (Some x) why e = absurd (let z : ◌≡◌ {A = ℕ} 0 1 = cc in omega arith)

module _ {X : Type 0} (blank : X) (m : Contents X) (ws : List (Worker X)) (l : Log X) (some : 0 < size m) where
  abbrev queue : Receiver X → Permit → Queue X
  queue r p = record { store = m; receiver = r; workers = ws; log = l; permit = p }

  -- what a call made is a step
  abbrev Follows : Queue X → Call X → Made X → Type 0
  Follows q c made = Step (sizes q) (view blank q) (event c made.answer) (view blank made.queue)

  by_submit : (r : Receiver X) (x : X) (why : Option Reason) → no_submit r m ≡ why → Follows (queue r free) (Submit x) (submitting (queue r free) x why)
  by_submit r x None e =
      let ok = submit_made (eqb (size m) 0) (used m.end) r.hand (refusal 1 0) (refusal 4 0) e in submits x refl ok.0 ok.1
  by_submit r x (Some why) e = is_refused (Submit x) why.number why.place

  by_close : (r : Receiver X) (why : Option Reason) → no_close r m ≡ why → Follows (queue r free) Close (closing (queue r free) why)
  by_close r None e = closes refl (close_made (eqb (size m) 0) r.hand (refusal 1 0) e)
  by_close r (Some why) e = is_refused Close why.number why.place

  -- the state after a cell is set
  abbrev state_with : (ℕ → Cell X) → ℕ → ReceiverPhase → Option X → Permit → State X
  state_with cs t ph h p =
      record { head = m.head; end = m.end; cells = cs; tail = t; phase = ph; hand = h; permit = p; workers = λ k. get_or ws k (no_worker blank); log = take l.count l.entries }

  cell_set : (t : ℕ) (c : Cell X) → (λ i. get_or (set m.cells (t % size m) c) i (fresh_cell blank)) ≡ put (cell_of blank m) (t % size m) c
  cell_set t c = table_set m.cells (t % size m) c (fresh_cell blank) (mod-lt t some)

  module _ (t : ℕ) where
    abbrev at : ReceiverPhase → Option X → Queue X
    at ph h = queue (record { tail = t; phase = ph; hand = h }) full

    abbrev FollowsStep : ReceiverPhase → Option X → rules.Received X → Type 0
    FollowsStep ph h after = Follows (at ph h) ReceiverStep (receiving (at ph h) after after.answer)

    by_probe : (x : X) (b u : Bool) → leb limit t ≡ b → used (cell_of blank m (t % size m)).rank ≡ u →
        FollowsStep Probing (Some x)
        (cond b (no_step blank (at Probing (Some x)).receiver m 6)
        (cond u (rules.to_phase blank (at Probing (Some x)).receiver m Busy m) (rules.to_phase blank (at Probing (Some x)).receiver m Found m)))
    by_probe x true u e f = is_refused ReceiverStep 6 0
    by_probe x false true e f = finds_used x refl refl refl (omega (arith, leb-false limit t e)) f
    by_probe x false false e f = finds_free x refl refl refl (omega (arith, leb-false limit t e)) f

    by_phase : (ph : ReceiverPhase) (x : X) → FollowsStep ph (Some x) (step_in blank (at ph (Some x)).receiver m ph x)
    by_phase Probing x = by_probe x (leb limit t) (used (cell_of blank m (t % size m)).rank) refl refl
    by_phase Busy x =
        subst (λ cs. Step (sizes (at Busy (Some x))) (view blank (at Busy (Some x))) (received (Skipped t)) (state_with cs (t + 1) Probing (Some x) full))
        (sym (cell_set t (cell_gap (pos t) (cell_of blank m (t % size m))))) (skips x refl refl refl)
    by_phase Found x =
        subst (λ cs. Step (sizes (at Found (Some x))) (view blank (at Found (Some x))) (received (Phase Filled t)) (state_with cs t Filled (Some x) full))
        (sym (cell_set t (cell_item x (cell_of blank m (t % size m))))) (fills x refl refl refl)
    by_phase Filled x =
        subst (λ cs. Step (sizes (at Filled (Some x))) (view blank (at Filled (Some x))) (received (Announced t)) (state_with cs (t + 1) Probing None free))
        (sym (cell_set t (cell_rank (pos t) (cell_of blank m (t % size m))))) (announces x refl refl refl)

    by_hand : (ph : ReceiverPhase) (h : Option X) → FollowsStep ph h (step_with blank (at ph h).receiver m h)
    by_hand ph None = is_refused ReceiverStep 9 0
    by_hand ph (Some x) = by_phase ph x

    by_receiver : (ph : ReceiverPhase) (h : Option X) → FollowsStep ph h (receiver_step blank (at ph h).receiver m)
    by_receiver ph h =
        subst (FollowsStep ph h)
        (sym (cond-false (eqb (size m) 0) (no_step blank (at ph h).receiver m 1) (step_with blank (at ph h).receiver m h) (ne_eqb (size m) 0 (λ e. omega arith))))
        (by_hand ph h)

  -- ---- a worker's step

  module _ (r : Receiver X) (p : Permit) (k : ℕ) (there : k < length ws) where
    abbrev q : Queue X
    q = queue r p

    abbrev w : Worker X
    w = get_or ws k (no_worker blank)

    abbrev FollowsWork : rules.Stepped X → Type 0
    FollowsWork after = Follows q (WorkerStep k) (working q (in_table ws k after) (in_table ws k after).answer)

    -- the state after the head and worker k's record are written
    abbrev state_by : ℕ → (ℕ → Worker X) → State X
    state_by h us =
        record { head = h; end = m.end; cells = cell_of blank m; tail = r.tail; phase = r.phase; hand = r.hand; permit = p; workers = us; log = take l.count l.entries }

    record_set : (v : Worker X) → (λ j. get_or (set ws k v) j (no_worker blank)) ≡ put (λ j. get_or ws j (no_worker blank)) k v
    record_set v = table_set ws k v (no_worker blank) there

    -- a step that writes worker k's record, and perhaps the head
    writes : (h : ℕ) (v : Worker X) (a : WorkerAnswer X) →
        Step (sizes q) (view blank q) (worked k a) (state_by h (put (λ j. get_or ws j (no_worker blank)) k v)) →
        Step (sizes q) (view blank q) (worked k a) (state_by h (λ j. get_or (set ws k v) j (no_worker blank)))
    writes h v a s = subst (λ us. Step (sizes q) (view blank q) (worked k a) (state_by h us)) (sym (record_set v)) s

    by_next : (a : ℕ → WorkerAnswer X) (b : Bool) → leb limit m.head ≡ b →
        (m.head < 2 ^ 40 → Step (sizes q) (view blank q) (worked k (a m.head)) (state_by (m.head + 1) (put (λ j. get_or ws j (no_worker blank)) k (record { phase = Seeking; rank = m.head; copy = w.copy })))) →
        FollowsWork
        (cond b (rules.refused blank k w m l 6 0)
        (rules.becomes blank k w m l (a m.head) Seeking m.head w.copy (record { head = m.head + 1; end = m.end; cells = m.cells }) l))
    by_next a true e s = is_refused (WorkerStep k) 6 0
    by_next a false e s = writes (m.head + 1) (record { phase = Seeking; rank = m.head; copy = w.copy }) (a m.head) (s (omega (arith, leb-false limit m.head e)))

    by_idle : w.phase ≡ Idle → (b : Bool) → ended_by m.end m.head ≡ b →
        FollowsWork (cond b (rules.goes blank k w m l (Over m.end) Idle) (rules.takes_next blank k w m l Claimed))
    by_idle e true f =
        let same : w ≡ record { phase = Idle; rank = w.rank; copy = w.copy } = λ i. record { phase = e i; rank = w.rank; copy = w.copy } in
        writes m.head (record { phase = Idle; rank = w.rank; copy = w.copy }) (Over m.end)
        (subst (λ us. Step (sizes q) (view blank q) (worked k (Over m.end)) (state_by m.head us))
        (sym (put_id (λ j. get_or ws j (no_worker blank)) k (record { phase = Idle; rank = w.rank; copy = w.copy }) same)) (idle_finds_over k there e f))
    by_idle e false f = by_next Claimed (leb limit m.head) refl (λ h. claims k there e f h)

    by_passed : w.phase ≡ Passed → (b : Bool) → ended_by m.end m.head ≡ b →
        FollowsWork (cond b (rules.goes blank k w m l (Over m.end) Idle) (rules.takes_next blank k w m l MovedOn))
    by_passed e true f = writes m.head (record { phase = Idle; rank = w.rank; copy = w.copy }) (Over m.end) (passed_finds_over k there e f)
    by_passed e false f = by_next MovedOn (leb limit m.head) refl (λ h. moves_on k there e f h)

    by_seeking : w.phase ≡ Seeking → (b : Bool) → is_rank (cell_of blank m (w.rank % size m)).rank w.rank ≡ b →
        FollowsWork (cond b (rules.goes blank k w m l (Became Sure w.rank) Sure) (rules.goes blank k w m l (Became Doubting w.rank) Doubting))
    by_seeking e true f = writes m.head (record { phase = Sure; rank = w.rank; copy = w.copy }) (Became Sure w.rank) (becomes_sure k there (inl e) f)
    by_seeking e false f = writes m.head (record { phase = Doubting; rank = w.rank; copy = w.copy }) (Became Doubting w.rank) (doubts k there e f)

    by_marked : w.phase ≡ Marked → (b : Bool) → is_rank (cell_of blank m (w.rank % size m)).rank w.rank ≡ b →
        FollowsWork (cond b (rules.goes blank k w m l (Became Sure w.rank) Sure) (rules.goes blank k w m l (Became Passed w.rank) Passed))
    by_marked e true f = writes m.head (record { phase = Sure; rank = w.rank; copy = w.copy }) (Became Sure w.rank) (becomes_sure k there (inr e) f)
    by_marked e false f = writes m.head (record { phase = Passed; rank = w.rank; copy = w.copy }) (Became Passed w.rank) (passes k there e f)

    by_doubting : w.phase ≡ Doubting → (b c : Bool) → covers (cell_of blank m (w.rank % size m)).gap w.rank ≡ b → ended_by m.end w.rank ≡ c →
        FollowsWork
        (cond b (rules.goes blank k w m l (Became Marked w.rank) Marked)
        (cond c (rules.goes blank k w m l (GivenUp w.rank) Idle) (rules.goes blank k w m l (Waiting w.rank) Seeking)))
    by_doubting e true c f g = writes m.head (record { phase = Marked; rank = w.rank; copy = w.copy }) (Became Marked w.rank) (marks k there e f)
    by_doubting e false true f g = writes m.head (record { phase = Idle; rank = w.rank; copy = w.copy }) (GivenUp w.rank) (gives_up k there e f g)
    by_doubting e false false f g = writes m.head (record { phase = Seeking; rank = w.rank; copy = w.copy }) (Waiting w.rank) (waits k there e f g)

    by_sure : w.phase ≡ Sure → FollowsWork (work_in blank k w m l Sure)
    by_sure e =
        writes m.head (record { phase = Copied; rank = w.rank; copy = (cell_of blank m (w.rank % size m)).item }) (Became Copied w.rank)
        (copies k there e)

    abbrev freed : Cell X
    freed = cell_rank (negsuc 0) (cell_of blank m (w.rank % size m))

    abbrev entry : Entry X
    entry = record { rank = w.rank; worker = k; item = w.copy }

    by_copied : w.phase ≡ Copied → (b : Bool) → leb (length l.entries) l.count ≡ b →
        FollowsWork
        (cond b (rules.refused blank k w m l 7 k)
        (rules.becomes blank k w m l (Delivered w.rank w.copy) Idle w.rank w.copy
        (record { head = m.head; end = m.end; cells = set m.cells (w.rank % size m) freed }) (rules.entered blank k w m l)))
    by_copied e true f = is_refused (WorkerStep k) 7 k
    by_copied e false f =
        let left : l.count < length l.entries = leb-false (length l.entries) l.count f in
        let room : length (take l.count l.entries) < length l.entries = omega (arith, length-take l.count l.entries) in
        let cs = sym (cell_set w.rank freed) in
        let us = sym (record_set (record { phase = Idle; rank = w.rank; copy = w.copy })) in
        let es = sym (take_more_set l.entries l.count entry left) in
        subst (λ t. Step (sizes q) (view blank q) (worked k (Delivered w.rank w.copy)) t)
        (λ i. record { head = m.head; end = m.end; cells = cs i; tail = r.tail; phase = r.phase; hand = r.hand; permit = p; workers = us i; log = es i })
        (delivers k there e room)

    by_work : (ph : WorkerPhase) → w.phase ≡ ph → FollowsWork (work_in blank k w m l ph)
    by_work Idle e = by_idle e (ended_by m.end m.head) refl
    by_work Seeking e = by_seeking e (is_rank (cell_of blank m (w.rank % size m)).rank w.rank) refl
    by_work Doubting e = by_doubting e (covers (cell_of blank m (w.rank % size m)).gap w.rank) (ended_by m.end w.rank) refl refl
    by_work Marked e = by_marked e (is_rank (cell_of blank m (w.rank % size m)).rank w.rank) refl
    by_work Passed e = by_passed e (ended_by m.end m.head) refl
    by_work Sure e = by_sure e
    by_work Copied e = by_copied e (leb (length l.entries) l.count) refl

    by_check : (b c : Bool) → FollowsWork (cond b (work_in blank k w m l w.phase) (cond c (rules.refused blank k w m l 8 k) (work_in blank k w m l w.phase)))
    by_check true c = by_work w.phase refl
    by_check false true = is_refused (WorkerStep k) 8 k
    by_check false false = by_work w.phase refl

  abbrev FollowsWorked : Receiver X → Permit → ℕ → rules.Worked X → Type 0
  FollowsWorked r p k after = Follows (queue r p) (WorkerStep k) (working (queue r p) after after.answer)

  by_place : (r : Receiver X) (p : Permit) (k : ℕ) → (k < length ws) ⊎ (length ws ≤ k) → FollowsWorked r p k (step_of blank k ws m l (slice_get ws k))
  by_place r p k (inl there) =
      subst (λ o. FollowsWorked r p k (step_of blank k ws m l o)) (sym (slice_get-get_or ws k (no_worker blank) there))
      (by_check r p k there (is_idle (get_or ws k (no_worker blank)).phase) (leb m.head (get_or ws k (no_worker blank)).rank))
  by_place r p k (inr past) =
      subst (λ o. FollowsWorked r p k (step_of blank k ws m l o)) (sym (slice_get_past ws k past)) (is_refused (WorkerStep k) 10 k)

  by_worker : (r : Receiver X) (p : Permit) (k : ℕ) → FollowsWorked r p k (worker_step blank k ws m l)
  by_worker r p k =
      subst (FollowsWorked r p k)
      (sym (cond-false (eqb (size m) 0) (rules.not_worked blank k ws m l 1 0) (step_of blank k ws m l (slice_get ws k)) (ne_eqb (size m) 0 (λ e. omega arith))))
      (by_place r p k (cases_lt k (length ws)))

  -- ---- any call

  by_call : (r : Receiver X) (p : Permit) (c : Call X) → Follows (queue r p) c (make blank (queue r p) c)
  by_call r free (Submit x) = by_submit r x (no_submit r m) refl
  by_call r full (Submit x) = is_not_made (Submit x)
  by_call r spent (Submit x) = is_not_made (Submit x)
  by_call r free Withdraw = is_not_made Withdraw
  by_call r full Withdraw = withdraws refl
  by_call r spent Withdraw = is_not_made Withdraw
  by_call r free ReceiverStep = is_not_made ReceiverStep
  by_call r full ReceiverStep = by_receiver r.tail r.phase r.hand
  by_call r spent ReceiverStep = is_not_made ReceiverStep
  by_call r p (WorkerStep k) = by_worker r p k
  by_call r free Close = by_close r (no_close r m) refl
  by_call r full Close = is_not_made Close
  by_call r spent Close = is_not_made Close

pub call_steps : {X : Type 0} (blank : X) (q : Queue X) → 0 < size q.store → (c : Call X) →
    Step (sizes q) (view blank q) (event c (make blank q c).answer) (view blank (make blank q c).queue)
call_steps blank q some c = by_call blank q.store q.workers q.log some q.receiver q.permit c
