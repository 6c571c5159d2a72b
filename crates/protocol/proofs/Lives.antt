-- A life of a queue, from an accepted lay out on, is a run of the relation.
use Rattle.std.proofs.Common.{◌≡◌, ℕ, suc, ◌%◌, ◌<◌, ◌≤◌, Bool, true, false, cond, eqb, leb, List, [], ◌∷◌, ◌++◌, map, length, get_or, set, replicate, negsuc, Some, None, Option, sym, refl, ap, subst, ⊎_elim, arith}
use Rattle.std.specs.List.{slice_get}
use Rattle.std.proofs.lemmas.List.{length-set, length-map, length-replicate, get_or-map, get_or-replicate, get_or_past}
use Rattle.std.proofs.lemmas.Bool.{cases_lt}
use Rattle.stores.specs.declared.cell.Cell.{Cell}
use Rattle.stores.specs.Refusals.{Reason}
use Rattle.stores.specs.Model.{Contents, size, fresh_cell, cell_of, cell_rank}
use Rattle.protocol.specs.declared.record.ReceiverPhase.{ReceiverPhase}
use Rattle.protocol.specs.declared.record.ReceiverPhase.TheVariants.{Probing, Busy, Found, Filled}
use Rattle.protocol.specs.declared.record.WorkerPhase.{WorkerPhase}
use Rattle.protocol.specs.declared.record.WorkerPhase.TheVariants.{Idle, Seeking, Doubting, Marked, Passed, Sure, Copied}
use Rattle.protocol.specs.declared.record.Worker.{Worker}
use Rattle.protocol.specs.declared.answer.Call.{Call}
use Rattle.protocol.specs.declared.answer.Call.TheVariants.{Submit, Withdraw, ReceiverStep, WorkerStep, Close}
use Rattle.protocol.specs.declared.answer.WorkerAnswer.{WorkerAnswer}
use Rattle.protocol.specs.declared.answer.WorkerAnswer.TheVariants.{Claimed, MovedOn}
use Rattle.protocol.specs.Tests.{limit, used, is_rank, covers, ended_by, is_idle}
use Rattle.protocol.specs.Records.{Receiver, Log}
use Rattle.protocol.specs.Rules as rules
use Rattle.protocol.specs.Rules.{no_submit, no_close, no_step, step_in, step_with, receiver_step, work_in, one_step, step_of, worker_step, in_table, idled}
use Rattle.protocol.specs.State.{Permit, free, full, spent, Sizes}
use Rattle.protocol.specs.Steps.{Run, here, then, LaidOut}
use Rattle.protocol.specs.Lives.{Queue, Made, make, after, answers, submitting, receiving, working, closing}
use Rattle.protocol.specs.Views.{sizes, no_worker, view, history, laid_out}
use Rattle.protocol.proofs.CallSteps.{call_steps}

-- one of two, each of which has the property
pub either : {V : Type 0} (P : V → Type 0) (b : Bool) (x y : V) → P x → P y → P (cond b x y)
either P true x y p q = p
either P false x y p q = q

-- ---- no call changes the sizes

module _ {X : Type 0} (blank : X) (m : Contents X) (ws : List (Worker X)) (l : Log X) where
  abbrev numbers : ℕ → ℕ → ℕ → Sizes
  numbers cells workers room = record { cells = cells; workers = workers; room = room }

  abbrev before : Sizes
  before = numbers (size m) (length ws) (length l.entries)

  abbrev queue : Receiver X → Permit → Queue X
  queue r p = record { store = m; receiver = r; workers = ws; log = l; permit = p }

  abbrev Keeps : Made X → Type 0
  Keeps made = sizes made.queue ≡ before

  set_cell : (i : ℕ) (c : Cell X) → numbers (length (set m.cells i c)) (length ws) (length l.entries) ≡ before
  set_cell i c = ap (λ n. numbers n (length ws) (length l.entries)) (length-set m.cells i c)

  set_worker : (k : ℕ) (w : Worker X) → numbers (size m) (length (set ws k w)) (length l.entries) ≡ before
  set_worker k w = ap (λ n. numbers (size m) n (length l.entries)) (length-set ws k w)

  keep_submit : (r : Receiver X) (x : X) (why : Option Reason) → Keeps (submitting (queue r free) x why)
  keep_submit r x None = refl
  keep_submit r x (Some why) = refl

  keep_close : (r : Receiver X) (why : Option Reason) → Keeps (closing (queue r free) why)
  keep_close r None = refl
  keep_close r (Some why) = refl

  module _ (r : Receiver X) where
    abbrev KeepsStep : rules.Received X → Type 0
    KeepsStep rc = Keeps (receiving (queue r full) rc rc.answer)

    keep_phase : (ph : ReceiverPhase) (x : X) → KeepsStep (step_in blank r m ph x)
    keep_phase Probing x =
        either KeepsStep (leb limit r.tail) _ _ refl
        (either KeepsStep (used (cell_of blank m (rules.tail_cell blank r m)).rank) _ _ refl refl)
    keep_phase Busy x = set_cell _ _
    keep_phase Found x = set_cell _ _
    keep_phase Filled x = set_cell _ _

    keep_hand : (h : Option X) → KeepsStep (step_with blank r m h)
    keep_hand None = refl
    keep_hand (Some x) = keep_phase r.phase x

    keep_receiver : KeepsStep (receiver_step blank r m)
    keep_receiver = either KeepsStep (eqb (size m) 0) (no_step blank r m 1) (step_with blank r m r.hand) refl (keep_hand r.hand)

  module _ (r : Receiver X) (p : Permit) (k : ℕ) where
    abbrev KeepsWorked : rules.Worked X → Type 0
    KeepsWorked wk = Keeps (working (queue r p) wk wk.answer)

    abbrev KeepsWork : rules.Stepped X → Type 0
    KeepsWork st = KeepsWorked (in_table ws k st)

    module _ (w : Worker X) where
      keep_next : (a : ℕ → WorkerAnswer X) → KeepsWork (rules.takes_next blank k w m l a)
      keep_next a = either KeepsWork (leb limit m.head) _ _ refl (set_worker k _)

      keep_work : (ph : WorkerPhase) → KeepsWork (work_in blank k w m l ph)
      keep_work Idle = either KeepsWork (ended_by m.end m.head) _ _ (set_worker k _) (keep_next Claimed)
      keep_work Seeking = either KeepsWork (is_rank (cell_of blank m (rules.own_cell blank k w m l)).rank w.rank) _ _ (set_worker k _) (set_worker k _)
      keep_work Doubting =
          either KeepsWork (covers (cell_of blank m (rules.own_cell blank k w m l)).gap w.rank) _ _ (set_worker k _)
          (either KeepsWork (ended_by m.end w.rank) _ _ (set_worker k _) (set_worker k _))
      keep_work Marked = either KeepsWork (is_rank (cell_of blank m (rules.own_cell blank k w m l)).rank w.rank) _ _ (set_worker k _) (set_worker k _)
      keep_work Passed = either KeepsWork (ended_by m.end m.head) _ _ (set_worker k _) (keep_next MovedOn)
      keep_work Sure = set_worker k _
      keep_work Copied =
          either KeepsWork (leb (length l.entries) l.count) _ _ refl
          (let cs = length-set m.cells (w.rank % size m) (cell_rank (negsuc 0) (cell_of blank m (w.rank % size m))) in
          let us = length-set ws k (idled w) in
          let es = length-set l.entries l.count (record { rank = w.rank; worker = k; item = w.copy }) in
          λ i. numbers (cs i) (us i) (es i))

      keep_one : KeepsWork (one_step blank k w m l)
      keep_one =
          either KeepsWork (is_idle w.phase) _ _ (keep_work w.phase)
          (either KeepsWork (leb m.head w.rank) _ _ refl (keep_work w.phase))

    keep_of : (o : Option (Worker X)) → KeepsWorked (step_of blank k ws m l o)
    keep_of None = refl
    keep_of (Some w) = keep_one w

    keep_worker : KeepsWorked (worker_step blank k ws m l)
    keep_worker = either KeepsWorked (eqb (size m) 0) (rules.not_worked blank k ws m l 1 0) (step_of blank k ws m l (slice_get ws k)) refl (keep_of (slice_get ws k))

  keep_call : (r : Receiver X) (p : Permit) (c : Call X) → Keeps (make blank (queue r p) c)
  keep_call r free (Submit x) = keep_submit r x (no_submit r m)
  keep_call r full (Submit x) = refl
  keep_call r spent (Submit x) = refl
  keep_call r free Withdraw = refl
  keep_call r full Withdraw = refl
  keep_call r spent Withdraw = refl
  keep_call r free ReceiverStep = refl
  keep_call r full ReceiverStep = keep_receiver r
  keep_call r spent ReceiverStep = refl
  keep_call r p (WorkerStep k) = keep_worker r p k
  keep_call r free Close = keep_close r (no_close r m)
  keep_call r full Close = refl
  keep_call r spent Close = refl

module _ {X : Type 0} (blank : X) where
  pub sizes_kept : (q : Queue X) (c : Call X) → sizes (make blank q c).queue ≡ sizes q
  sizes_kept q c = keep_call blank q.store q.workers q.log q.receiver q.permit c

  -- ---- the run

  pub life_runs : (cs : List (Call X)) (q : Queue X) → 0 < size q.store → Run (sizes q) (view blank q) (history blank q cs) (view blank (after blank q cs))
  life_runs [] q some = here
  life_runs (c ∷ cs) q some =
      let kept = sizes_kept q c in
      then (call_steps blank q some c)
      (subst (λ z. Run z (view blank (make blank q c).queue) (history blank (make blank q c).queue cs) (view blank (after blank (make blank q c).queue cs))) kept
      (life_runs cs (make blank q c).queue (subst (λ z. 0 < z.cells) (sym kept) some)))

  -- ---- the start

  idle_worker : (ws : List (Worker X)) (k : ℕ) → (get_or (map idled ws) k (no_worker blank)).phase ≡ Idle
  idle_worker ws k =
      ⊎_elim
      (λ (h : k < length ws). ap (λ w. w.phase) (get_or-map idled ws k (no_worker blank) (no_worker blank) h))
      (λ (h : length ws ≤ k). ap (λ w. w.phase) (get_or_past (map idled ws) k (no_worker blank) (omega (arith, length-map ws (idled {X = X})))))
      (cases_lt k (length ws))

  fresh_always : (n i : ℕ) → get_or (replicate n (fresh_cell blank)) i (fresh_cell blank) ≡ fresh_cell blank
  fresh_always n i =
      ⊎_elim
      (λ (h : i < n). get_or-replicate n i (fresh_cell blank) (fresh_cell blank) h)
      (λ (h : n ≤ i). get_or_past (replicate n (fresh_cell blank)) i (fresh_cell blank) (omega (arith, length-replicate n (fresh_cell blank))))
      (cases_lt i n)

  pub laid_out_is : (n : ℕ) (ws : List (Worker X)) (l : Log X) (start : ℕ) → 0 < n →
      LaidOut (sizes (laid_out blank n ws l start)) start (view blank (laid_out blank n ws l start))
  laid_out_is n ws l start some =
      record {
        some_cells = omega (arith, length-replicate n (fresh_cell blank));
        head_is = refl;
        end_is = refl;
        ranks = λ i. ap (λ c. c.rank) (fresh_always n i);
        gaps = λ i. ap (λ c. c.gap) (fresh_always n i);
        tail_is = refl;
        phase_is = refl;
        hand_is = refl;
        permit_is = refl;
        idle = idle_worker ws;
        log_is = refl;
      }

  -- ---- one call more

  pub after_more : (cs : List (Call X)) (q : Queue X) (c : Call X) → after blank q (cs ++ (c ∷ [])) ≡ (make blank (after blank q cs) c).queue
  after_more [] q c = refl
  after_more (d ∷ cs) q c = after_more cs (make blank q d).queue c

  pub answers_more : (cs : List (Call X)) (q : Queue X) (c : Call X) →
      answers blank q (cs ++ (c ∷ [])) ≡ answers blank q cs ++ ((make blank (after blank q cs) c).answer ∷ [])
  answers_more [] q c = refl
  answers_more (d ∷ cs) q c = ap (λ l. (make blank q d).answer ∷ l) (answers_more cs (make blank q d).queue c)

  pub length_answers : (cs : List (Call X)) (q : Queue X) → length (answers blank q cs) ≡ length cs
  length_answers [] q = refl
  length_answers (d ∷ cs) q = ap suc (length_answers cs (make blank q d).queue)
