-- A closed queue of a life is drained within the bound.
use Rattle.std.proofs.Common.{◌≡◌, ℕ, zero, suc, ◌+◌, ◌-◌, ◌*◌, ◌^◌, ◌<◌, ◌≤◌, Bool, true, false, cond, leb, ◌⊎◌, List, length, get_or, pos, Some, Ok, Err, Option, Result, sym, refl, ap, ◌∙◌, subst, inl, inr, arith}
use Rattle.std.proofs.lemmas.Bool.{leb-false}
use Rattle.stores.specs.declared.cell.Cell.{Cell}
use Rattle.stores.specs.Refusals.{Reason}
use Rattle.stores.specs.Model.{Contents, size}
use Rattle.protocol.specs.declared.record.WorkerPhase.{WorkerPhase}
use Rattle.protocol.specs.declared.record.WorkerPhase.TheVariants.{Idle, Seeking, Doubting, Marked, Passed, Sure, Copied}
use Rattle.protocol.specs.declared.record.Worker.{Worker}
use Rattle.protocol.specs.declared.answer.Call.TheVariants.{WorkerStep}
use Rattle.protocol.specs.declared.answer.WorkerAnswer.{WorkerAnswer}
use Rattle.protocol.specs.declared.answer.WorkerAnswer.TheVariants.{Over, Claimed, MovedOn, Waiting, GivenUp, Stepped, Delivered}
use Rattle.protocol.specs.Tests.{is_idle}
use Rattle.protocol.specs.Records.{Receiver, Log}
use Rattle.protocol.specs.Rules.{Worked, worker_step}
use Rattle.protocol.specs.State.{Permit, Sizes}
use Rattle.protocol.specs.Events.{worked}
use Rattle.protocol.specs.Steps.{Step}
use Rattle.protocol.specs.Account.{Announcement, Account, note}
use Rattle.protocol.specs.Lives.{Queue, queue_of, working}
use Rattle.protocol.specs.Views.{sizes, view, no_worker, event}
use Rattle.protocol.proofs.Invariant.{WorkerFits, Invariant}
use Rattle.protocol.proofs.Kept.{keep}
use Rattle.protocol.proofs.CallSteps.{call_steps}
use Rattle.protocol.proofs.Lives.{sizes_kept}
use Rattle.schedules.specs.Drains.{Drained, refusal, from_below, next_worker, ends, by_answer, drain_from}
use Rattle.schedules.proofs.Sums.{sum}
use Rattle.schedules.proofs.WorkLeft.{one_unless_over, due, worked_announces_none, work_falls, end_stays}
use Rattle.schedules.proofs.Refusals.{only_log_full}

next_is : {X : Type 0} (a : WorkerAnswer X) (k : ℕ) → next_worker a k + one_unless_over a ≡ k + 1
next_is (Over e) k = omega arith
next_is (Claimed r) k = refl
next_is (MovedOn r) k = refl
next_is (Waiting r) k = refl
next_is (GivenUp r) k = refl
next_is (Stepped p r) k = refl
next_is (Delivered r x) k = refl

-- a worker that is not idle holds its rank
holds : {X : Type 0} (n : ℕ) (cells : ℕ → Cell X) (skipped : List ℕ) (p : WorkerPhase) (w : Worker X) (h : Option ℕ) → is_idle p ≡ false →
    WorkerFits n cells skipped p w h → h ≡ Some w.rank
holds n cells skipped Idle w h q f = absurd (let z : ◌≡◌ {A = ℕ} 0 1 = cc in omega arith)
holds n cells skipped Seeking w h q f = f
holds n cells skipped Doubting w h q f = f
holds n cells skipped Marked w h q f = f.0
holds n cells skipped Passed w h q f = f.0
holds n cells skipped Sure w h q f = f.0
holds n cells skipped Copied w h q f = f.0

module _ {X : Type 0} where
  -- finished within `most` steps, stopped short of it with the budget used up, or refused for want of room in the log
  abbrev pub InBounds : Drained X → ℕ → ℕ → Type 0
  InBounds d used-up most =
      ((d.outcome ≡ Ok true) × (d.steps ≤ most))
      ⊎ (((d.outcome ≡ Ok false) × (d.steps ≡ used-up) × (d.steps < most)) ⊎ ((k : ℕ) × (d.outcome ≡ Err (refusal 7 k)) × (d.steps ≤ most)))

  wider : (d : Drained X) (u u' n n' : ℕ) → u ≡ u' → n ≤ n' → InBounds d u n → InBounds d u' n'
  wider d u u' n n' q h (inl x) = inl (x.0, omega (arith, x.1))
  wider d u u' n n' q h (inr (inl x)) = inr (inl (x.0, x.1 ∙ q, omega (arith, x.2)))
  wider d u u' n n' q h (inr (inr x)) = inr (inr (x.0, x.1, omega (arith, x.2)))

  module _ (blank : X) (r : Receiver X) (p : Permit) (start e W : ℕ) (low : e ≤ 2 ^ 40) where
    abbrev queue : List (Worker X) → Contents X → Log X → Queue X
    queue ws m l = queue_of m r ws l p

    abbrev pub work : List (Worker X) → Contents X → List (Announcement X) → ℕ
    work ws m announced = sum (due (λ k. get_or ws k (no_worker blank)) announced) W + 4 * (e - m.head)

    -- a life has led here, and the queue is closed at e
    pub record Here (ws : List (Worker X)) (m : Contents X) (l : Log X) (a : Account X) : Type 0 where
      pub invariant : Invariant (sizes (queue ws m l)) start (view blank (queue ws m l)) a
      pub closed : m.end ≡ pos e
      pub count : length ws ≡ W

    module _ (ws : List (Worker X)) (m : Contents X) (l : Log X) (a : Account X) (h : Here ws m l a) (k : ℕ) (there : k < W) where
      abbrev q : Queue X
      q = queue ws m l

      abbrev w : Worked X
      w = worker_step blank k ws m l

      some : 0 < size m
      some = h.invariant.ring.some_cells

      fresh : is_idle (get_or ws k (no_worker blank)).phase ≡ false → (get_or ws k (no_worker blank)).rank < m.head
      fresh busy =
          let u = get_or ws k (no_worker blank) in
          let held = holds (size m) (view blank q).cells a.skipped u.phase u (a.held k) busy (h.invariant.workers k) in
          (h.invariant.ranks.claimed_between u.rank (h.invariant.ranks.held_claimed k u.rank held)).1

      pub refused_why : (why : Reason) → w.answer ≡ Err why → why ≡ record { number = 7; place = k; layer = why.layer }
      refused_why why x =
          let is = only_log_full blank k m l e h.closed low ws (no_worker blank) some (let c = h.count in omega (arith, c)) fresh why x in
          is ∙ ap (λ y. record { number = 7; place = k; layer = y.layer }) (sym is)

      module _ (ans : WorkerAnswer X) (ok : w.answer ≡ Ok ans) where
        step : Step (sizes q) (view blank q) (worked k ans) (view blank (queue w.workers w.store w.log))
        step =
            subst (λ (o : Result (WorkerAnswer X) Reason). Step (sizes q) (view blank q) (event (WorkerStep k) (working q w o).answer) (view blank (working q w o).queue)) ok
            (call_steps blank q some (WorkerStep k))

        same_sizes : sizes (queue w.workers w.store w.log) ≡ sizes q
        same_sizes = subst (λ (o : Result (WorkerAnswer X) Reason). sizes (working q w o).queue ≡ sizes q) ok (sizes_kept blank q (WorkerStep k))

        pub onward : Here w.workers w.store w.log (note a (worked k ans))
        onward = record {
          invariant =
              subst (λ (z : Sizes). Invariant z start (view blank (queue w.workers w.store w.log)) (note a (worked k ans))) (sym same_sizes)
              (keep (sizes q) start (view blank q) a (worked k ans) _ step h.invariant);
          closed = end_stays k ans step ∙ h.closed;
          count = ap (λ z. z.workers) same_sizes ∙ h.count;
        }

        pub lighter : work w.workers w.store (note a (worked k ans)).announced + one_unless_over ans ≤ work ws m a.announced
        lighter =
            subst (λ (an : List (Announcement X)). work w.workers w.store an + one_unless_over ans ≤ work ws m a.announced) (sym (worked_announces_none a k ans))
            (work_falls h.invariant k ans _ e W h.closed step there)

    abbrev most : ℕ → ℕ → List (Worker X) → Contents X → List (Announcement X) → ℕ
    most made k ws m announced = made + work ws m announced + (W - k)

    -- one turn of the drain, if the rest of it keeps its bound
    module _ (left made k : ℕ) (ws : List (Worker X)) (m : Contents X) (l : Log X) (a : Account X) (h : Here ws m l a) where
      abbrev stepped : Worked X
      stepped = worker_step blank k ws m l

      abbrev rest : WorkerAnswer X → Drained X
      rest x = drain_from blank left (made + 1) (next_worker x k) stepped.workers stepped.store stepped.log

      abbrev Again : Type 0
      Again = (there : k < W) (ans : WorkerAnswer X) → stepped.answer ≡ Ok ans →
          InBounds (rest ans) (made + 1 + left) (most (made + 1) (next_worker ans k) stepped.workers stepped.store (note a (worked k ans)).announced)

      by_step : (there : k < W) → Again → (o : Result (WorkerAnswer X) Reason) → stepped.answer ≡ o →
          InBounds (by_answer blank o made stepped rest) (made + suc left) (most made k ws m a.announced)
      by_step there again (Ok ans) ok =
          let next = next_is ans k in
          let less = lighter ws m l a h k there ans ok in
          wider (rest ans) (made + 1 + left) (made + suc left) (most (made + 1) (next_worker ans k) stepped.workers stepped.store (note a (worked k ans)).announced) (most made k ws m a.announced)
          (omega arith) (omega (arith, next, less)) (again there ans ok)
      by_step there again (Err why) not =
          let is = refused_why ws m l a h k there why not in
          inr (inr (k, ap (λ y. Err (from_below y)) is, omega arith))

      by_test : (b : Bool) → leb (length ws) k ≡ b → Again →
          InBounds (cond b (ends blank made (Ok true) ws m l) (by_answer blank stepped.answer made stepped rest)) (made + suc left) (most made k ws m a.announced)
      by_test true t again = inl (refl, omega arith)
      by_test false t again = by_step (let c = h.count in let f = leb-false (length ws) k t in omega (arith, c, f)) again stepped.answer refl

      by_end : (b : Bool) → leb (length ws) k ≡ b → InBounds (ends blank made (Ok b) ws m l) (made + 0) (most made k ws m a.announced)
      by_end true t = inl (refl, omega arith)
      by_end false t = inr (inl (refl, omega arith, (let c = h.count in let f = leb-false (length ws) k t in omega (arith, c, f))))

    pub drains : (left made k : ℕ) (ws : List (Worker X)) (m : Contents X) (l : Log X) (a : Account X) → Here ws m l a → k ≤ W →
        InBounds (drain_from blank left made k ws m l) (made + left) (most made k ws m a.announced)
    drains zero made k ws m l a h in_table = by_end zero made k ws m l a h (leb (length ws) k) refl
    drains (suc left) made k ws m l a h in_table =
        by_test left made k ws m l a h (leb (length ws) k) refl
        (λ there ans ok. drains left (made + 1) (next_worker ans k) _ _ _ (note a (worked k ans)) (onward ws m l a h k there ans ok) (omega (arith, next_is ans k)))
