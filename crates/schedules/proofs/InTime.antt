-- A closed queue that a life led to: the steps that drain it, and the budget that finishes it.
use Rattle.std.proofs.Common.{◌≡◌, ℕ, zero, suc, ◌+◌, ◌-◌, ◌*◌, ◌^◌, ◌<◌, ◌≤◌, min, Bool, true, false, cond, ◌&&◌, eqb, ltb, leb, ◌⊎◌, List, [], ◌∷◌, map, length, get_or, ℤ, pos, negsuc, is_some, Some, None, Option, sym, refl, ap, ◌∙◌, subst, inl, inr, arith}
use Rattle.std.proofs.lemmas.List.{length-map, length-replicate}
use Rattle.std.proofs.lemmas.Bool.{and_parts, leb-true, ltb-true, ltb-false, eqb-false, ne_eqb, lt-ltb, le-ltb, le-leb}
use Rattle.stores.specs.declared.cell.Cell.{Cell}
use Rattle.stores.specs.Refusals.{Reason}
use Rattle.stores.specs.Model.{Contents, size, fresh_cell}
use Rattle.protocol.specs.declared.record.WorkerPhase.{WorkerPhase}
use Rattle.protocol.specs.declared.record.WorkerPhase.TheVariants.{Idle, Seeking, Doubting, Marked, Passed, Sure, Copied}
use Rattle.protocol.specs.declared.record.Worker.{Worker}
use Rattle.protocol.specs.declared.answer.Call.{Call}
use Rattle.protocol.specs.Tests.{limit, is_open}
use Rattle.protocol.specs.Records.{Receiver, Log}
use Rattle.protocol.specs.Rules.{no_lay_out, idled}
use Rattle.protocol.specs.Rules as rules
use Rattle.protocol.specs.State.{Permit, Sizes}
use Rattle.protocol.specs.Account.{Account, one_if, account, blank_account}
use Rattle.protocol.specs.Lives.{Queue, queue_of, make, after}
use Rattle.protocol.specs.Views.{sizes, view, no_worker, history, laid_out}
use Rattle.protocol.proofs.Invariant.{WorkerFits, Invariant}
use Rattle.protocol.proofs.Always.{at_start, always}
use Rattle.protocol.proofs.Lives.{sizes_kept, life_runs, laid_out_is}
use Rattle.schedules.specs.Drains.{Drained, most_steps, refusal, no_drain, drain_from, drain_unless, drained}
use Rattle.schedules.specs.Budgets.{holding, unclaimed, steps_enough, FinishedOrLogFull, DrainedInTime}
use Rattle.schedules.proofs.Sums.{sum, sum_at_most, sum_small}
use Rattle.schedules.proofs.WorkLeft.{steps_due, steps_due_few, due}
use Rattle.schedules.proofs.Bounds.{Bounded, always_bounded}
use Rattle.schedules.proofs.Draining.{InBounds, work, drains}

-- ---- what an accepted lay out says

accepted : (b c d : Bool) (x y z : Reason) → cond b (Some x) (cond c (Some y) (cond d None (Some z))) ≡ None → (b ≡ false) × (c ≡ false) × (d ≡ true)
accepted true c d x y z e = absurd (let n : ◌≡◌ {A = ℕ} 0 1 = cc in omega arith)
accepted false true d x y z e = absurd (let n : ◌≡◌ {A = ℕ} 0 1 = cc in omega arith)
accepted false false true x y z e = (refl, refl, refl)
accepted false false false x y z e = absurd (let n : ◌≡◌ {A = ℕ} 0 1 = cc in omega arith)

pub laid_out_within : {X : Type 0} (m : Contents X) (ws : List (Worker X)) (start : ℕ) → no_lay_out m ws start ≡ None →
    (0 < size m) × (start < 2 ^ 40) × (0 < length ws) × (length ws ≤ 64)
laid_out_within m ws start none =
    let q = accepted (eqb (size m) 0) (ltb (limit - 1) start) (ltb 0 (length ws) && leb (length ws) 64) _ _ _ none in
    let few = and_parts (ltb 0 (length ws)) (leb (length ws) 64) q.2 in (
      (let ne = eqb-false (size m) 0 q.0 in omega (arith, ne)),
      (let le = ltb-false (limit - 1) start q.1 in omega (arith, le)),
      ltb-true 0 (length ws) few.0,
      leb-true (length ws) 64 few.1,
    )

pub accepted_within : {X : Type 0} (m : Contents X) (ws : List (Worker X)) (start : ℕ) → 0 < size m → start < 2 ^ 40 → 0 < length ws → length ws ≤ 64 →
    no_lay_out m ws start ≡ None
accepted_within m ws start some low one few =
    let a : eqb (size m) 0 ≡ false = ne_eqb (size m) 0 (λ z. omega arith) in
    let b : ltb (limit - 1) start ≡ false = le-ltb (limit - 1) start (omega arith) in
    let c : (ltb 0 (length ws) && leb (length ws) 64) ≡ true = (λ i. lt-ltb 0 (length ws) one i && le-leb (length ws) 64 few i) in
    λ i. cond (a i) (Some (rules.refusal 1 0)) (cond (b i) (Some (rules.refusal 2 0)) (cond (c i) None (Some (rules.refusal 3 (length ws)))))

-- ---- a life leads here

module _ {X : Type 0} (blank : X) where
  pub sizes_after : (calls : List (Call X)) (q : Queue X) → sizes (after blank q calls) ≡ sizes q
  sizes_after [] q = refl
  sizes_after (c ∷ cs) q = sizes_after cs (make blank q c).queue ∙ sizes_kept blank q c

  module _ (m₀ : Contents X) (ws₀ : List (Worker X)) (l₀ : Log X) (start : ℕ) (none : no_lay_out m₀ ws₀ start ≡ None) (calls : List (Call X)) where
    abbrev first : Queue X
    first = laid_out blank (size m₀) ws₀ l₀ start

    abbrev now : Queue X
    now = after blank first calls

    abbrev said : Account X
    said = account (history blank first calls)

    some : 0 < size first.store
    some = let h = (laid_out_within m₀ ws₀ start none).0 in omega (arith, h, length-replicate (size m₀) (fresh_cell blank))

    pub life_invariant : Invariant (sizes now) start (view blank now) said
    life_invariant =
        subst (λ (z : Sizes). Invariant z start (view blank now) said) (sym (sizes_after calls first))
        (always (sizes first) start (view blank first) (history blank first calls) (view blank now) (life_runs blank calls first some) blank_account
        (at_start (sizes first) start (view blank first) (laid_out_is blank (size m₀) ws₀ l₀ start (laid_out_within m₀ ws₀ start none).0)))

    pub life_bounded : Bounded (view blank now)
    life_bounded =
        always_bounded (history blank first calls) (life_runs blank calls first some)
        (record { tail_is = (let h = (laid_out_within m₀ ws₀ start none).1 in omega (arith, h)); end_is = inl refl })

    pub workers_many : (0 < length now.workers) × (length now.workers ≤ 64)
    workers_many =
        let same : length now.workers ≡ length (map idled ws₀) = ap (λ z. z.workers) (sizes_after calls first) in
        let h = laid_out_within m₀ ws₀ start none in
        (omega (arith, same, h.2, length-map ws₀ (idled {X = X})), omega (arith, same, h.3, length-map ws₀ (idled {X = X})))

-- ---- what is due at most

holding_is : (held : ℕ → Option ℕ) (w : ℕ) → holding held w ≡ sum (λ k. one_if (is_some (held k))) w
unfolding holding sum
holding_is held zero = refl
holding_is held (suc w) = ap (λ n. n + one_if (is_some (held w))) (holding_is held w)

one_at_most : (b : Bool) → one_if b ≤ 1
one_at_most true = omega arith
one_at_most false = omega arith

due_few : {X : Type 0} (n : ℕ) (cells : ℕ → Cell X) (skipped : List ℕ) (p : WorkerPhase) (w : Worker X) (h : Option ℕ) (b : Bool) →
    WorkerFits n cells skipped p w h → steps_due p b ≤ 4 * one_if (is_some h)
due_few n cells skipped Idle w h b f = omega arith
due_few n cells skipped Seeking w h b f = subst (λ o. 3 ≤ 4 * one_if (is_some o)) (sym f) (omega arith)
due_few n cells skipped Doubting w h b f = subst (λ o. steps_due Doubting b ≤ 4 * one_if (is_some o)) (sym f) (steps_due_few Doubting b)
due_few n cells skipped Marked w h b f = subst (λ o. steps_due Marked b ≤ 4 * one_if (is_some o)) (sym f.0) (steps_due_few Marked b)
due_few n cells skipped Passed w h b f = omega arith
due_few n cells skipped Sure w h b f = subst (λ o. 2 ≤ 4 * one_if (is_some o)) (sym f.0) (omega arith)
due_few n cells skipped Copied w h b f = subst (λ o. 1 ≤ 4 * one_if (is_some o)) (sym f.0) (omega arith)

-- ---- the drain

closed_at : (z : ℤ) → is_open z ≡ false → (z ≡ negsuc 0) ⊎ ((e : ℕ) × (z ≡ pos e)) → (e : ℕ) × (z ≡ pos e)
closed_at z shut (inl o) = absurd (let f : is_open (negsuc 0) ≡ false = subst (λ v. is_open v ≡ false) o shut in let n : ◌≡◌ {A = ℕ} 0 1 = cc in omega arith)
closed_at z shut (inr c) = c

conclude : {X : Type 0} (d : Drained X) (budget most enough : ℕ) → InBounds d (0 + min budget (2 ^ 43)) most → most ≤ enough → enough < 2 ^ 43 →
    (d.steps ≤ enough) × (enough ≤ budget → FinishedOrLogFull d.outcome)
conclude d budget most enough (inl (ok, le)) h small = (omega arith, λ _. inl ok)
conclude d budget most enough (inr (inl (short, is, lt))) h small = (omega arith, λ ample. absurd (omega arith))
conclude d budget most enough (inr (inr (k, full, le))) h small = (omega arith, λ _. inr (k, full))

module _ {X : Type 0} (blank : X) (m : Contents X) (r : Receiver X) (ws : List (Worker X)) (l : Log X) (p : Permit) (a : Account X) (start : ℕ) where
  abbrev q : Queue X
  q = queue_of m r ws l p

  abbrev enough : ℕ
  enough = steps_enough a (length ws) m

  abbrev W : ℕ
  W = length ws

  in_time : Invariant (sizes q) start (view blank q) a → Bounded (view blank q) → W ≤ 64 → is_open m.end ≡ false → (budget : ℕ) →
      ((drain_from blank (min budget most_steps) 0 0 ws m l).steps ≤ enough) × (enough ≤ budget → FinishedOrLogFull (drain_from blank (min budget most_steps) 0 0 ws m l).outcome)
  in_time i b few shut budget =
      let c = closed_at m.end shut b.end_is in
      let e : ℕ = c.0 in
      let at : e ≡ r.tail = (i.receiver.end_at e c.1).0 in
      let low : e ≤ 2 ^ 40 = (let t = b.tail_is in omega (arith, t, at)) in
      let left : unclaimed m.end m.head ≡ e - m.head = ap (λ z. unclaimed z m.head) c.1 in
      let hold : holding a.held W ≡ sum (λ k. one_if (is_some (a.held k))) W = holding_is a.held W in
      let all = sum_at_most (due (λ k. get_or ws k (no_worker blank)) a.announced) (λ k. one_if (is_some (a.held k))) W
      (λ j. due_few (size m) (view blank q).cells a.skipped (get_or ws j (no_worker blank)).phase (get_or ws j (no_worker blank)) (a.held j) _ (i.workers j)) in
      let most : ℕ = 0 + work blank r p start e W low ws m a.announced + (W - 0) in
      let small : sum (λ k. one_if (is_some (a.held k))) W ≤ W = sum_small (λ k. one_if (is_some (a.held k))) W (λ j. one_at_most (is_some (a.held j))) in
      conclude (drain_from blank (min budget most_steps) 0 0 ws m l) budget most enough
      (drains blank r p start e W low (min budget most_steps) 0 0 ws m l a (record { invariant = i; closed = c.1; count = refl }) (omega arith))
      (omega (arith, all, left, hold)) (omega (arith, left, hold, small, few, low))

module _ {X : Type 0} (blank : X) (budget : ℕ) (ws : List (Worker X)) (m : Contents X) (l : Log X) where
  no_check_refuses : 0 < size m → 0 < length ws → length ws ≤ 64 → is_open m.end ≡ false → no_drain m ws ≡ None
  no_check_refuses some one few shut =
      let a : eqb (size m) 0 ≡ false = ne_eqb (size m) 0 (λ z. omega arith) in
      let b : (ltb 0 (length ws) && leb (length ws) 64) ≡ true = (λ i. lt-ltb 0 (length ws) one i && le-leb (length ws) 64 few i) in
      λ i. cond (a i) (Some (refusal 1 0)) (cond (b i) (cond (shut i) (Some (refusal 11 0)) None) (Some (refusal 3 (length ws))))

  pub drained_in_time : DrainedInTime blank budget ws m l (drained blank budget ws m l).steps (drained blank budget ws m l).outcome
  drained_in_time m₀ ws₀ l₀ start calls r p none is shut =
      let said = account (history blank (laid_out blank (size m₀) ws₀ l₀ start) calls) in
      let i = subst (λ (q : Queue X). Invariant (sizes q) start (view blank q) said) is (life_invariant blank m₀ ws₀ l₀ start none calls) in
      let b = subst (λ (q : Queue X). Bounded (view blank q)) is (life_bounded blank m₀ ws₀ l₀ start none calls) in
      let many = subst (λ (q : Queue X). (0 < length q.workers) × (length q.workers ≤ 64)) is (workers_many blank m₀ ws₀ l₀ start none calls) in
      let free = no_check_refuses i.ring.some_cells many.0 many.1 shut in
      subst
      (λ (o : Option Reason). ((drain_unless blank o budget ws m l).steps ≤ steps_enough said (length ws) m)
      × (steps_enough said (length ws) m ≤ budget → FinishedOrLogFull (drain_unless blank o budget ws m l).outcome))
      (sym free) (in_time blank m r ws l p said start i b many.1 shut budget)
