-- One step more of a drain.
use Rattle.std.proofs.Common.{◌≡◌, ℕ, zero, suc, ◌+◌, ◌-◌, ◌<◌, ◌≤◌, Bool, true, false, cond, leb, List, length, Ok, Err, Result, sym, ap, ◌∙◌, arith}
use Rattle.std.proofs.lemmas.Bool.{le-leb, lt-leb}
use Rattle.stores.specs.Refusals.{Reason}
use Rattle.stores.specs.Model.{Contents}
use Rattle.protocol.specs.declared.record.Worker.{Worker}
use Rattle.protocol.specs.declared.answer.WorkerAnswer.{WorkerAnswer}
use Rattle.protocol.specs.Records.{Log}
use Rattle.protocol.specs.Rules.{Worked, worker_step}
use Rattle.schedules.specs.Drains.{Drained, from_below, next_worker, ends, by_answer, drain_from}

module _ {X : Type 0} (blank : X) (budget i k : ℕ) (ws : List (Worker X)) (m : Contents X) (l : Log X) where
  abbrev w : Worked X
  w = worker_step blank k ws m l

  abbrev rest : WorkerAnswer X → Drained X
  rest a = drain_from blank (budget - (i + 1)) (i + 1) (next_worker a k) w.workers w.store w.log

  -- the budget reaches further, and worker k is there
  unrolled : i < budget → k < length ws → drain_from blank (budget - i) i k ws m l ≡ by_answer blank w.answer i w rest
  unrolled h there =
      let n : budget - i ≡ suc (budget - (i + 1)) = omega arith in
      let f : leb (length ws) k ≡ false = lt-leb (length ws) k there in
      ap (λ (left : ℕ). drain_from blank left i k ws m l) n ∙ ap (λ (b : Bool). cond b (ends blank i (Ok true) ws m l) (by_answer blank w.answer i w rest)) f

  pub drain_more : (a : WorkerAnswer X) (ws' : List (Worker X)) (m' : Contents X) (l' : Log X) → i < budget → k < length ws →
      w.answer ≡ Ok a → ws' ≡ w.workers → m' ≡ w.store → l' ≡ w.log →
      drain_from blank (budget - i) i k ws m l ≡ drain_from blank (budget - (i + 1)) (i + 1) (next_worker a k) ws' m' l'
  drain_more a ws' m' l' h there ok ew em el =
      unrolled h there ∙ ap (λ (o : Result (WorkerAnswer X) Reason). by_answer blank o i w rest) ok
      ∙ (λ t. drain_from blank (budget - (i + 1)) (i + 1) (next_worker a k) (sym ew t) (sym em t) (sym el t))

  pub drain_refused : (why : Reason) (ws' : List (Worker X)) (m' : Contents X) (l' : Log X) → i < budget → k < length ws →
      w.answer ≡ Err why → ws' ≡ w.workers → m' ≡ w.store → l' ≡ w.log →
      drain_from blank (budget - i) i k ws m l ≡ ends blank i (Err (from_below why)) ws' m' l'
  drain_refused why ws' m' l' h there refused ew em el =
      unrolled h there ∙ ap (λ (o : Result (WorkerAnswer X) Reason). by_answer blank o i w rest) refused
      ∙ (λ t. ends blank i (Err (from_below why)) (sym ew t) (sym em t) (sym el t))

  -- every worker was told over
  over : (left : ℕ) → length ws ≤ k → drain_from blank left i k ws m l ≡ ends blank i (Ok true) ws m l
  over zero h = ap (λ (b : Bool). ends blank i (Ok b) ws m l) (le-leb (length ws) k h)
  over (suc left) h =
      ap (λ (b : Bool). cond b (ends blank i (Ok true) ws m l) (by_answer blank w.answer i w (λ a. drain_from blank left (i + 1) (next_worker a k) w.workers w.store w.log))) (le-leb (length ws) k h)

  pub drain_finished : length ws ≤ k → drain_from blank (budget - i) i k ws m l ≡ ends blank i (Ok true) ws m l
  drain_finished h = over (budget - i) h

  pub drain_used_up : budget ≤ i → drain_from blank (budget - i) i k ws m l ≡ ends blank i (Ok (leb (length ws) k)) ws m l
  drain_used_up h = let n : budget - i ≡ 0 = omega arith in ap (λ (left : ℕ). drain_from blank left i k ws m l) n
