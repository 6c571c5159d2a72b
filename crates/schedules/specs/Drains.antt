-- A drain: worker 0 is stepped until it is told over, then worker 1, and so on, as far as the budget reaches.
use Rattle.std.specs.Prelude.{ℕ, zero, suc, ◌+◌, ◌^◌, min, Bool, true, cond, ◌&&◌, List, length, Some, None, Ok, Err, Option, Result, ◌==◌, nat_le, nat_lt}
use Rattle.stores.specs.declared.refusal.Layer.TheVariants.{Run}
use Rattle.stores.specs.Refusals.{Reason, reason_by}
use Rattle.stores.specs.Model.{Contents, size}
use Rattle.protocol.specs.declared.record.Worker.{Worker}
use Rattle.protocol.specs.declared.answer.WorkerAnswer.{WorkerAnswer}
use Rattle.protocol.specs.declared.answer.WorkerAnswer.TheVariants.{Over, Claimed, MovedOn, Waiting, GivenUp, Stepped, Delivered}
use Rattle.protocol.specs.Tests.{is_open}
use Rattle.protocol.specs.Records.{Log}
use Rattle.protocol.specs.Rules.{Worked, worker_step}

-- a budget above this is cut to it
abbrev pub most_steps : ℕ
most_steps = 2 ^ 43

-- a refusal of a run, or one from below under this layer's name
abbrev pub refusal : ℕ → ℕ → Reason
refusal number place = reason_by Run number place

abbrev pub from_below : Reason → Reason
from_below why = refusal why.number why.place

pub record Drained (X : Type 0) : Type 0 where
  pub steps : ℕ
  -- whether every worker was told over, or why a step was refused
  pub outcome : Result Bool Reason
  pub workers : List (Worker X)
  pub store : Contents X
  pub log : Log X

-- 1, 3, 11: only an end mark of -1 is an open queue's
abbrev pub no_drain : {X : Type 0} → Contents X → List (Worker X) → Option Reason
no_drain m ws =
    cond (size m == 0) (Some (refusal 1 0))
    (cond (nat_lt 0 (length ws) && nat_le (length ws) 64) (cond (is_open m.end) (Some (refusal 11 0)) None) (Some (refusal 3 (length ws))))

-- the worker whose turn it is after this answer of worker k
abbrev pub next_worker : {X : Type 0} → WorkerAnswer X → ℕ → ℕ
next_worker (Over e) k = k + 1
next_worker (Claimed r) k = k
next_worker (MovedOn r) k = k
next_worker (Waiting r) k = k
next_worker (GivenUp r) k = k
next_worker (Stepped p r) k = k
next_worker (Delivered r x) k = k

module _ {X : Type 0} (blank : X) where
  -- it ends here, after so many steps
  abbrev pub ends : ℕ → Result Bool Reason → List (Worker X) → Contents X → Log X → Drained X
  ends made how ws m l = record { steps = made; outcome = how; workers = ws; store = m; log = l }

  -- it goes on after an accepted step, and ends at a refused one
  abbrev pub by_answer : Result (WorkerAnswer X) Reason → ℕ → Worked X → (WorkerAnswer X → Drained X) → Drained X
  by_answer (Ok a) made w goes_on = goes_on a
  by_answer (Err why) made w goes_on = ends made (Err (from_below why)) w.workers w.store w.log

  -- from worker k on, after `made` steps, with so many steps left
  abbrev pub drain_from : ℕ → ℕ → ℕ → List (Worker X) → Contents X → Log X → Drained X
  drain_from zero made k ws m l = ends made (Ok (nat_le (length ws) k)) ws m l
  drain_from (suc left) made k ws m l =
      cond (nat_le (length ws) k) (ends made (Ok true) ws m l)
      (by_answer (worker_step blank k ws m l).answer made (worker_step blank k ws m l)
      (λ a. drain_from left (made + 1) (next_worker a k) (worker_step blank k ws m l).workers (worker_step blank k ws m l).store
      (worker_step blank k ws m l).log))

  abbrev pub drain_unless : Option Reason → ℕ → List (Worker X) → Contents X → Log X → Drained X
  drain_unless (Some why) budget ws m l = ends 0 (Err why) ws m l
  drain_unless None budget ws m l = drain_from (min budget most_steps) 0 0 ws m l

  -- the drain with this budget
  abbrev pub drained : ℕ → List (Worker X) → Contents X → Log X → Drained X
  drained budget ws m l = drain_unless (no_drain m ws) budget ws m l
