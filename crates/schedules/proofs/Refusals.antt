-- In a closed queue of a life a worker's step is refused only where the log is full.
use Rattle.std.proofs.Common.{◌≡◌, ℕ, ◌+◌, ◌%◌, ◌^◌, ◌<◌, ◌≤◌, Bool, true, false, cond, eqb, leb, List, length, get_or, pos, Ok, Err, Option, Result, sym, refl, ap, subst, arith}
use Rattle.std.specs.List.{slice_get}
use Rattle.std.proofs.lemmas.Option.{slice_get-get_or}
use Rattle.std.proofs.lemmas.Bool.{ne_eqb, cond-false, leb-true, leb-false}
use Rattle.stores.specs.Refusals.{Reason}
use Rattle.stores.specs.Model.{Contents, size, cell_of, with_head}
use Rattle.protocol.specs.declared.record.WorkerPhase.{WorkerPhase}
use Rattle.protocol.specs.declared.record.WorkerPhase.TheVariants.{Idle, Seeking, Doubting, Marked, Passed, Sure, Copied}
use Rattle.protocol.specs.declared.record.Worker.{Worker}
use Rattle.protocol.specs.declared.answer.WorkerAnswer.{WorkerAnswer}
use Rattle.protocol.specs.declared.answer.WorkerAnswer.TheVariants.{Claimed, MovedOn}
use Rattle.protocol.specs.Tests.{limit, is_rank, covers, ended_by, is_idle}
use Rattle.protocol.specs.Records.{Log}
use Rattle.protocol.specs.Rules as rules
use Rattle.protocol.specs.Rules.{refusal, work_in, one_step, step_of, worker_step, in_table}

module _ {X : Type 0} (blank : X) (k : ℕ) (m : Contents X) (l : Log X) (e : ℕ) (end : m.end ≡ pos e) (low : e ≤ 2 ^ 40) where
  -- refused with 7 and the worker's number, if at all
  abbrev pub OnlyLogFull : {V : Type 0} → Result V Reason → Type 0
  OnlyLogFull {V} o = (why : Reason) → o ≡ Err why → why ≡ refusal 7 k

  accepted : {V : Type 0} (v : V) → OnlyLogFull (Ok v)
  accepted v why q = absurd (let z : ◌≡◌ {A = ℕ} 0 1 = cc in omega arith)

  abbrev Only : rules.Stepped X → Type 0
  Only st = OnlyLogFull st.answer

  -- by a test: what holds in either case
  either : (b : Bool) (x y : rules.Stepped X) → Only x → Only y → Only (cond b x y)
  either true x y p q = p
  either false x y p q = q

  module _ (w : Worker X) where
    -- there is a rank to take below the end
    by_next : (a : ℕ → WorkerAnswer X) (b c : Bool) (over : rules.Stepped X) → ended_by m.end m.head ≡ b → leb limit m.head ≡ c → Only over →
        Only (cond b over (cond c (rules.refused blank k w m l 6 0) (rules.becomes blank k w m l (a m.head) Seeking m.head w.copy (with_head m (m.head + 1)) l)))
    by_next a true c over p q o = o
    by_next a false true over p q o =
        absurd
        (let high : 2 ^ 40 ≤ m.head = leb-true limit m.head q in
        let below : m.head < e = leb-false e m.head (subst (λ z. ended_by z m.head ≡ false) end p) in
        omega arith)
    by_next a false false over p q o = accepted _

    by_work : (p : WorkerPhase) → Only (work_in blank k w m l p)
    by_work Idle = by_next Claimed (ended_by m.end m.head) (leb limit m.head) _ refl refl (accepted _)
    by_work Seeking = either (is_rank (cell_of blank m (w.rank % size m)).rank w.rank) _ _ (accepted _) (accepted _)
    by_work Doubting =
        either (covers (cell_of blank m (w.rank % size m)).gap w.rank) _ _ (accepted _) (either (ended_by m.end w.rank) _ _ (accepted _) (accepted _))
    by_work Marked = either (is_rank (cell_of blank m (w.rank % size m)).rank w.rank) _ _ (accepted _) (accepted _)
    by_work Passed = by_next MovedOn (ended_by m.end m.head) (leb limit m.head) _ refl refl (accepted _)
    by_work Sure = accepted _
    by_work Copied = either (leb (length l.entries) l.count) _ _ (λ why q. cc) (accepted _)

    -- 8 is for a rank that was never handed out
    by_check : (b c : Bool) → is_idle w.phase ≡ b → leb m.head w.rank ≡ c → (is_idle w.phase ≡ false → w.rank < m.head) →
        Only (cond b (work_in blank k w m l w.phase) (cond c (rules.refused blank k w m l 8 k) (work_in blank k w m l w.phase)))
    by_check true c p q r = by_work w.phase
    by_check false true p q r = absurd (let high : m.head ≤ w.rank = leb-true m.head w.rank q in let below : w.rank < m.head = r p in omega arith)
    by_check false false p q r = by_work w.phase

  in_table_only : (ws : List (Worker X)) (st : Result (rules.Moved X) Reason) → OnlyLogFull st → OnlyLogFull (rules.told st)
  in_table_only ws (Ok v) o = accepted _
  in_table_only ws (Err why) o = λ y q. o y (let same : why ≡ y = cc in ap Err same)

  pub only_log_full : (ws : List (Worker X)) (d : Worker X) → 0 < size m → k < length ws →
      (is_idle (get_or ws k d).phase ≡ false → (get_or ws k d).rank < m.head) →
      OnlyLogFull (worker_step blank k ws m l).answer
  only_log_full ws d some there fresh =
      let w = get_or ws k d in
      subst (λ (s : rules.Worked X). OnlyLogFull s.answer)
      (sym (cond-false (eqb (size m) 0) (rules.not_worked blank k ws m l 1 0) (step_of blank k ws m l (slice_get ws k)) (ne_eqb (size m) 0 (λ q. omega arith))))
      (subst (λ (o : Option (Worker X)). OnlyLogFull (step_of blank k ws m l o).answer) (sym (slice_get-get_or ws k d there))
      (in_table_only ws (one_step blank k w m l).answer (by_check w (is_idle w.phase) (leb m.head w.rank) refl refl fresh)))
