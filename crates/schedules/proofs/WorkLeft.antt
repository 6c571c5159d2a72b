-- The steps that the workers of a closed queue have left at most: each of them takes one away.
use Rattle.std.proofs.Common.{◌≡◌, ℕ, ◌+◌, ◌-◌, ◌*◌, ◌%◌, ◌<◌, ◌≤◌, Bool, true, false, ltb, ◌⊎◌, List, pos, Some, sym, refl, ap, ◌∙◌, subst, inl, inr, arith}
use Rattle.std.proofs.lemmas.Bool.{cases_lt, leb-false, lt-ltb, le-ltb}
use Rattle.protocol.specs.declared.record.WorkerPhase.{WorkerPhase}
use Rattle.protocol.specs.declared.record.WorkerPhase.TheVariants.{Idle, Seeking, Doubting, Marked, Passed, Sure, Copied}
use Rattle.protocol.specs.declared.record.Worker.{Worker}
use Rattle.protocol.specs.declared.answer.WorkerAnswer.{WorkerAnswer}
use Rattle.protocol.specs.declared.answer.WorkerAnswer.TheVariants.{Over, Claimed, MovedOn, Waiting, GivenUp, Stepped, Delivered}
use Rattle.protocol.specs.Tests.{ended_by}
use Rattle.protocol.specs.State.{Sizes, State, put}
use Rattle.protocol.specs.Events.{worked}
use Rattle.protocol.specs.Steps.{Step, idle_finds_over, claims, becomes_sure, doubts, marks, gives_up, waits, passes, passed_finds_over, moves_on, copies, delivers, own_cell, own_rank, in_phase}
use Rattle.protocol.specs.Account.{Announcement, Account, In, times_announced, note}
use Rattle.protocol.specs.Promise.{announcement}
use Rattle.protocol.proofs.Tables.{put_same, equals_yes, equals_no, covers_no}
use Rattle.protocol.proofs.Counts.{announced_none, announced_some}
use Rattle.protocol.proofs.Invariant.{Invariant}
use Rattle.protocol.proofs.Kept.{worker_fits}
use Rattle.protocol.proofs.Finishing.{aside_work}
use Rattle.schedules.proofs.Sums.{sum, sum_change}

-- by the phase, and whether the worker's rank is announced: the steps until it is idle or passed
abbrev pub steps_due : WorkerPhase → Bool → ℕ
steps_due Idle b = 0
steps_due Seeking b = 3
steps_due Doubting true = 4
steps_due Doubting false = 2
steps_due Marked true = 3
steps_due Marked false = 1
steps_due Passed b = 0
steps_due Sure b = 2
steps_due Copied b = 1

pub steps_due_few : (p : WorkerPhase) (b : Bool) → steps_due p b ≤ 4
steps_due_few Idle b = omega arith
steps_due_few Seeking b = omega arith
steps_due_few Doubting true = omega arith
steps_due_few Doubting false = omega arith
steps_due_few Marked true = omega arith
steps_due_few Marked false = omega arith
steps_due_few Passed b = omega arith
steps_due_few Sure b = omega arith
steps_due_few Copied b = omega arith

-- 1, unless the answer is over
abbrev pub one_unless_over : {X : Type 0} → WorkerAnswer X → ℕ
one_unless_over (Over e) = 0
one_unless_over (Claimed r) = 1
one_unless_over (MovedOn r) = 1
one_unless_over (Waiting r) = 1
one_unless_over (GivenUp r) = 1
one_unless_over (Stepped p r) = 1
one_unless_over (Delivered r x) = 1

ended_no : (e h : ℕ) → ended_by (pos e) h ≡ false → h < e
ended_no e h f = omega (arith, leb-false e h f)

module _ {X : Type 0} where
  abbrev pub is_announced : List (Announcement X) → ℕ → Bool
  is_announced announced r = ltb 0 (times_announced r announced)

  -- of worker k
  abbrev pub due : (ℕ → Worker X) → List (Announcement X) → ℕ → ℕ
  due ws announced k = steps_due (ws k).phase (is_announced announced (ws k).rank)

  pub worked_announces_none : (a : Account X) (k : ℕ) (w : WorkerAnswer X) → (note a (worked k w)).announced ≡ a.announced
  worked_announces_none a k (Over e) = refl
  worked_announces_none a k (Claimed r) = refl
  worked_announces_none a k (MovedOn r) = refl
  worked_announces_none a k (Waiting r) = refl
  worked_announces_none a k (GivenUp r) = refl
  worked_announces_none a k (Stepped p r) = refl
  worked_announces_none a k (Delivered r x) = refl

  module _ {z : Sizes} {start : ℕ} {s : State X} {a : Account X} (i : Invariant z start s a) where
    abbrev announced_is : ℕ → Bool
    announced_is r = is_announced a.announced r

    abbrev Stands : ℕ → Type 0
    Stands r = (s.cells (r % z.cells)).rank ≡ pos r

    -- a held rank is announced and stands in its cell, or it is not, and then it is skipped or past the tail
    abbrev Status : ℕ → Type 0
    Status r = ((announced_is r ≡ true) × Stands r) ⊎ ((announced_is r ≡ false) × (Stands r → ⊥) × (In r a.skipped ⊎ (s.tail ≤ r)))

    unannounced : (r : ℕ) → ((x : X) → In (announcement r x) a.announced → ⊥) → In r a.skipped ⊎ (s.tail ≤ r) → Status r
    unannounced r none why =
        inr (
          le-ltb 0 (times_announced r a.announced) (let z : times_announced r a.announced ≡ 0 = announced_none r a.announced none in omega arith),
          (λ e. none (s.cells (r % z.cells)).item (i.ring.cell_is (r % z.cells) r e).1),
          why,
        )

    status : (k r : ℕ) → a.held k ≡ Some r → Status r
    status k r held =
        elim (cases_lt r s.tail) [
          | inl below ↦ elim (i.ring.settled r (i.ranks.claimed_between r (i.ranks.held_claimed k r held)).0 below) [
            | inl (x, m) ↦ inl (
              lt-ltb 0 (times_announced r a.announced) (announced_some r x a.announced m),
              elim (i.ring.kept r x m) [
                | inl q ↦ q.0
                | inr q ↦ absurd (let bad : ◌≡◌ {A = ℕ} 0 1 = sym (i.ranks.held_not_else k r held).0 ∙ q.2 in omega arith)
              ],
            )
            | inr m ↦ unannounced r (λ x h. i.ring.announced_not_skipped r x h m) (inl m)
          ]
          | inr past ↦ unannounced r (λ x h. let below : r < s.tail = i.ring.announced_below r x h in omega arith) (inr past)
        ]

    -- worker k's record changes, and so much less is due of it
    module _ (k : ℕ) (v : Worker X) (p : WorkerPhase) (x : ℕ) (phase_is : (s.workers k).phase ≡ p) where
      changed : (n y : ℕ) → steps_due v.phase (announced_is v.rank) + n ≤ steps_due p (announced_is (own_rank s k)) + y →
          due (put s.workers k v) a.announced k + n ≤ due s.workers a.announced k + y
      changed n y h =
          subst (λ u. steps_due u.phase (announced_is u.rank) + n ≤ due s.workers a.announced k + y) (sym (put_same s.workers k v))
          (subst (λ q. steps_due v.phase (announced_is v.rank) + n ≤ steps_due q (announced_is (own_rank s k)) + y) (sym phase_is) h)

      less : steps_due v.phase (announced_is v.rank) + 1 ≤ steps_due p (announced_is (own_rank s k)) →
          due (put s.workers k v) a.announced k + 4 * x + 1 ≤ due s.workers a.announced k + 4 * x
      less h = let c = changed 1 0 (omega arith) in omega (arith, c)

    marked_less : (b : Bool) → steps_due Marked b + 1 ≤ steps_due Doubting b
    marked_less true = omega arith
    marked_less false = omega arith

    idle_less : (b : Bool) → 0 + 1 ≤ steps_due Doubting b
    idle_less true = omega arith
    idle_less false = omega arith

    passed_less : (b : Bool) → 0 + 1 ≤ steps_due Marked b
    passed_less true = omega arith
    passed_less false = omega arith

    abbrev Falls : (ℕ → Worker X) → ℕ → ℕ → ℕ → ℕ → Type 0
    Falls ws k before after n = due ws a.announced k + 4 * after + n ≤ due s.workers a.announced k + 4 * before

    -- a step of worker k in a queue closed at e
    pub falls : (k : ℕ) (w : WorkerAnswer X) (s' : State X) (e : ℕ) → s.end ≡ pos e → Step z s (worked k w) s' →
        Falls s'.workers k (e - s.head) (e - s'.head) (one_unless_over w)
    falls k w s' e end (idle_finds_over _ l f _) = omega arith
    falls k w s' e end (claims _ l f o _) =
        let low : s.head < e = ended_no e s.head (subst (λ u. ended_by u s.head ≡ false) end o) in
        let c = changed k (record { phase = Seeking; rank = s.head; copy = (s.workers k).copy }) Idle 0 f 0 3 (omega arith) in
        omega (arith, c)
    falls k w s' e end (becomes_sure _ l (inl f) t) = less k (in_phase (s.workers k) Sure) Seeking (e - s.head) f (omega arith)
    falls k w s' e end (becomes_sure _ l (inr f) t) =
        less k (in_phase (s.workers k) Sure) Marked (e - s.head) f
        (elim (status k (own_rank s k) (worker_fits i k Marked f).0) [
          | inl q ↦ subst (λ b. 2 + 1 ≤ steps_due Marked b) (sym q.0) (omega arith)
          | inr q ↦ absurd (q.1 (equals_yes (own_cell z.cells s (own_rank s k)).rank (own_rank s k) t))
        ])
    falls k w s' e end (doubts _ l f t) =
        less k (in_phase (s.workers k) Doubting) Seeking (e - s.head) f
        (elim (status k (own_rank s k) (worker_fits i k Seeking f)) [
          | inl q ↦ absurd (equals_no (own_cell z.cells s (own_rank s k)).rank (own_rank s k) t q.1)
          | inr q ↦ subst (λ b. steps_due Doubting b + 1 ≤ 3) (sym q.0) (omega arith)
        ])
    falls k w s' e end (marks _ l f t) = less k (in_phase (s.workers k) Marked) Doubting (e - s.head) f (marked_less (announced_is (own_rank s k)))
    falls k w s' e end (gives_up _ l f t u) = less k (in_phase (s.workers k) Idle) Doubting (e - s.head) f (idle_less (announced_is (own_rank s k)))
    falls k w s' e end (waits _ l f t o) =
        less k (in_phase (s.workers k) Seeking) Doubting (e - s.head) f
        (elim (status k (own_rank s k) (worker_fits i k Doubting f)) [
          | inl q ↦ subst (λ b. 3 + 1 ≤ steps_due Doubting b) (sym q.0) (omega arith)
          | inr q ↦ absurd
              (elim q.2 [
                | inl m ↦ let g = i.ring.skipped_gap (own_rank s k) m in covers_no (own_cell z.cells s (own_rank s k)).gap (own_rank s k) g.0 t g.1 g.2
                | inr past ↦
                    let low : own_rank s k < e = ended_no e (own_rank s k) (subst (λ u. ended_by u (own_rank s k) ≡ false) end o) in
                    let at : e ≡ s.tail = (i.receiver.end_at e end).0 in
                    omega arith
              ])
        ])
    falls k w s' e end (passes _ l f t) = less k (in_phase (s.workers k) Passed) Marked (e - s.head) f (passed_less (announced_is (own_rank s k)))
    falls k w s' e end (passed_finds_over _ l f _) =
        let c = changed k (in_phase (s.workers k) Idle) Passed 0 f 0 0 (omega arith) in omega (arith, c)
    falls k w s' e end (moves_on _ l f o _) =
        let low : s.head < e = ended_no e s.head (subst (λ u. ended_by u s.head ≡ false) end o) in
        let c = changed k (record { phase = Seeking; rank = s.head; copy = (s.workers k).copy }) Passed 0 f 0 3 (omega arith) in
        omega (arith, c)
    falls k w s' e end (copies _ l f) =
        less k (record { phase = Copied; rank = own_rank s k; copy = (own_cell z.cells s (own_rank s k)).item }) Sure (e - s.head) f (omega arith)
    falls k w s' e end (delivers _ l f _) = less k (in_phase (s.workers k) Idle) Copied (e - s.head) f (omega arith)

    -- all that is due of the first n workers, with the ranks still to be claimed
    pub work_falls : (k : ℕ) (w : WorkerAnswer X) (s' : State X) (e n : ℕ) → s.end ≡ pos e → Step z s (worked k w) s' → k < n →
        sum (due s'.workers a.announced) n + 4 * (e - s'.head) + one_unless_over w ≤ sum (due s.workers a.announced) n + 4 * (e - s.head)
    work_falls k w s' e n end step h =
        let own = falls k w s' e end step in
        let all =
        sum_change (due s.workers a.announced) (due s'.workers a.announced) k n
        (λ j ne. ap (λ u. steps_due u.phase (announced_is u.rank)) (aside_work i j k w s' (λ q. ne (sym q)) step).0) h in
        omega (arith, own, all)

  pub end_stays : {z : Sizes} {s : State X} (k : ℕ) (w : WorkerAnswer X) {s' : State X} → Step z s (worked k w) s' → s'.end ≡ s.end
  end_stays k w (idle_finds_over _ l f _) = refl
  end_stays k w (claims _ l f _ _) = refl
  end_stays k w (becomes_sure _ l f t) = refl
  end_stays k w (doubts _ l f t) = refl
  end_stays k w (marks _ l f t) = refl
  end_stays k w (gives_up _ l f t u) = refl
  end_stays k w (waits _ l f t _) = refl
  end_stays k w (passes _ l f t) = refl
  end_stays k w (passed_finds_over _ l f _) = refl
  end_stays k w (moves_on _ l f _ _) = refl
  end_stays k w (copies _ l f) = refl
  end_stays k w (delivers _ l f _) = refl
