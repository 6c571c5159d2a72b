-- A worker that holds a settled rank is finished with it within four accepted steps of its own.
use Rattle.std.proofs.Common.{◌≡◌, ℕ, ◌+◌, ◌%◌, ◌<◌, ◌≤◌, Bool, true, false, eqb, ◌≢◌, ◌⊎◌, List, [], ◌∷◌, pos, Some, None, Option, sym, refl, ap, ◌∙◌, subst, inl, inr, arith}
use Rattle.std.proofs.lemmas.Bool.{eq-eqb, ne_eqb}
use native.Mathlib.Decide.{ℕ_discrete}
use Rattle.protocol.specs.declared.record.WorkerPhase.{WorkerPhase}
use Rattle.protocol.specs.declared.record.WorkerPhase.TheVariants.{Idle, Seeking, Doubting, Marked, Passed, Sure, Copied}
use Rattle.protocol.specs.declared.record.Worker.{Worker}
use Rattle.protocol.specs.declared.answer.ReceiverAnswer.{ReceiverAnswer}
use Rattle.protocol.specs.declared.answer.ReceiverAnswer.TheVariants.{Stepped as ReceiverStepped, Skipped, Announced}
use Rattle.protocol.specs.declared.answer.WorkerAnswer.{WorkerAnswer}
use Rattle.protocol.specs.declared.answer.WorkerAnswer.TheVariants.{Over, Claimed, MovedOn, Waiting, GivenUp, Stepped as WorkerStepped, Delivered}
use Rattle.protocol.specs.State.{Sizes, State, put}
use Rattle.protocol.specs.Events.{Event, not_made, refused, submitted, withdrew, received, worked, closed}
use Rattle.protocol.specs.Steps.{Step, is_not_made, is_refused, submits, withdraws, closes, finds_used, finds_free, skips, fills, announces, idle_finds_over, claims, becomes_sure, doubts, marks, gives_up, waits, passes, passed_finds_over, moves_on, copies, delivers, Run, here, then, own_cell, own_rank, in_phase}
use Rattle.protocol.specs.Account.{Announcement, Account, In, one_if, announcing, note_received, note_worked, note}
use Rattle.protocol.specs.Promise.{announcement, is_of, steps_of, Finishes, FinishedWithin, FinishedInTime}
use Rattle.protocol.proofs.Tables.{put_same, put_other, none_some, equals_yes, equals_no, past_yes, covers_no}
use Rattle.protocol.proofs.Invariant.{Invariant}
use Rattle.protocol.proofs.Workers.{worker_holds}
use Rattle.protocol.proofs.Kept.{keep, worker_fits}

-- the accepted steps left at most, by the phase: of an announced rank (true) and of a skipped one (false)
abbrev pub steps_left : Bool → WorkerPhase → ℕ
steps_left true Idle = 1
steps_left true Seeking = 3
steps_left true Doubting = 4
steps_left true Marked = 3
steps_left true Passed = 1
steps_left true Sure = 2
steps_left true Copied = 1
steps_left false Idle = 1
steps_left false Seeking = 4
steps_left false Doubting = 3
steps_left false Marked = 2
steps_left false Passed = 1
steps_left false Sure = 1
steps_left false Copied = 1

steps_left_some : (b : Bool) (p : WorkerPhase) → (1 ≤ steps_left b p) × (steps_left b p ≤ 4)
steps_left_some true Idle = (omega arith, omega arith)
steps_left_some true Seeking = (omega arith, omega arith)
steps_left_some true Doubting = (omega arith, omega arith)
steps_left_some true Marked = (omega arith, omega arith)
steps_left_some true Passed = (omega arith, omega arith)
steps_left_some true Sure = (omega arith, omega arith)
steps_left_some true Copied = (omega arith, omega arith)
steps_left_some false Idle = (omega arith, omega arith)
steps_left_some false Seeking = (omega arith, omega arith)
steps_left_some false Doubting = (omega arith, omega arith)
steps_left_some false Marked = (omega arith, omega arith)
steps_left_some false Passed = (omega arith, omega arith)
steps_left_some false Sure = (omega arith, omega arith)
steps_left_some false Copied = (omega arith, omega arith)

module _ {X : Type 0} where
  abbrev pub SettledAs : Bool → Account X → ℕ → Type 0
  SettledAs true a r = (x : X) × In (announcement r x) a.announced
  SettledAs false a r = In r a.skipped

  -- an event only adds to what is announced and what is skipped
  abbrev Adds : Account X → Account X → Type 0
  Adds a a' = ((v : Announcement X) → In v a.announced → In v a'.announced) × ((r : ℕ) → In r a.skipped → In r a'.skipped)

  announcing_adds : (v : Announcement X) (r : ℕ) (o : Option X) (l : List (Announcement X)) → In v l → In v (announcing r o l)
  announcing_adds v r None l m = m
  announcing_adds v r (Some y) l m = inr m

  received_adds : (a : Account X) (answer : ReceiverAnswer) → Adds a (note_received a answer)
  received_adds a (ReceiverStepped p t) = (λ v m. m, λ r m. m)
  received_adds a (Skipped q) = (λ v m. m, λ r m. inr m)
  received_adds a (Announced q) = (λ v m. announcing_adds v q a.last a.announced m, λ r m. m)

  worked_adds : (a : Account X) (k : ℕ) (answer : WorkerAnswer X) → Adds a (note_worked a k answer)
  worked_adds a k (Over e) = (λ v m. m, λ r m. m)
  worked_adds a k (Claimed q) = (λ v m. m, λ r m. m)
  worked_adds a k (MovedOn q) = (λ v m. m, λ r m. m)
  worked_adds a k (Waiting q) = (λ v m. m, λ r m. m)
  worked_adds a k (GivenUp q) = (λ v m. m, λ r m. m)
  worked_adds a k (WorkerStepped p q) = (λ v m. m, λ r m. m)
  worked_adds a k (Delivered q x) = (λ v m. m, λ r m. m)

  note_adds : (a : Account X) (e : Event X) → Adds a (note a e)
  note_adds a (not_made c) = (λ v m. m, λ r m. m)
  note_adds a (refused c number place) = (λ v m. m, λ r m. m)
  note_adds a (submitted x) = (λ v m. m, λ r m. m)
  note_adds a (withdrew h) = (λ v m. m, λ r m. m)
  note_adds a (received answer) = received_adds a answer
  note_adds a (worked k answer) = worked_adds a k answer
  note_adds a (closed e) = (λ v m. m, λ r m. m)

  -- so what is settled stays so
  settled_note : (b : Bool) (a : Account X) (e : Event X) (r : ℕ) → SettledAs b a r → SettledAs b (note a e) r
  settled_note true a e r m = (m.0, (note_adds a e).0 (announcement r m.0) m.1)
  settled_note false a e r m = (note_adds a e).1 r m

  -- a step finishes, or the rank is held still and, after a step of k's own, fewer steps are left
  abbrev Onward : Bool → State X → State X → Account X → ℕ → ℕ → Event X → Type 0
  Onward b s s' a' k r e = Finishes k r e ⊎ ((a'.held k ≡ Some r) × (steps_left b (s'.workers k).phase + is_of k e ≤ steps_left b (s.workers k).phase))

  module _ {z : Sizes} {start : ℕ} {s : State X} {a : Account X} (i : Invariant z start s a) where
    settled_below : (b : Bool) (r : ℕ) → SettledAs b a r → r < s.tail
    settled_below true r m = i.ring.announced_below r m.0 m.1
    settled_below false r m = i.ring.skipped_below r m

    stands : (k r : ℕ) → a.held k ≡ Some r → SettledAs true a r → (s.cells (r % z.cells)).rank ≡ pos r
    stands k r held m = elim (i.ring.kept r m.0 m.1) [
      | inl q ↦ q.0
      | inr q ↦ absurd (let bad : ◌≡◌ {A = ℕ} 0 1 = sym (i.ranks.held_not_else k r held).0 ∙ q.2 in omega arith)
    ]

    stands_not : (r : ℕ) → SettledAs false a r → (s.cells (r % z.cells)).rank ≡ pos r → ⊥
    stands_not r m e = i.ring.announced_not_skipped r (s.cells (r % z.cells)).item (i.ring.cell_is (r % z.cells) r e).1 m

    fewer : (b : Bool) (j : ℕ) (w : Worker X) (p : WorkerPhase) → (s.workers j).phase ≡ p → steps_left b w.phase + 1 ≤ steps_left b p → steps_left b (put s.workers j w j).phase + one_if (eqb j j) ≤ steps_left b (s.workers j).phase
    fewer b j w p e h =
        subst (λ v. steps_left b v.phase + one_if (eqb j j) ≤ steps_left b (s.workers j).phase) (sym (put_same s.workers j w))
        (subst (λ t. steps_left b w.phase + one_if t ≤ steps_left b (s.workers j).phase) (sym (eq-eqb j j refl))
        (subst (λ q. steps_left b w.phase + 1 ≤ steps_left b q) (sym e) h))

    own_step : (b : Bool) (j : ℕ) (w : WorkerAnswer X) (s' : State X) → Step z s (worked j w) s' → a.held j ≡ Some (own_rank s j) → SettledAs b a (own_rank s j) → Onward b s s' (note a (worked j w)) j (own_rank s j) (worked j w)
    own_step b j w s' (idle_finds_over k l f _) held m = absurd (none_some (own_rank s j) (sym (worker_fits i j Idle f) ∙ held))
    own_step b j w s' (claims k l f _ _) held m = absurd (none_some (own_rank s j) (sym (worker_fits i j Idle f) ∙ held))
    own_step true j w s' (becomes_sure k l (inl f) t) held m = inr (held, fewer true j (in_phase (s.workers j) Sure) Seeking f (omega arith))
    own_step true j w s' (becomes_sure k l (inr f) t) held m = inr (held, fewer true j (in_phase (s.workers j) Sure) Marked f (omega arith))
    own_step false j w s' (becomes_sure k l f t) held m = absurd (stands_not (own_rank s j) m (equals_yes (own_cell z.cells s (own_rank s j)).rank (own_rank s j) t))
    own_step true j w s' (doubts k l f t) held m = absurd (equals_no (own_cell z.cells s (own_rank s j)).rank (own_rank s j) t (stands j (own_rank s j) held m))
    own_step false j w s' (doubts k l f t) held m = inr (held, fewer false j (in_phase (s.workers j) Doubting) Seeking f (omega arith))
    own_step true j w s' (marks k l f t) held m = inr (held, fewer true j (in_phase (s.workers j) Marked) Doubting f (omega arith))
    own_step false j w s' (marks k l f t) held m = inr (held, fewer false j (in_phase (s.workers j) Marked) Doubting f (omega arith))
    own_step b j w s' (gives_up k l f t u) held m =
        let q = past_yes s.end (own_rank s j) u in
        let below : own_rank s j < s.tail = settled_below b (own_rank s j) m in
        let e : q.0 ≡ s.tail = (i.receiver.end_at q.0 q.1).0 in
        let le : q.0 ≤ own_rank s j = q.2 in
        absurd (omega arith)
    own_step true j w s' (waits k l f t _) held m = inr (held, fewer true j (in_phase (s.workers j) Seeking) Doubting f (omega arith))
    own_step false j w s' (waits k l f t _) held m = let q = i.ring.skipped_gap (own_rank s j) m in absurd (covers_no (own_cell z.cells s (own_rank s j)).gap (own_rank s j) q.0 t q.1 q.2)
    own_step true j w s' (passes k l f t) held m = absurd (equals_no (own_cell z.cells s (own_rank s j)).rank (own_rank s j) t (stands j (own_rank s j) held m))
    own_step false j w s' (passes k l f t) held m = inr (held, fewer false j (in_phase (s.workers j) Passed) Marked f (omega arith))
    own_step b j w s' (passed_finds_over k l f _) held m = inl (inr (inr (s.end, refl)))
    own_step b j w s' (moves_on k l f _ _) held m = inl (inr (inl (s.head, refl, (i.ranks.claimed_between (own_rank s j) (i.ranks.held_claimed j (own_rank s j) held)).1)))
    own_step true j w s' (copies k l f) held m = inr (held, fewer true j (record { phase = Copied; rank = own_rank s j; copy = (own_cell z.cells s (own_rank s j)).item }) Sure f (omega arith))
    own_step false j w s' (copies k l f) held m = absurd (stands_not (own_rank s j) m (worker_fits i j Sure f).1)
    own_step b j w s' (delivers k l f _) held m = inl (inl ((s.workers j).copy, refl))

    -- a step that is not k's own leaves its record and what it holds
    abbrev pub Aside : State X → ℕ → Event X → Type 0
    Aside s' k e = (s'.workers k ≡ s.workers k) × ((note a e).held k ≡ a.held k) × (is_of k e ≡ 0)

    abbrev Own : ℕ → Event X → Type 0
    Own k e = (w : WorkerAnswer X) × (e ≡ worked k w)

    not_own : (k j : ℕ) → j ≢ k → one_if (eqb j k) ≡ 0
    not_own k j h = ap one_if (ne_eqb j k h)

    same_record : (k j : ℕ) (w : Worker X) → j ≢ k → put s.workers j w k ≡ s.workers k
    same_record k j w h = put_other s.workers j w k (λ e. h (sym e))

    same_held : (k j : ℕ) (o : Option ℕ) → j ≢ k → put a.held j o k ≡ a.held k
    same_held k j o h = put_other a.held j o k (λ e. h (sym e))

    pub aside_work : (k j : ℕ) (w : WorkerAnswer X) (s' : State X) → j ≢ k → Step z s (worked j w) s' → Aside s' k (worked j w)
    aside_work k j w s' h (idle_finds_over _ l f _) = (refl, same_held k j None h, not_own k j h)
    aside_work k j w s' h (claims _ l f _ _) = (same_record k j (record { phase = Seeking; rank = s.head; copy = (s.workers j).copy }) h, same_held k j (Some s.head) h, not_own k j h)
    aside_work k j w s' h (becomes_sure _ l f t) = (same_record k j (in_phase (s.workers j) Sure) h, refl, not_own k j h)
    aside_work k j w s' h (doubts _ l f t) = (same_record k j (in_phase (s.workers j) Doubting) h, refl, not_own k j h)
    aside_work k j w s' h (marks _ l f t) = (same_record k j (in_phase (s.workers j) Marked) h, refl, not_own k j h)
    aside_work k j w s' h (gives_up _ l f t u) = (same_record k j (in_phase (s.workers j) Idle) h, same_held k j None h, not_own k j h)
    aside_work k j w s' h (waits _ l f t _) = (same_record k j (in_phase (s.workers j) Seeking) h, refl, not_own k j h)
    aside_work k j w s' h (passes _ l f t) = (same_record k j (in_phase (s.workers j) Passed) h, refl, not_own k j h)
    aside_work k j w s' h (passed_finds_over _ l f _) = (same_record k j (in_phase (s.workers j) Idle) h, same_held k j None h, not_own k j h)
    aside_work k j w s' h (moves_on _ l f _ _) = (same_record k j (record { phase = Seeking; rank = s.head; copy = (s.workers j).copy }) h, put_other (put a.held j None) j (Some s.head) k (λ e. h (sym e)) ∙ same_held k j None h, not_own k j h)
    aside_work k j w s' h (copies _ l f) = (same_record k j (record { phase = Copied; rank = own_rank s j; copy = (own_cell z.cells s (own_rank s j)).item }) h, refl, not_own k j h)
    aside_work k j w s' h (delivers _ l f _) = (same_record k j (in_phase (s.workers j) Idle) h, same_held k j None h, not_own k j h)

    aside_receive : (k : ℕ) (w : ReceiverAnswer) (s' : State X) → Step z s (received w) s' → Aside s' k (received w)
    aside_receive k w s' (finds_used x p h f _ u) = (refl, refl, refl)
    aside_receive k w s' (finds_free x p h f _ u) = (refl, refl, refl)
    aside_receive k w s' (skips x p h f) = (refl, refl, refl)
    aside_receive k w s' (fills x p h f) = (refl, refl, refl)
    aside_receive k w s' (announces x p h f) = (refl, refl, refl)

    aside : (k : ℕ) (e : Event X) (s' : State X) → Step z s e s' → Own k e ⊎ Aside s' k e
    aside k (not_made c) s' (is_not_made _) = inr (refl, refl, refl)
    aside k (refused c f p) s' (is_refused _ _ _) = inr (refl, refl, refl)
    aside k (submitted x) s' (submits _ p _ h) = inr (refl, refl, refl)
    aside k (withdrew o) s' (withdraws p) = inr (refl, refl, refl)
    aside k (received w) s' st = inr (aside_receive k w s' st)
    aside k (worked j w) s' st = go (ℕ_discrete j k)
      where
        go : Dec (j ≡ k) → Own k (worked j w) ⊎ Aside s' k (worked j w)
        go (yes q) = inl (w, ap (λ v. worked v w) q)
        go (no h) = inr (aside_work k j w s' h st)
    aside k (closed e) s' (closes p h) = inr (refl, refl, refl)

    onward : (b : Bool) (k r : ℕ) (e : Event X) (s' : State X) → Step z s e s' → a.held k ≡ Some r → SettledAs b a r → Onward b s s' (note a e) k r e
    onward b k r e s' st held m = go (aside k e s' st)
      where
        same : (s.workers k).rank ≡ r
        same = (worker_holds z.cells s.cells a.skipped (s.workers k).phase (s.workers k) (a.held k) r (i.workers k) held).1

        mine : (w : WorkerAnswer X) → Step z s (worked k w) s' → Onward b s s' (note a (worked k w)) k r (worked k w)
        mine w st' = subst (λ v. Onward b s s' (note a (worked k w)) k v (worked k w)) same (own_step b k w s' st' (held ∙ ap Some (sym same)) (subst (SettledAs b a) (sym same) m))

        go : Own k e ⊎ Aside s' k e → Onward b s s' (note a e) k r e
        go (inl (w, q)) = subst (λ v. Onward b s s' (note a v) k r v) (sym q) (mine w (subst (λ v. Step z s v s') q st))
        go (inr (p, h, o)) = inr (h ∙ held, let u : steps_left b (s'.workers k).phase ≡ steps_left b (s.workers k).phase = ap (λ v. steps_left b v.phase) p in omega arith)

  finished_run : (z : Sizes) (start : ℕ) (b : Bool) (k r : ℕ) (s : State X) (es : List (Event X)) (t : State X) → Run z s es t → (a : Account X) → Invariant z start s a → a.held k ≡ Some r → SettledAs b a r → steps_left b (s.workers k).phase ≤ steps_of k es → FinishedWithin k r (steps_left b (s.workers k).phase) es
  finished_run z start b k r s es t here a i held m h = absurd (let one : 1 ≤ steps_left b (s.workers k).phase = (steps_left_some b (s.workers k).phase).0 in omega arith)
  finished_run z start b k r s es t (then {s' = s'} {e = e} {es = fs} st run) a i held m h =
      go (onward i b k r e s' st held m)
      (λ held' le. finished_run z start b k r s' fs t run (note a e) (keep z start s a e s' st i) held' (settled_note b a e r m) le)
    where
      go : Onward b s s' (note a e) k r e → ((note a e).held k ≡ Some r → steps_left b (s'.workers k).phase ≤ steps_of k fs → FinishedWithin k r (steps_left b (s'.workers k).phase) fs) → FinishedWithin k r (steps_left b (s.workers k).phase) (e ∷ fs)
      go (inl d) f = record { before = []; event = e; rest = fs; splits = refl; within = (steps_left_some b (s.workers k).phase).0; finishes = d }
      go (inr (held', le)) f =
          let w = f held' (omega arith) in
          record { before = e ∷ w.before; event = w.event; rest = w.rest; splits = ap (λ l. e ∷ l) w.splits; within = (let b : steps_of k w.before < steps_left b (s'.workers k).phase = w.within in omega arith); finishes = w.finishes }

  pub finished_in_time : {z : Sizes} {start : ℕ} {s : State X} {a : Account X} → Invariant z start s a → (k r : ℕ) → FinishedInTime z s a k r
  finished_in_time {z} {start} {s} {a} i k r held settled es t run h = elim settled [ inl m ↦ by_kind true m | inr m ↦ by_kind false m ]
    where
      by_kind : (b : Bool) → SettledAs b a r → FinishedWithin k r 4 es
      by_kind b m =
          let four : steps_left b (s.workers k).phase ≤ 4 = (steps_left_some b (s.workers k).phase).1 in
          let w = finished_run z start b k r s es t run a i held m (omega arith) in
          record { before = w.before; event = w.event; rest = w.rest; splits = w.splits; within = (let c : steps_of k w.before < steps_left b (s.workers k).phase = w.within in omega arith); finishes = w.finishes }
