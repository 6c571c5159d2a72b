-- The bound on announcing: a free cell is near the tail, and each step of the receiver comes nearer to it.
use Rattle.std.proofs.Common.{◌≡◌, ℕ, zero, suc, ◌+◌, ◌-◌, ◌*◌, ◌%◌, ◌<◌, ◌≤◌, true, false, ◌⊎◌, List, [], ◌∷◌, pos, negsuc, Some, sym, refl, ap, ◌∙◌, subst, inl, inr, add-zero, arith}
use Rattle.std.proofs.lemmas.Bool.{false≢true}
use Rattle.stores.specs.declared.cell.Cell.{Cell}
use Rattle.stores.specs.Model.{cell_rank, cell_gap}
use Rattle.protocol.specs.declared.record.ReceiverPhase.{ReceiverPhase}
use Rattle.protocol.specs.declared.record.ReceiverPhase.TheVariants.{Probing, Busy, Found, Filled}
use Rattle.protocol.specs.declared.answer.ReceiverAnswer.TheVariants.{Announced}
use Rattle.protocol.specs.Tests.{used}
use Rattle.protocol.specs.State.{Sizes, State}
use Rattle.protocol.specs.Events.{Event, submitted, withdrew, received}
use Rattle.protocol.specs.Steps.{Step, is_not_made, is_refused, submits, withdraws, closes, finds_used, finds_free, skips, fills, announces, idle_finds_over, claims, becomes_sure, doubts, marks, gives_up, waits, passes, passed_finds_over, moves_on, copies, delivers, Run, here, then, own_cell, own_rank, after_submit, after_deliver}
use Rattle.protocol.specs.Account.{Account, announcing, note}
use Rattle.protocol.specs.Promise.{announcement, used_cells, is_received, received_in, empties_hand, NoneEmpties, AnnouncedOrWithdrawn, AnnouncedInTime}
use Rattle.protocol.proofs.Tables.{put_at, put_keeps, none_some}
use Rattle.protocol.proofs.FreeCell.{free_one}

module _ {X : Type 0} (n : ℕ) where
  -- at most m accepted receiver steps to the announcement
  abbrev Wait : ReceiverPhase → (ℕ → Cell X) → ℕ → ℕ → Type 0
  Wait Probing cells t m = (j : ℕ) × (used (cells ((t + j) % n)).rank ≡ false) × (2 * j + 3 ≤ m)
  Wait Busy cells t m = (j : ℕ) × (used (cells ((t + 1 + j) % n)).rank ≡ false) × (2 * j + 4 ≤ m)
  Wait Found cells t m = 2 ≤ m
  Wait Filled cells t m = 1 ≤ m

  wait_some : (p : ReceiverPhase) (cells : ℕ → Cell X) (t m : ℕ) → Wait p cells t m → 1 ≤ m
  wait_some Probing cells t m (j, u, h) = omega arith
  wait_some Busy cells t m (j, u, h) = omega arith
  wait_some Found cells t m h = omega arith
  wait_some Filled cells t m h = h

  -- cells that are free stay so
  wait_free : (p : ReceiverPhase) (cells cells' : ℕ → Cell X) (t m : ℕ) → ((i : ℕ) → used (cells i).rank ≡ false → used (cells' i).rank ≡ false) → Wait p cells t m → Wait p cells' t m
  wait_free Probing cells cells' t m f (j, u, h) = (j, f ((t + j) % n) u, h)
  wait_free Busy cells cells' t m f (j, u, h) = (j, f ((t + 1 + j) % n) u, h)
  wait_free Found cells cells' t m f h = h
  wait_free Filled cells cells' t m f h = h

  wait_busy : (cells : ℕ → Cell X) (t m : ℕ) → used (cells (t % n)).rank ≡ true → Wait Probing cells t m → Wait Busy cells t (m - 1)
  wait_busy cells t m u (zero, v, h) = absurd (false≢true (sym v ∙ (ap (λ i. used (cells (i % n)).rank) (add-zero t) ∙ u)))
  wait_busy cells t m u (suc j, v, h) = (j, (let e : t + suc j ≡ t + 1 + j = omega arith in subst (λ i. used (cells (i % n)).rank ≡ false) e v), omega arith)

  -- x is in hand, and within m steps of its announcement
  abbrev Ready : State X → Account X → X → ℕ → Type 0
  Ready s a x m = (s.hand ≡ Some x) × (a.last ≡ Some x) × Wait s.phase s.cells s.tail m

  -- the step withdraws x or announces it
  abbrev Empties : Account X → X → Event X → Type 0
  Empties a x e = (e ≡ withdrew (Some x)) ⊎ ((r : ℕ) × (e ≡ received (Announced r)) × ((note a e).announced ≡ announcement r x ∷ a.announced))

  -- or it leaves x in hand, announces nothing and is no farther from the announcement
  abbrev Leaves : State X → Account X → X → ℕ → Event X → Type 0
  Leaves s' a x m e = (empties_hand e ≡ false) × ((note a e).announced ≡ a.announced) × ((m' : ℕ) × Ready s' (note a e) x m' × (m' + is_received e ≤ m))

pub nearer : {X : Type 0} (z : Sizes) (s : State X) (a : Account X) (x : X) (m : ℕ) (e : Event X) (s' : State X) → Step z s e s' → Ready z.cells s a x m → Empties z.cells a x e ⊎ Leaves z.cells s' a x m e
nearer z s a x m e s' (is_not_made c) (h, l, w) = inr (refl, refl, (m, (h, l, w), omega arith))
nearer z s a x m e s' (is_refused c f p) (h, l, w) = inr (refl, refl, (m, (h, l, w), omega arith))
nearer z s a x m e s' (submits y p _ q) (h, l, w) = absurd (none_some x (sym q ∙ h))
nearer z s a x m e s' (withdraws p) (h, l, w) = inl (inl (ap withdrew h))
nearer z s a x m e s' (closes p q) (h, l, w) = absurd (none_some x (sym q ∙ h))
nearer z s a x m e s' (finds_used y p q f _ u) (h, l, w) =
    let w' = subst (λ v. Wait z.cells v s.cells s.tail m) f w in
    inr (refl, refl, (m - 1, (h, l, wait_busy z.cells s.cells s.tail m u w'), let one : 1 ≤ m = wait_some z.cells Probing s.cells s.tail m w' in omega arith))
nearer z s a x m e s' (finds_free y p q f _ u) (h, l, w) =
    let w' = subst (λ v. Wait z.cells v s.cells s.tail m) f w in
    let b : 2 * w'.0 + 3 ≤ m = w'.2 in
    inr (refl, refl, (m - 1, (h, l, omega arith), omega arith))
nearer z s a x m e s' (skips y p q f) (h, l, w) =
    let w' = subst (λ v. Wait z.cells v s.cells s.tail m) f w in
    let b : 2 * w'.0 + 4 ≤ m = w'.2 in
    inr (refl, refl, (m - 1, (h, l, (w'.0, put_keeps (λ c. used c.rank) s.cells (s.tail % z.cells) (cell_gap (pos s.tail) (own_cell z.cells s s.tail)) refl ((s.tail + 1 + w'.0) % z.cells) ∙ w'.1, omega arith)), omega arith))
nearer z s a x m e s' (fills y p q f) (h, l, w) =
    let w' : 2 ≤ m = subst (λ v. Wait z.cells v s.cells s.tail m) f w in
    inr (refl, refl, (m - 1, (h, l, omega arith), omega arith))
nearer z s a x m e s' (announces y p q f) (h, l, w) = inl (inr (s.tail, refl, ap (λ o. announcing s.tail o a.announced) l))
nearer z s a x m e s' (idle_finds_over j i f _) (h, l, w) = inr (refl, refl, (m, (h, l, w), omega arith))
nearer z s a x m e s' (claims j i f _ _) (h, l, w) = inr (refl, refl, (m, (h, l, w), omega arith))
nearer z s a x m e s' (becomes_sure j i f t) (h, l, w) = inr (refl, refl, (m, (h, l, w), omega arith))
nearer z s a x m e s' (doubts j i f t) (h, l, w) = inr (refl, refl, (m, (h, l, w), omega arith))
nearer z s a x m e s' (marks j i f t) (h, l, w) = inr (refl, refl, (m, (h, l, w), omega arith))
nearer z s a x m e s' (gives_up j i f t u) (h, l, w) = inr (refl, refl, (m, (h, l, w), omega arith))
nearer z s a x m e s' (waits j i f t _) (h, l, w) = inr (refl, refl, (m, (h, l, w), omega arith))
nearer z s a x m e s' (passes j i f t) (h, l, w) = inr (refl, refl, (m, (h, l, w), omega arith))
nearer z s a x m e s' (passed_finds_over j i f _) (h, l, w) = inr (refl, refl, (m, (h, l, w), omega arith))
nearer z s a x m e s' (moves_on j i f _ _) (h, l, w) = inr (refl, refl, (m, (h, l, w), omega arith))
nearer z s a x m e s' (copies j i f) (h, l, w) = inr (refl, refl, (m, (h, l, w), omega arith))
nearer z s a x m e s' (delivers j i f _) (h, l, w) =
    let free : (c : ℕ) → used (s.cells c).rank ≡ false → used ((after_deliver z.cells s j).cells c).rank ≡ false = λ c u. put_at (λ v. used v.rank ≡ false) s.cells (own_rank s j % z.cells) (cell_rank (negsuc 0) (own_cell z.cells s (own_rank s j))) c (λ q. refl) (λ q. u) in
    inr (refl, refl, (m, (h, l, wait_free z.cells s.phase s.cells (after_deliver z.cells s j).cells s.tail m free w), omega arith))

module _ {X : Type 0} where
  abbrev InTime : Account X → X → ℕ → List (Event X) → Type 0
  InTime a x m es = (NoneEmpties es × (received_in es < m)) ⊎ AnnouncedOrWithdrawn a x m es

  none_more : (e : Event X) (es : List (Event X)) → empties_hand e ≡ false → NoneEmpties es → NoneEmpties (e ∷ es)
  none_more e es q h d (inl p) = subst (λ v. empties_hand v ≡ false) (sym p) q
  none_more e es q h d (inr p) = h d p

  in_time_run : (z : Sizes) (x : X) (s : State X) (es : List (Event X)) (t : State X) → Run z s es t → (a : Account X) (m : ℕ) → Ready z.cells s a x m → InTime a x m es
  in_time_run z x s es t here a m (h, l, w) = inl ((λ e i. absurd i), wait_some z.cells s.phase s.cells s.tail m w)
  in_time_run z x s es t (then {s' = s'} {e = e} {es = fs} st run) a m ready =
      go (nearer z s a x m e s' st ready) (λ m' ready'. in_time_run z x s' fs t run (note a e) m' ready')
    where
      go : Empties z.cells a x e ⊎ Leaves z.cells s' a x m e → ((m' : ℕ) → Ready z.cells s' (note a e) x m' → InTime (note a e) x m' fs) → InTime a x m (e ∷ fs)
      go (inl out) f = inr (record { before = []; event = e; rest = fs; splits = refl; first = λ d i. absurd i; within = wait_some z.cells s.phase s.cells s.tail m ready.2; outcome = out })
      go (inr (q, same, (m', ready', le))) f = elim (f m' ready') [
        | inl (none, b) ↦ inl (none_more e fs q none, omega arith)
        | inr w ↦ inr (record {
          before = e ∷ w.before;
          event = w.event;
          rest = w.rest;
          splits = ap (λ l. e ∷ l) w.splits;
          first = none_more e w.before q w.first;
          within = let b : received_in w.before < m' = w.within in omega arith;
          outcome = elim w.outcome [ inl h ↦ inl h | inr (r, h, g) ↦ inr (r, h, g ∙ ap (λ l. announcement r x ∷ l) same) ];
        })
      ]

  pub announced_in_time : (z : Sizes) (s : State X) (a : Account X) (x : X) → AnnouncedInTime z s a x
  announced_in_time z s a x es t (then (submits _ p _ h) run) room =
      let q = free_one z.cells s.cells s.tail room in
      in_time_run z x (after_submit s x) es t run (note a (submitted x)) (2 * used_cells s.cells z.cells + 3) (refl, refl, (q.0, q.2, (let le : q.0 ≤ used_cells s.cells z.cells = q.1 in omega arith)))
