-- Used cells and undelivered items counted, over a change of one cell, an announcement and a delivery.
use Rattle.std.proofs.Common.{◌≡◌, ℕ, zero, suc, ◌+◌, ◌<◌, ◌≤◌, false, eqb, ◌≢◌, List, [], ◌∷◌, ◌++◌, sym, refl, ap, ◌∙◌, inl, inr, arith}
use Rattle.std.proofs.lemmas.Bool.{eq-eqb, ne_eqb}
use native.Mathlib.Decide.{ℕ_discrete}
use Rattle.stores.specs.declared.cell.Cell.{Cell}
use Rattle.protocol.specs.declared.record.Entry.{Entry}
use Rattle.protocol.specs.Tests.{used}
use Rattle.protocol.specs.State.{put}
use Rattle.protocol.specs.Account.{Announcement, In, one_if, times, times_announced, undelivered}
use Rattle.protocol.specs.Promise.{announcement, used_cells}
use Rattle.protocol.proofs.Tables.{put_same, put_other, times_same, times_other}

module _ {X : Type 0} where
  -- cells that are used alike
  pub used_alike : (cells cells' : ℕ → Cell X) → ((i : ℕ) → used (cells' i).rank ≡ used (cells i).rank) → (m : ℕ) → used_cells cells' m ≡ used_cells cells m
  unfolding used_cells
  used_alike cells cells' f zero = refl
  used_alike cells cells' f (suc m) =
      let ih : used_cells cells' m ≡ used_cells cells m = used_alike cells cells' f m in
      let e : one_if (used (cells' m).rank) ≡ one_if (used (cells m).rank) = ap one_if (f m) in
      omega arith

  module _ (cells : ℕ → Cell X) (i : ℕ) (c : Cell X) where
    used_before : (m : ℕ) → m ≤ i → used_cells (put cells i c) m ≡ used_cells cells m
    unfolding used_cells
    used_before zero h = refl
    used_before (suc m) h =
        let ih : used_cells (put cells i c) m ≡ used_cells cells m = used_before m (omega arith) in
        let e : one_if (used (put cells i c m).rank) ≡ one_if (used (cells m).rank) = ap (λ d. one_if (used d.rank)) (put_other cells i c m (omega arith)) in
        omega arith

    -- one cell changed
    pub used_change : (m : ℕ) → i < m → used_cells (put cells i c) m + one_if (used (cells i).rank) ≡ used_cells cells m + one_if (used c.rank)
    unfolding used_cells
    used_change zero h = absurd (omega arith)
    used_change (suc m) h = go (ℕ_discrete m i) (used_change m)
      where
        go : Dec (m ≡ i) → (i < m → used_cells (put cells i c) m + one_if (used (cells i).rank) ≡ used_cells cells m + one_if (used c.rank)) → used_cells (put cells i c) m + one_if (used (put cells i c m).rank) + one_if (used (cells i).rank) ≡ used_cells cells m + one_if (used (cells m).rank) + one_if (used c.rank)
        go (yes q) ih =
            let b : used_cells (put cells i c) m ≡ used_cells cells m = used_before m (omega arith) in
            let e : one_if (used (put cells i c m).rank) ≡ one_if (used c.rank) = ap (λ j. one_if (used (put cells i c j).rank)) q ∙ ap (λ d. one_if (used d.rank)) (put_same cells i c) in
            let f : one_if (used (cells m).rank) ≡ one_if (used (cells i).rank) = ap (λ j. one_if (used (cells j).rank)) q in
            omega arith
        go (no k) ih =
            let b : used_cells (put cells i c) m + one_if (used (cells i).rank) ≡ used_cells cells m + one_if (used c.rank) = ih (omega arith) in
            let e : one_if (used (put cells i c m).rank) ≡ one_if (used (cells m).rank) = ap (λ d. one_if (used d.rank)) (put_other cells i c m k) in
            omega arith

  -- no cell is used
  pub used_none : (cells : ℕ → Cell X) → ((i : ℕ) → used (cells i).rank ≡ false) → (m : ℕ) → used_cells cells m ≡ 0
  unfolding used_cells
  used_none cells f zero = refl
  used_none cells f (suc m) =
      let ih : used_cells cells m ≡ 0 = used_none cells f m in
      let e : one_if (used (cells m).rank) ≡ 0 = ap one_if (f m) in
      omega arith

  -- announcements under a rank
  pub announced_same : (r : ℕ) (v : Announcement X) (announced : List (Announcement X)) → v.rank ≡ r → times_announced r (v ∷ announced) ≡ suc (times_announced r announced)
  unfolding times_announced
  announced_same r v announced h = let e : one_if (eqb v.rank r) ≡ 1 = ap one_if (eq-eqb v.rank r h) in omega arith

  pub announced_other : (r : ℕ) (v : Announcement X) (announced : List (Announcement X)) → v.rank ≢ r → times_announced r (v ∷ announced) ≡ times_announced r announced
  unfolding times_announced
  announced_other r v announced h = let e : one_if (eqb v.rank r) ≡ 0 = ap one_if (ne_eqb v.rank r h) in omega arith

  pub announced_none : (r : ℕ) (announced : List (Announcement X)) → ((x : X) → In (announcement r x) announced → ⊥) → times_announced r announced ≡ 0
  unfolding times_announced
  announced_none r [] h = refl
  announced_none r (v ∷ l) h = announced_other r v l (λ e. h v.item (inl (ap (λ q. announcement q v.item) (sym e)))) ∙ announced_none r l (λ x m. h x (inr m))

  pub announced_some : (r : ℕ) (x : X) (announced : List (Announcement X)) → In (announcement r x) announced → 1 ≤ times_announced r announced
  unfolding times_announced
  announced_some r x [] m = absurd m
  announced_some r x (v ∷ l) (inl e) = let q : times_announced r (v ∷ l) ≡ suc (times_announced r l) = announced_same r v l (sym (ap (λ w. w.rank) e)) in omega arith
  announced_some r x (v ∷ l) (inr m) = let ih : 1 ≤ times_announced r l = announced_some r x l m in omega arith

  -- an item whose rank is not logged is announced
  pub undelivered_next : (v : Announcement X) (announced : List (Announcement X)) (log : List (Entry X)) → times v.rank log ≡ 0 → undelivered (v ∷ announced) log ≡ suc (undelivered announced log)
  unfolding undelivered
  undelivered_next v announced log h = let e : one_if (eqb (times v.rank log) 0) ≡ 1 = ap one_if (eq-eqb (times v.rank log) 0 h) in omega arith

  -- a rank that is not logged is delivered
  pub undelivered_less : (e : Entry X) (announced : List (Announcement X)) (log : List (Entry X)) → times e.rank log ≡ 0 → undelivered announced (log ++ (e ∷ [])) + times_announced e.rank announced ≡ undelivered announced log
  unfolding undelivered times_announced
  undelivered_less e [] log h = refl
  undelivered_less e (v ∷ l) log h = go (ℕ_discrete v.rank e.rank) (undelivered_less e l log h)
    where
      go : Dec (v.rank ≡ e.rank) → undelivered l (log ++ (e ∷ [])) + times_announced e.rank l ≡ undelivered l log →
          undelivered l (log ++ (e ∷ [])) + one_if (eqb (times v.rank (log ++ (e ∷ []))) 0) + (times_announced e.rank l + one_if (eqb v.rank e.rank)) ≡ undelivered l log + one_if (eqb (times v.rank log) 0)
      go (yes q) ih =
          let more : times v.rank (log ++ (e ∷ [])) ≡ suc (times e.rank log) = ap (λ r. times r (log ++ (e ∷ []))) q ∙ times_same log e in
          let a : one_if (eqb (times v.rank (log ++ (e ∷ []))) 0) ≡ 0 = ap one_if (ne_eqb (times v.rank (log ++ (e ∷ []))) 0 (omega arith)) in
          let b : one_if (eqb v.rank e.rank) ≡ 1 = ap one_if (eq-eqb v.rank e.rank q) in
          let c : one_if (eqb (times v.rank log) 0) ≡ 1 = ap one_if (eq-eqb (times v.rank log) 0 (ap (λ r. times r log) q ∙ h)) in
          omega arith
      go (no k) ih =
          let a : one_if (eqb (times v.rank (log ++ (e ∷ []))) 0) ≡ one_if (eqb (times v.rank log) 0) = ap (λ t. one_if (eqb t 0)) (times_other log e v.rank (λ q. k (sym q))) in
          let b : one_if (eqb v.rank e.rank) ≡ 0 = ap one_if (ne_eqb v.rank e.rank k) in
          omega arith
