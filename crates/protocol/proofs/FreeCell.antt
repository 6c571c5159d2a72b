-- Among the next u + 1 cells of a ring with u used cells, u below n, one is free.
use Rattle.std.proofs.Common.{◌≡◌, ℕ, zero, suc, ◌+◌, ◌-◌, ◌%◌, ◌<◌, ◌≤◌, Bool, true, false, ◌⊎◌, refl, ap, ◌∙◌, inl, inr, add-zero, add-suc, mod-eq_of_lt, zero-add, arith}
use native.Mathlib.Nat.{add-mod_right}
use Rattle.stores.specs.declared.cell.Cell.{Cell}
use Rattle.protocol.specs.Tests.{used}
use Rattle.protocol.specs.Account.{one_if}
use Rattle.protocol.specs.Promise.{used_cells}

module _ {X : Type 0} (n : ℕ) (cells : ℕ → Cell X) where
  abbrev used_at : ℕ → ℕ
  used_at i = one_if (used (cells (i % n)).rank)

  -- the used ones among the m cells from t on
  window : ℕ → ℕ → ℕ
  window t zero = 0
  window t (suc m) = window t m + used_at (t + m)

  window_first : (t m : ℕ) → window t (suc m) ≡ used_at t + window (t + 1) m
  unfolding window
  window_first t zero = let e : used_at (t + 0) ≡ used_at t = ap used_at (add-zero t) in omega arith
  window_first t (suc m) =
      let ih : window t (suc m) ≡ used_at t + window (t + 1) m = window_first t m in
      let e : used_at (t + suc m) ≡ used_at (t + 1 + m) = (let q : t + suc m ≡ t + 1 + m = omega arith in ap used_at q) in
      omega arith

  window_next : (t : ℕ) → window (t + 1) n ≡ window t n
  unfolding window
  window_next t =
      let f : window t (suc n) ≡ used_at t + window (t + 1) n = window_first t n in
      let e : used_at (t + n) ≡ used_at t = ap (λ i. one_if (used (cells i).rank)) (add-mod_right t n) in
      omega arith

  window_all : (t : ℕ) → window t n ≡ window 0 n
  window_all zero = refl
  window_all (suc t) = let e : suc t ≡ t + 1 = omega arith in ap (λ v. window v n) e ∙ (window_next t ∙ window_all t)

  window_start : (m : ℕ) → m ≤ n → window 0 m ≡ used_cells cells m
  unfolding window used_cells
  window_start zero h = refl
  window_start (suc m) h =
      let ih : window 0 m ≡ used_cells cells m = window_start m (omega arith) in
      let e : used_at (0 + m) ≡ one_if (used (cells m).rank) = (let q : (0 + m) % n ≡ m = ap (λ v. v % n) (zero-add m) ∙ mod-eq_of_lt h in ap (λ i. one_if (used (cells i).rank)) q) in
      omega arith

  window_more : (t m d : ℕ) → window t m ≤ window t (m + d)
  unfolding window
  window_more t m zero = let e : window t (m + 0) ≡ window t m = ap (window t) (add-zero m) in omega arith
  window_more t m (suc d) =
      let ih : window t m ≤ window t (m + d) = window_more t m d in
      let e : window t (m + suc d) ≡ window t (m + d) + used_at (t + (m + d)) = ap (window t) (add-suc m d) in
      omega arith

  abbrev Free : ℕ → ℕ → Type 0
  Free t m = (j : ℕ) × (j < m) × (used (cells ((t + j) % n)).rank ≡ false)

  find : (t m : ℕ) → Free t m ⊎ (window t m ≡ m)
  unfolding window
  find t zero = inr refl
  find t (suc m) = go (find t m) (used (cells ((t + m) % n)).rank) refl
    where
      go : Free t m ⊎ (window t m ≡ m) → (b : Bool) → used (cells ((t + m) % n)).rank ≡ b → Free t (suc m) ⊎ (window t m + used_at (t + m) ≡ suc m)
      go (inl (j, h, u)) b e = inl (j, omega arith, u)
      go (inr w) true e = inr (let q : used_at (t + m) ≡ 1 = ap one_if e in omega arith)
      go (inr w) false e = inl (m, omega arith, e)

  pub free_one : (t : ℕ) → used_cells cells n < n → (j : ℕ) × (j ≤ used_cells cells n) × (used (cells ((t + j) % n)).rank ≡ false)
  free_one t h = go (find t (suc (used_cells cells n)))
    where
      go : Free t (suc (used_cells cells n)) ⊎ (window t (suc (used_cells cells n)) ≡ suc (used_cells cells n)) → (j : ℕ) × (j ≤ used_cells cells n) × (used (cells ((t + j) % n)).rank ≡ false)
      go (inl (j, l, u)) = (j, omega arith, u)
      go (inr w) =
          let all : window t n ≡ used_cells cells n = window_all t ∙ window_start n (omega arith) in
          let d : ℕ = n - suc (used_cells cells n) in
          let more : window t (suc (used_cells cells n)) ≤ window t (suc (used_cells cells n) + d) = window_more t (suc (used_cells cells n)) d in
          let e : suc (used_cells cells n) + (n - suc (used_cells cells n)) ≡ n = omega arith in
          let f : window t (suc (used_cells cells n) + (n - suc (used_cells cells n))) ≡ window t n = ap (window t) e in
          absurd (omega arith)
