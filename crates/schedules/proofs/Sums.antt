-- Sums over the first places of a table.
use Rattle.std.proofs.Common.{◌≡◌, ℕ, zero, suc, ◌+◌, ◌*◌, ◌<◌, ◌≤◌, ◌≢◌, refl, ap, mul-add, arith}
use native.Mathlib.Decide.{ℕ_discrete}

unfoldable pub sum : (ℕ → ℕ) → ℕ → ℕ
sum f zero = 0
sum f (suc n) = sum f n + f n

pub sum_alike : (f g : ℕ → ℕ) (n : ℕ) → ((j : ℕ) → j < n → g j ≡ f j) → sum g n ≡ sum f n
unfolding sum
sum_alike f g zero same = refl
sum_alike f g (suc n) same =
    let ih : sum g n ≡ sum f n = sum_alike f g n (λ j h. same j (omega arith)) in
    let e : g n ≡ f n = same n (omega arith) in
    omega arith

-- one place changed
pub sum_change : (f g : ℕ → ℕ) (i n : ℕ) → ((j : ℕ) → j ≢ i → g j ≡ f j) → i < n → sum g n + f i ≡ sum f n + g i
unfolding sum
sum_change f g i zero same h = absurd (omega arith)
sum_change f g i (suc n) same h = go (ℕ_discrete n i) (sum_change f g i n same)
  where
    go : Dec (n ≡ i) → (i < n → sum g n + f i ≡ sum f n + g i) → sum g n + g n + f i ≡ sum f n + f n + g i
    go (yes q) ih =
        let before : sum g n ≡ sum f n = sum_alike f g n (λ j k. same j (omega arith)) in
        let a : g n ≡ g i = ap g q in
        let b : f n ≡ f i = ap f q in
        omega arith
    go (no k) ih =
        let before : sum g n + f i ≡ sum f n + g i = ih (omega arith) in
        let e : g n ≡ f n = same n k in
        omega arith

pub sum_at_most : (f g : ℕ → ℕ) (n : ℕ) → ((j : ℕ) → f j ≤ 4 * g j) → sum f n ≤ 4 * sum g n
unfolding sum
sum_at_most f g zero le = omega arith
sum_at_most f g (suc n) le =
    let ih : sum f n ≤ 4 * sum g n = sum_at_most f g n le in
    let e : f n ≤ 4 * g n = le n in
    omega (arith, mul-add 4 (sum g n) (g n))

pub sum_small : (g : ℕ → ℕ) (n : ℕ) → ((j : ℕ) → g j ≤ 1) → sum g n ≤ n
unfolding sum
sum_small g zero le = omega arith
sum_small g (suc n) le = let ih : sum g n ≤ n = sum_small g n le in let e : g n ≤ 1 = le n in omega arith
