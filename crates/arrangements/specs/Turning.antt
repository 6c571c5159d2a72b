-- Turning: every place is below n, and the way back of a cell's place is that cell.
use Rattle.std.specs.Prelude.{◌≡◌, ℕ, zero, suc, ◌+◌, ◌*◌, ◌/◌, ◌%◌, ◌<◌, ◌≤◌, true, count_ones}
use Rattle.std.proofs.Common.{mod-lt, div-add-mod', div-lt_iff_lt-mul, mul_comm, zero-mul, arith, ⊎_elim}
use Rattle.std.proofs.Math.Nat.{mul-mod_right}
use Rattle.std.proofs.Math.Arith.{digits_lt, digits_div, digits_mod, bin_ind}
use Rattle.std.specs.Int.Count.{ones_step}
use Rattle.std.proofs.lemmas.Bool.{cases_lt}
use Rattle.std.proofs.lemmas.Bool.Decides.{nat_tests}
use Rattle.arrangements.specs.Places.{turned_size, turned_place, turned_cell}

some_in_row : (c rows n i : ℕ) → c * rows ≡ n → i < n → 0 < c
some_in_row zero rows n i whole below = omega (arith, zero-mul rows)
some_in_row (suc c) rows n i whole below = omega arith

-- n cells in rows of c
module _ (rows n c i : ℕ) (whole : c * rows ≡ n) (below : i < n) where
  row_some : 0 < c
  row_some = some_in_row c rows n i whole below

  in_row : i % c < c
  in_row = mod-lt i row_some

  row_below : i / c < rows
  row_below = (div-lt_iff_lt-mul row_some).1 (omega (arith, mul_comm c rows))

  placed_below : (i % c) * rows + i / c < n
  placed_below = omega (arith, digits_lt in_row row_below)

  placed_back : (((i % c) * rows + i / c) % rows) * c + ((i % c) * rows + i / c) / rows ≡ i
  placed_back = rw (digits_mod (i % c) row_below, digits_div (i % c) row_below) (div-add-mod' i c)

module _ (rows n i : ℕ) (even : n % rows ≡ 0) (below : i < n) where
  rows_whole : n / rows * rows ≡ n
  rows_whole = omega (arith, div-add-mod' n rows)

  pub turned_below : turned_place rows n i < n
  turned_below = placed_below rows n (n / rows) i rows_whole below

  pub turned_back : turned_cell rows n (turned_place rows n i) ≡ i
  turned_back = placed_back rows n (n / rows) i rows_whole below

ones_halved : (n : ℕ) → (0 < n / 2 → 0 < count_ones (n / 2)) → 0 < n → 0 < count_ones n
ones_halved n half some =
    ⊎_elim (λ (low : n / 2 < 1). omega (arith, ones_step n)) (λ (high : 1 ≤ n / 2). omega (arith, ones_step n, half high)) (cases_lt (n / 2) 1)

ones_some : (n : ℕ) → 0 < n → 0 < count_ones n
ones_some = bin_ind (λ n. 0 < n → 0 < count_ones n) (λ none. omega arith) ones_halved

single : (n : ℕ) → 16 ≤ n → count_ones n ≡ 1 → n % 16 ≡ 0
single n large one =
    let some : 0 < count_ones (n / 2 / 2 / 2 / 2) = ones_some (n / 2 / 2 / 2 / 2) (omega arith) in
    let even : n % 2 + n / 2 % 2 + n / 2 / 2 % 2 + n / 2 / 2 / 2 % 2 ≡ 0 =
    omega (arith, ones_step n, ones_step (n / 2), ones_step (n / 2 / 2), ones_step (n / 2 / 2 / 2)) in
    let whole : n ≡ 16 * (n / 2 / 2 / 2 / 2) = omega arith in
    rw whole (mul-mod_right 16 (n / 2 / 2 / 2 / 2))

-- a power of two from 16 on is even four times over
pub turned_rows : (n : ℕ) → turned_size n ≡ true → n % 16 ≡ 0
turned_rows n fits = single n (grind (arith, nat_tests)) (grind (arith, nat_tests))
