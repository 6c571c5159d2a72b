-- The model of a memory after the store of one word.
use Rattle.std.proofs.Common.{◌≡◌, ℕ, ◌+◌, ◌*◌, ◌%◌, ◌^◌, ◌<◌, ◌≤◌, min, List, map, length, get_or, set, ℤ, sym, ap, ◌∙◌, ⊎_elim, arith, w64, to_z}
use Rattle.std.specs.List.{range_with_len}
use Rattle.std.proofs.lemmas.List.FromFn.{fill_by_all, length-map-range_with_len, get_or-map-range_with_len}
use Rattle.std.proofs.lemmas.List.{length-set, get_or-set_same, get_or-set_other}
use Rattle.std.proofs.lemmas.Bool.{cases_eq}
use Rattle.stores.specs.declared.cell.Cell.{Cell}
use Rattle.stores.specs.Model.{Contents, size, with_cell, with_end, with_head}
use Rattle.layout.specs.Words.{word}
use Rattle.layout.specs.Blocks.{place, blocks_for, stored}
use Rattle.layout.specs.Decoding.{cell_block, cell_word, part_in, cell_in, decoded}
use Rattle.layout.proofs.Stored.{word_stored_same, word_stored_other}

-- ---- equal records

pub same_contents : {X : Type 0} (a b : Contents X) → a.head ≡ b.head → a.end ≡ b.end → a.cells ≡ b.cells → a ≡ b
same_contents a b p q r = λ i. record { head = p i; end = q i; cells = r i }

pub same_cell : {X : Type 0} (a b : Cell X) → a.item ≡ b.item → a.rank ≡ b.rank → a.gap ≡ b.gap → a ≡ b
same_cell a b p q r = λ i. record { item = p i; rank = q i; gap = r i }

module _ {X : Type 0} (item : ℕ → X) (n : ℕ) (m : List ℕ) where
  pub size_decoded : size (decoded item n m) ≡ n
  size_decoded = length-map-range_with_len (cell_in item m) 0 n

  pub cell_decoded : (d : Cell X) (i : ℕ) → i < n → get_or (decoded item n m).cells i d ≡ cell_in item m i
  cell_decoded d i h = get_or-map-range_with_len (cell_in item m) 0 n i i d h (omega arith)

  -- the store of word p of cell i
  module _ (i p w : ℕ) (hi : i < n) (hp : p < 3) where
    abbrev after : List ℕ
    after = stored m (cell_block i) (cell_word i + p) w

    pub part_stored_same : 512 * blocks_for n ≤ length m → part_in after i p ≡ w % 2 ^ 64
    part_stored_same l = word_stored_same m (cell_block i) (cell_word i + p) w (omega arith) (omega arith)

    pub part_stored_other : (k r : ℕ) → r < 3 → ((k ≡ i) × (r ≡ p) → ⊥) → part_in after k r ≡ part_in m k r
    part_stored_other k r hr ne =
        word_stored_other m (cell_block i) (cell_word i + p) w (omega arith) (cell_block k) (cell_word k + r) (omega arith)
        (λ y. let y0 = y.0 in let y1 = y.1 in ne (omega arith, omega arith))

    cell_stored_other : (k : ℕ) → (k ≡ i → ⊥) → cell_in item after k ≡ cell_in item m k
    cell_stored_other k ne =
        same_cell (cell_in item after k) (cell_in item m k)
        (ap item (part_stored_other k 0 (omega arith) (λ y. ne y.0)))
        (ap (to_z w64) (part_stored_other k 1 (omega arith) (λ y. ne y.0)))
        (ap (to_z w64) (part_stored_other k 2 (omega arith) (λ y. ne y.0)))

    -- a word of block 0 stays
    counter_stays : (j : ℕ) → j < 63 → word after (place 0 j) ≡ word m (place 0 j)
    counter_stays j h =
        word_stored_other m (cell_block i) (cell_word i + p) w (omega arith) 0 j h (λ y. let y0 = y.0 in omega arith)

    pub decoded_stored : (c : Cell X) → cell_in item after i ≡ c → decoded item n after ≡ with_cell (decoded item n m) i c
    decoded_stored c e =
        same_contents (decoded item n after) (with_cell (decoded item n m) i c)
        (ap (λ h. min h (2 ^ 40)) (counter_stays 1 (omega arith)))
        (ap (to_z w64) (counter_stays 2 (omega arith)))
        (sym
        (fill_by_all (cell_in item after) (set (decoded item n m).cells i c) n c
        (length-set (decoded item n m).cells i c ∙ size_decoded)
        (λ k h.
        ⊎_elim
        (λ (x : k ≡ i).
        ap (λ z. get_or (set (decoded item n m).cells i c) z c) x
        ∙ get_or-set_same (decoded item n m).cells i c c (omega (arith, size_decoded))
        ∙ sym e ∙ ap (cell_in item after) (sym x))
        (λ (x : k ≡ i → ⊥).
        get_or-set_other (decoded item n m).cells i k c c x ∙ cell_decoded c k h ∙ sym (cell_stored_other k x))
        (cases_eq k i))))

  -- the store of a word of block 0 leaves the cells
  module _ (j w : ℕ) (h : j < 63) where
    cells_stay : map (cell_in item (stored m 0 j w)) (range_with_len 0 n) ≡ map (cell_in item m) (range_with_len 0 n)
    cells_stay =
        sym
        (fill_by_all (cell_in item (stored m 0 j w)) (decoded item n m).cells n (cell_in item m 0) size_decoded
        (λ k l.
        let stays : (r : ℕ) → r < 3 → part_in m k r ≡ part_in (stored m 0 j w) k r =
        λ r hr. sym (word_stored_other m 0 j w h (cell_block k) (cell_word k + r) (omega arith) (λ y. let y0 = y.0 in omega arith)) in
        cell_decoded (cell_in item m 0) k l
        ∙ same_cell (cell_in item m k) (cell_in item (stored m 0 j w) k) (ap item (stays 0 (omega arith)))
        (ap (to_z w64) (stays 1 (omega arith))) (ap (to_z w64) (stays 2 (omega arith)))))

  pub head_stored : (h : ℕ) → h ≤ 2 ^ 40 → 512 ≤ length m → decoded item n (stored m 0 1 h) ≡ with_head (decoded item n m) h
  head_stored h low l =
      same_contents (decoded item n (stored m 0 1 h)) (with_head (decoded item n m) h)
      (omega (arith, word_stored_same m 0 1 h (omega arith) (omega arith)))
      (ap (to_z w64) (word_stored_other m 0 1 h (omega arith) 0 2 (omega arith) (λ y. let y1 = y.1 in omega arith)))
      (cells_stay 1 h (omega arith))

  pub end_stored : (w : ℕ) (z : ℤ) → w < 2 ^ 64 → to_z w64 w ≡ z → 512 ≤ length m → decoded item n (stored m 0 2 w) ≡ with_end (decoded item n m) z
  end_stored w z f e l =
      same_contents (decoded item n (stored m 0 2 w)) (with_end (decoded item n m) z)
      (ap (λ h. min h (2 ^ 40)) (word_stored_other m 0 2 w (omega arith) 0 1 (omega arith) (λ y. let y1 = y.1 in omega arith)))
      (ap (to_z w64) (word_stored_same m 0 2 w (omega arith) (omega arith) ∙ (let d : w % 2 ^ 64 ≡ w = omega arith in d)) ∙ e)
      (cells_stay 2 w (omega arith))
