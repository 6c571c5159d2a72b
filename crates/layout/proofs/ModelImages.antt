-- The image of a model after one part of one cell, the head or the end mark is changed.
use Rattle.std.proofs.Common.{◌≡◌, ℕ, zero, suc, ◌+◌, ◌*◌, ◌/◌, ◌%◌, ◌<◌, cond, eqb, get_or, set, ℤ, sym, refl, ap, ◌∙◌, ⊎_elim, arith, w64, of_z}
use Rattle.std.proofs.lemmas.List.{length-set, get_or-set_same, get_or-set_other}
use Rattle.std.proofs.lemmas.Bool.{cases_eq, ne_eqb}
use Rattle.stores.specs.declared.cell.Cell.{Cell}
use Rattle.stores.specs.Model.{Contents, size, with_cell, with_head, with_end}
use Rattle.layout.specs.Blocks.{blocks_for, stored}
use Rattle.layout.specs.Image.{zero_cell, part, plain, bytes_of, image}
use Rattle.layout.specs.Decoding.{cell_block, cell_word}
use Rattle.layout.proofs.Images.{bytes_stored}

-- ---- part p of cell i is changed

module _ (m : Contents ℕ) (i p : ℕ) (c : Cell ℕ) (hp : p < 3) (hi : i < size m)
    (same : (r : ℕ) → r < 3 → (r ≡ p → ⊥) → part c r ≡ part (get_or m.cells i zero_cell) r) where
  abbrev changed : Contents ℕ
  changed = with_cell m i c

  plain_same : plain changed (suc (i / 21)) (cell_word i + p) ≡ part c p
  plain_same =
      let x : 21 * (i / 21) + (cell_word i + p) / 3 ≡ i = omega arith in
      let y : (cell_word i + p) % 3 ≡ p = omega arith in
      ap (λ z. part (get_or (set m.cells i c) z zero_cell) ((cell_word i + p) % 3)) x
      ∙ ap (λ z. part z ((cell_word i + p) % 3)) (get_or-set_same m.cells i c zero_cell hi)
      ∙ ap (part c) y

  plain_other : (a k : ℕ) → k < 63 → ((a ≡ suc (i / 21)) × (k ≡ cell_word i + p) → ⊥) → plain changed a k ≡ plain m a k
  plain_other zero k h ne =
      ap (λ s. cond (eqb k 0) s (cond (eqb k 1) m.head (cond (eqb k 2) (of_z w64 m.end) 0))) (length-set m.cells i c)
  plain_other (suc a) k h ne =
      ⊎_elim
      (λ (e : 21 * a + k / 3 ≡ i).
      ap (λ z. part (get_or (set m.cells i c) z zero_cell) (k % 3)) e
      ∙ ap (λ z. part z (k % 3)) (get_or-set_same m.cells i c zero_cell hi)
      ∙ same (k % 3) (omega arith) (λ d. ne (omega arith, omega arith))
      ∙ ap (λ z. part (get_or m.cells z zero_cell) (k % 3)) (sym e))
      (λ (e : 21 * a + k / 3 ≡ i → ⊥). ap (λ z. part z (k % 3)) (get_or-set_other m.cells i (21 * a + k / 3) c zero_cell e))
      (cases_eq (21 * a + k / 3) i)

  pub image_with_cell : image (with_cell m i c) ≡ stored (image m) (cell_block i) (cell_word i + p) (part c p)
  image_with_cell =
      let one : suc (i / 21) ≡ cell_block i = omega arith in
      ap (λ s. bytes_of (plain changed) (blocks_for s)) (length-set m.cells i c)
      ∙ bytes_stored (plain m) (plain changed) (suc (i / 21)) (cell_word i + p) plain_other (blocks_for (size m)) (omega arith) (omega arith)
      ∙ ap (λ w. stored (image m) (suc (i / 21)) (cell_word i + p) w) plain_same
      ∙ ap (λ b. stored (image m) b (cell_word i + p) (part c p)) one

-- ---- a counter is changed

head_other : (m : Contents ℕ) (h a k : ℕ) → k < 63 → ((a ≡ 0) × (k ≡ 1) → ⊥) → plain (with_head m h) a k ≡ plain m a k
head_other m h zero k l ne =
    ap (λ t. cond (eqb k 0) (size m) (cond t h (cond (eqb k 2) (of_z w64 m.end) 0))) (ne_eqb k 1 (λ e. ne (refl, e)))
    ∙ sym (ap (λ t. cond (eqb k 0) (size m) (cond t m.head (cond (eqb k 2) (of_z w64 m.end) 0))) (ne_eqb k 1 (λ e. ne (refl, e))))
head_other m h (suc a) k l ne = refl

pub image_with_head : (m : Contents ℕ) (h : ℕ) → image (with_head m h) ≡ stored (image m) 0 1 h
image_with_head m h =
    bytes_stored (plain m) (plain (with_head m h)) 0 1 (head_other m h) (blocks_for (size m)) (omega arith) (omega arith)

end_other : (m : Contents ℕ) (z : ℤ) (a k : ℕ) → k < 63 → ((a ≡ 0) × (k ≡ 2) → ⊥) → plain (with_end m z) a k ≡ plain m a k
end_other m z zero k l ne =
    ap (λ t. cond (eqb k 0) (size m) (cond (eqb k 1) m.head (cond t (of_z w64 z) 0))) (ne_eqb k 2 (λ e. ne (refl, e)))
    ∙ sym (ap (λ t. cond (eqb k 0) (size m) (cond (eqb k 1) m.head (cond t (of_z w64 m.end) 0))) (ne_eqb k 2 (λ e. ne (refl, e))))
end_other m z (suc a) k l ne = refl

pub image_with_end : (m : Contents ℕ) (z : ℤ) → image (with_end m z) ≡ stored (image m) 0 2 (of_z w64 z)
image_with_end m z =
    bytes_stored (plain m) (plain (with_end m z)) 0 2 (end_other m z) (blocks_for (size m)) (omega arith) (omega arith)
