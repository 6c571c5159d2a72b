-- A memory that fits, and the model of one.
use Rattle.std.proofs.Common.{◌≡◌, ℕ, ◌+◌, ◌*◌, ◌/◌, ◌^◌, ◌<◌, ◌≤◌, min, true, false, ◌&&◌, eqb, ltb, leb, List, length, negsuc, sym, ap, ◌∙◌, ⊎_elim, arith, w64, to_z}
use Rattle.std.proofs.lemmas.Bool.{and_parts, ltb-true, leb-true, eqb-true, cases_Bool, both_ways, cond-true, cond-false}
use Rattle.stores.specs.Model.{Contents, size, no_contents, cell_of, fresh_cell}
use Rattle.layout.specs.Words.{word}
use Rattle.layout.specs.Blocks.{place, blocks_for, fit}
use Rattle.layout.specs.Image.{in_words, image}
use Rattle.layout.specs.Decoding.{cell_in, decoded, block_model, Imaged}
use Rattle.layout.proofs.Models.{size_decoded, cell_decoded}

pub record Fits (bytes n : ℕ) : Type 0 where
  pub some : 0 < n
  pub most : n ≤ 65536
  pub whole : bytes ≡ 512 * blocks_for n

pub fit_true : (bytes n : ℕ) → fit bytes n ≡ true → Fits bytes n
fit_true bytes n e =
    let p = and_parts (ltb 0 n && leb n 65536) (eqb bytes (512 * blocks_for n)) e in
    let q = and_parts (ltb 0 n) (leb n 65536) p.0 in
    record { some = ltb-true 0 n q.0; most = leb-true n 65536 q.1; whole = eqb-true bytes (512 * blocks_for n) p.1 }

module _ {X : Type 0} (item : ℕ → X) (n : ℕ) (m : List ℕ) where
  pub model_fit : fit (length m) n ≡ true → block_model item n m ≡ decoded item n m
  unfolding block_model
  model_fit e = cond-true (fit (length m) n) (decoded item n m) no_contents e

  pub model_unfit : fit (length m) n ≡ false → block_model item n m ≡ no_contents
  unfolding block_model
  model_unfit e = cond-false (fit (length m) n) (decoded item n m) no_contents e

  pub size_fit : fit (length m) n ≡ true → n ≡ size (block_model item n m)
  size_fit e = sym (ap size (model_fit e) ∙ size_decoded item n m)

  pub size_unfit : fit (length m) n ≡ false → 0 ≡ size (block_model item n m)
  size_unfit e = sym (ap size (model_unfit e))

  -- a store with a cell stands over memory that fits
  pub fit_some : (i : ℕ) → i < size (block_model item n m) → fit (length m) n ≡ true
  fit_some i h =
      ⊎_elim (λ e. e) (λ (e : fit (length m) n ≡ false). absurd (omega (arith, size_unfit e))) (cases_Bool (fit (length m) n))

  pub fits_some : (i : ℕ) → i < size (block_model item n m) → Fits (length m) n
  fits_some i h = fit_true (length m) n (fit_some i h)

  pub below_size : (i : ℕ) → i < size (block_model item n m) → i < n
  below_size i h = omega (arith, size_fit (fit_some i h))

  -- cell i of the model is read at its place
  pub cell_model : (blank : X) (i : ℕ) → i < size (block_model item n m) → cell_of blank (block_model item n m) i ≡ cell_in item m i
  cell_model blank i h =
      ap (λ s. cell_of blank s i) (model_fit (fit_some i h)) ∙ cell_decoded item n m (fresh_cell blank) i (below_size i h)

  -- the block of cell i lies whole in the memory
  pub room : (i : ℕ) → i < size (block_model item n m) → 512 * (i / 21) + 1024 ≤ length m
  room i h = let f = fits_some i h in omega (arith, below_size i h)

  pub head_fit : fit (length m) n ≡ true → min (word m (place 0 1)) (2 ^ 40) ≡ (block_model item n m).head
  head_fit e = sym (ap (λ s. s.head) (model_fit e))

  pub head_unfit : fit (length m) n ≡ false → 0 ≡ (block_model item n m).head
  head_unfit e = sym (ap (λ s. s.head) (model_unfit e))

  pub end_fit : fit (length m) n ≡ true → to_z w64 (word m (place 0 2)) ≡ (block_model item n m).end
  end_fit e = sym (ap (λ s. s.end) (model_fit e))

  pub end_unfit : fit (length m) n ≡ false → negsuc 0 ≡ (block_model item n m).end
  end_unfit e = sym (ap (λ s. s.end) (model_unfit e))

  pub head_bound : (block_model item n m).head ≤ 2 ^ 40
  head_bound =
      ⊎_elim (λ e. omega (arith, head_fit e)) (λ e. omega (arith, head_unfit e)) (cases_Bool (fit (length m) n))

  -- of a memory that does not fit, nothing is said
  pub imaged_unfit : (word_of : X → ℕ) → fit (length m) n ≡ false → Imaged word_of item n m
  unfolding Imaged
  imaged_unfit word_of e f = absurd (both_ways (fit (length m) n) e f)

  -- of one with a cell, the bytes are told by the model
  pub imaged_bytes : (word_of : X → ℕ) (s : Contents X) → 0 < size s → Imaged word_of item n m → block_model item n m ≡ s →
      m ≡ image (in_words word_of s)
  unfolding Imaged
  imaged_bytes word_of s h i e =
      i (fit_some 0 (omega (arith, ap size e))) ∙ ap (λ x. image (in_words word_of x)) e
