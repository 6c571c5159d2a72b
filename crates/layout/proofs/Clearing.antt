-- A memory that is cleared: its words and its model.
use Rattle.std.proofs.Common.{◌≡◌, ℕ, suc, ◌+◌, ◌*◌, ◌/◌, ◌%◌, ◌^◌, ◌<◌, true, List, length, get_or, replicate, negsuc, sym, ap, ◌∙◌, arith, w64, to_z}
use lib.LanesLaws.{map-replicate}
use Rattle.std.proofs.lemmas.List.FromFn.{fill_by_all}
use Rattle.std.proofs.lemmas.List.{get_or-replicate, length-replicate}
use Rattle.stores.specs.Model.{Contents, size, fresh_cell, cleared}
use Rattle.layout.specs.Words.{word}
use Rattle.layout.specs.Blocks.{place, blocks_for, fit}
use Rattle.layout.specs.Image.{cell_words, in_words, zero_cell, part, plain, image}
use Rattle.layout.specs.Decoding.{cell_block, cell_word, part_in, cell_in, decoded, block_model, Imaged}
use Rattle.layout.proofs.Images.{full_plain, word_bytes}
use Rattle.layout.proofs.Models.{same_contents, same_cell}
use Rattle.layout.proofs.Fits.{Fits, model_fit}

module _ {X : Type 0} (word_of : X → ℕ) (item : ℕ → X) (blank : X) (law : item (word_of blank) ≡ blank) (small : word_of blank < 2 ^ 64)
    (n start : ℕ) (low : start < 2 ^ 40) (m : List ℕ) (f : Fits (length m) n) (e : m ≡ image (cleared (word_of blank) n start)) where
  abbrev fresh_words : Contents ℕ
  fresh_words = cleared (word_of blank) n start

  in_words_cleared : in_words word_of (cleared blank n start) ≡ fresh_words
  in_words_cleared =
      ap (λ cs. let y : Contents ℕ = record { head = start; end = negsuc 0; cells = cs } in y) (map-replicate (cell_words word_of) n (fresh_cell blank))

  size_fresh : size fresh_words ≡ n
  size_fresh = length-replicate n (fresh_cell (word_of blank))

  word_fresh : (b j : ℕ) → b < blocks_for n → j < 63 → word m (place b j) ≡ plain fresh_words b j % 2 ^ 64
  word_fresh b j h l =
      ap (λ x. word x (place b j)) e
      ∙ word_bytes (plain fresh_words) (blocks_for (size fresh_words)) b j (omega (arith, size_fresh)) (omega arith)
      ∙ ap (λ w. w % 2 ^ 64) (full_plain (plain fresh_words) b j l)

  part_fresh : (i p : ℕ) → i < n → p < 3 → part_in m i p ≡ part (fresh_cell (word_of blank)) p % 2 ^ 64
  part_fresh i p hi hp =
      let one : cell_block i ≡ suc (i / 21) = omega arith in
      let x : 21 * (i / 21) + (cell_word i + p) / 3 ≡ i = omega arith in
      let y : (cell_word i + p) % 3 ≡ p = omega arith in
      word_fresh (cell_block i) (cell_word i + p) (omega arith) (omega arith)
      ∙ ap (λ b. plain fresh_words b (cell_word i + p) % 2 ^ 64) one
      ∙ ap (λ z. part (get_or fresh_words.cells z zero_cell) ((cell_word i + p) % 3) % 2 ^ 64) x
      ∙ ap (λ c. part c ((cell_word i + p) % 3) % 2 ^ 64) (get_or-replicate n i (fresh_cell (word_of blank)) zero_cell hi)
      ∙ ap (λ z. part (fresh_cell (word_of blank)) z % 2 ^ 64) y

  decoded_cleared : decoded item n m ≡ cleared blank n start
  decoded_cleared =
      same_contents (decoded item n m) (cleared blank n start)
      (omega (arith, word_fresh 0 1 (omega arith) (omega arith)))
      (ap (to_z w64) (word_fresh 0 2 (omega arith) (omega arith)))
      (sym
      (fill_by_all (cell_in item m) (replicate n (fresh_cell blank)) n (fresh_cell blank) (length-replicate n (fresh_cell blank))
      (λ k h.
      get_or-replicate n k (fresh_cell blank) (fresh_cell blank) h
      ∙ same_cell (fresh_cell blank) (cell_in item m k)
      (sym (ap item (part_fresh k 0 h (omega arith) ∙ (let d : word_of blank % 2 ^ 64 ≡ word_of blank = omega arith in d)) ∙ law))
      (sym (ap (to_z w64) (part_fresh k 1 h (omega arith))))
      (sym (ap (to_z w64) (part_fresh k 2 h (omega arith)))))))

  pub cleared_model : fit (length m) n ≡ true → block_model item n m ≡ cleared blank n start
  cleared_model fits = model_fit item n m fits ∙ decoded_cleared

  pub cleared_imaged : Imaged word_of item n m
  unfolding Imaged
  cleared_imaged fits = e ∙ ap image (sym in_words_cleared) ∙ ap (λ s. image (in_words word_of s)) (sym (cleared_model fits))
