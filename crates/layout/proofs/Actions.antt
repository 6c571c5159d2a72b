-- What the store of one word is to the model of the memory, and that it keeps the memory the image of its model.
use Rattle.std.proofs.Common.{◌≡◌, ℕ, ◌+◌, ◌%◌, ◌^◌, ◌<◌, ◌≤◌, true, List, length, ℤ, sym, ap, ◌∙◌, arith, w64, SFits, to_z, of_z}
use Rattle.std.proofs.lemmas.List.{map-set, get_or-map, length-map}
use Rattle.std.proofs.lemmas.Int.{to_z-of_z}
use Rattle.stores.specs.declared.cell.Cell.{Cell}
use Rattle.stores.specs.Model.{Contents, size, cell_of, fresh_cell, cell_item, cell_rank, cell_gap, with_cell, with_item, with_rank, with_gap, with_head, with_end}
use Rattle.layout.specs.Blocks.{fit, stored}
use Rattle.layout.specs.Image.{cell_words, in_words, zero_cell, part, image}
use Rattle.layout.specs.Decoding.{cell_block, cell_word, part_in, cell_in, decoded, block_model, Imaged}
use Rattle.layout.proofs.Stored.{length_stored}
use Rattle.layout.proofs.Models.{same_cell, part_stored_same, part_stored_other, decoded_stored, head_stored, end_stored}
use Rattle.layout.proofs.ModelImages.{image_with_cell, image_with_head, image_with_end}
use Rattle.layout.proofs.Fits.{model_fit, fit_some, fits_some, below_size, cell_model}

module _ {X : Type 0} (word : X → ℕ) (item : ℕ → X) (n : ℕ) (m : List ℕ) where
  still_fit : (l : List ℕ) → length l ≡ length m → fit (length m) n ≡ true → fit (length l) n ≡ true
  still_fit l e f = ap (λ k. fit k n) e ∙ f

  -- a change of the model that the store of one word makes in the image too
  imaged_stored : (l : List ℕ) (new : Contents X) (b j w : ℕ) → l ≡ stored m b j w → block_model item n l ≡ new →
      image (in_words word new) ≡ stored (image (in_words word (block_model item n m))) b j w →
      Imaged word item n m → Imaged word item n l
  unfolding Imaged
  imaged_stored l new b j w e p q before f =
      let long : length m ≡ length l = sym (ap length e ∙ length_stored m b j w) in
      e ∙ ap (λ x. stored x b j w) (before (ap (λ k. fit k n) long ∙ f)) ∙ sym q ∙ ap (λ s. image (in_words word s)) (sym p)

  -- one part of cell i is changed
  module _ (blank : X) (i p w : ℕ) (change : Cell X → Cell X) (hp : p < 3) (hi : i < size (block_model item n m)) (l : List ℕ)
      (wrote : l ≡ stored m (cell_block i) (cell_word i + p) w) where
    abbrev old : Contents X
    old = block_model item n m

    abbrev new : Contents X
    new = with_cell old i (change (cell_of blank old i))

    part_model : cell_in item (stored m (cell_block i) (cell_word i + p) w) i ≡ change (cell_in item m i) → block_model item n l ≡ new
    part_model reads =
        let f = fit_some item n m i hi in
        let long : length l ≡ length m = ap length wrote ∙ length_stored m (cell_block i) (cell_word i + p) w in
        model_fit item n l (still_fit l long f)
        ∙ ap (decoded item n) wrote
        ∙ decoded_stored item n m i p w (below_size item n m i hi) hp (change (cell_in item m i)) reads
        ∙ ap (λ s. with_cell s i (change (cell_in item m i))) (sym (model_fit item n m f))
        ∙ ap (λ c. with_cell old i (change c)) (sym (cell_model item n m blank i hi))

    in_words_new : in_words word new ≡ with_cell (in_words word old) i (cell_words word (change (cell_of blank old i)))
    in_words_new =
        ap (λ cs. let y : Contents ℕ = record { head = old.head; end = old.end; cells = cs } in y)
        (map-set (cell_words word) old.cells i (change (cell_of blank old i)))

    part_image : part (cell_words word (change (cell_of blank old i))) p ≡ w →
        ((c : Cell X) (r : ℕ) → r < 3 → (r ≡ p → ⊥) → part (cell_words word (change c)) r ≡ part (cell_words word c) r) →
        image (in_words word new) ≡ stored (image (in_words word old)) (cell_block i) (cell_word i + p) w
    part_image e same =
        ap image in_words_new
        ∙ image_with_cell (in_words word old) i p (cell_words word (change (cell_of blank old i))) hp
        (omega (arith, length-map old.cells (cell_words word)))
        (λ r hr ne. same (cell_of blank old i) r hr ne
        ∙ sym (ap (λ c. part c r) (get_or-map (cell_words word) old.cells i (fresh_cell blank) zero_cell hi)))
        ∙ ap (λ v. stored (image (in_words word old)) (cell_block i) (cell_word i + p) v) e

  -- ---- the three parts of a cell

  module _ (blank : X) (i : ℕ) (hi : i < size (block_model item n m)) (l : List ℕ) where
    other_part : (p w k r : ℕ) → p < 3 → r < 3 → ((k ≡ i) × (r ≡ p) → ⊥) →
        part_in (stored m (cell_block i) (cell_word i + p) w) k r ≡ part_in m k r
    other_part p w k r hp hr ne = part_stored_other item n m i p w (below_size item n m i hi) hp k r hr ne

    same_part : (p w : ℕ) → p < 3 → w < 2 ^ 64 → part_in (stored m (cell_block i) (cell_word i + p) w) i p ≡ w
    same_part p w hp hw =
        let f = fits_some item n m i hi in
        part_stored_same item n m i p w (below_size item n m i hi) hp (omega arith) ∙ (let d : w % 2 ^ 64 ≡ w = omega arith in d)

    module _ (x : X) (w : ℕ) (hw : w < 2 ^ 64) (coded : w ≡ word x) (law : item (word x) ≡ x)
        (wrote : l ≡ stored m (cell_block i) (cell_word i + 0) w) where
      pub item_model : block_model item n l ≡ with_item blank (block_model item n m) i x
      item_model =
          part_model blank i 0 w (cell_item x) (omega arith) hi l wrote
          (same_cell (cell_in item (stored m (cell_block i) (cell_word i + 0) w) i) (cell_item x (cell_in item m i))
          (ap item (same_part 0 w (omega arith) hw ∙ coded) ∙ law)
          (ap (to_z w64) (other_part 0 w i 1 (omega arith) (omega arith) (λ y. let y1 = y.1 in omega arith)))
          (ap (to_z w64) (other_part 0 w i 2 (omega arith) (omega arith) (λ y. let y1 = y.1 in omega arith))))

      pub item_imaged : Imaged word item n m → Imaged word item n l
      item_imaged =
          imaged_stored l (with_item blank (block_model item n m) i x) (cell_block i) (cell_word i + 0) w wrote item_model
          (part_image blank i 0 w (cell_item x) (omega arith) hi l wrote (sym coded) (λ c r hr ne. grind arith))

    module _ (z : ℤ) (w : ℕ) (hz : SFits w64 z) (hw : w < 2 ^ 64) (coded : w ≡ of_z w64 z)
        (wrote : l ≡ stored m (cell_block i) (cell_word i + 1) w) where
      pub rank_model : block_model item n l ≡ with_rank blank (block_model item n m) i z
      rank_model =
          part_model blank i 1 w (cell_rank z) (omega arith) hi l wrote
          (same_cell (cell_in item (stored m (cell_block i) (cell_word i + 1) w) i) (cell_rank z (cell_in item m i))
          (ap item (other_part 1 w i 0 (omega arith) (omega arith) (λ y. let y1 = y.1 in omega arith)))
          (ap (to_z w64) (same_part 1 w (omega arith) hw ∙ coded) ∙ to_z-of_z w64 z hz)
          (ap (to_z w64) (other_part 1 w i 2 (omega arith) (omega arith) (λ y. let y1 = y.1 in omega arith))))

      pub rank_imaged : Imaged word item n m → Imaged word item n l
      rank_imaged =
          imaged_stored l (with_rank blank (block_model item n m) i z) (cell_block i) (cell_word i + 1) w wrote rank_model
          (part_image blank i 1 w (cell_rank z) (omega arith) hi l wrote (sym coded) (λ c r hr ne. grind arith))

    module _ (z : ℤ) (w : ℕ) (hz : SFits w64 z) (hw : w < 2 ^ 64) (coded : w ≡ of_z w64 z)
        (wrote : l ≡ stored m (cell_block i) (cell_word i + 2) w) where
      pub gap_model : block_model item n l ≡ with_gap blank (block_model item n m) i z
      gap_model =
          part_model blank i 2 w (cell_gap z) (omega arith) hi l wrote
          (same_cell (cell_in item (stored m (cell_block i) (cell_word i + 2) w) i) (cell_gap z (cell_in item m i))
          (ap item (other_part 2 w i 0 (omega arith) (omega arith) (λ y. let y1 = y.1 in omega arith)))
          (ap (to_z w64) (other_part 2 w i 1 (omega arith) (omega arith) (λ y. let y1 = y.1 in omega arith)))
          (ap (to_z w64) (same_part 2 w (omega arith) hw ∙ coded) ∙ to_z-of_z w64 z hz))

      pub gap_imaged : Imaged word item n m → Imaged word item n l
      gap_imaged =
          imaged_stored l (with_gap blank (block_model item n m) i z) (cell_block i) (cell_word i + 2) w wrote gap_model
          (part_image blank i 2 w (cell_gap z) (omega arith) hi l wrote (sym coded) (λ c r hr ne. grind arith))

  -- ---- the two counters

  module _ (some : 0 < size (block_model item n m)) (l : List ℕ) where
    counter_model : (j w : ℕ) (new : Contents X → Contents X) → l ≡ stored m 0 j w →
        decoded item n (stored m 0 j w) ≡ new (decoded item n m) → block_model item n l ≡ new (block_model item n m)
    counter_model j w new wrote e =
        let f = fit_some item n m 0 some in
        model_fit item n l (still_fit l (ap length wrote ∙ length_stored m 0 j w) f)
        ∙ ap (decoded item n) wrote ∙ e ∙ ap new (sym (model_fit item n m f))

    module _ (h : ℕ) (low : h ≤ 2 ^ 40) (wrote : l ≡ stored m 0 1 h) where
      pub head_model : block_model item n l ≡ with_head (block_model item n m) h
      head_model =
          let f = fits_some item n m 0 some in
          counter_model 1 h (λ s. with_head s h) wrote (head_stored item n m h low (omega arith))

      pub head_imaged : Imaged word item n m → Imaged word item n l
      head_imaged =
          imaged_stored l (with_head (block_model item n m) h) 0 1 h wrote head_model (image_with_head (in_words word (block_model item n m)) h)

    module _ (z : ℤ) (w : ℕ) (hz : SFits w64 z) (hw : w < 2 ^ 64) (coded : w ≡ of_z w64 z) (wrote : l ≡ stored m 0 2 w) where
      pub end_model : block_model item n l ≡ with_end (block_model item n m) z
      end_model =
          let f = fits_some item n m 0 some in
          counter_model 2 w (λ s. with_end s z) wrote (end_stored item n m w z hw (ap (to_z w64) coded ∙ to_z-of_z w64 z hz) (omega arith))

      pub end_imaged : Imaged word item n m → Imaged word item n l
      end_imaged =
          imaged_stored l (with_end (block_model item n m) z) 0 2 w wrote end_model
          (image_with_end (in_words word (block_model item n m)) z ∙ ap (λ v. stored (image (in_words word (block_model item n m))) 0 2 v) (sym coded))
