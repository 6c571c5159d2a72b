-- The model that the bytes of a block memory have.
use Rattle.std.specs.Prelude.{◌≡◌, ℕ, ◌+◌, ◌*◌, ◌/◌, ◌%◌, ◌^◌, min, true, cond, List, map, length}
use Rattle.std.specs.Int.{w64}
use Rattle.std.proofs.Props.{props}
use Rattle.std.proofs.Common.{to_z}
use Rattle.std.specs.List.{range_with_len}
use Rattle.stores.specs.declared.cell.Cell.{Cell}
use Rattle.stores.specs.Model.{Contents, no_contents}
use Rattle.layout.specs.Words.{word}
use Rattle.layout.specs.Blocks.{place, fit}
use Rattle.layout.specs.Image.{in_words, image}

-- cell i lies in this block, from this word on
abbrev pub cell_block : ℕ → ℕ
cell_block i = 1 + i / 21

abbrev pub cell_word : ℕ → ℕ
cell_word i = 3 * (i % 21)

-- word p of cell i
abbrev pub part_in : List ℕ → ℕ → ℕ → ℕ
part_in m i p = word m (place (cell_block i) (cell_word i + p))

-- cell i, where `item` reads a word as an item
abbrev pub cell_in : {X : Type 0} → (ℕ → X) → List ℕ → ℕ → Cell X
cell_in item m i = record { item = item (part_in m i 0); rank = to_z w64 (part_in m i 1); gap = to_z w64 (part_in m i 2) }

abbrev pub decoded : {X : Type 0} → (ℕ → X) → ℕ → List ℕ → Contents X
decoded item n m =
    record { head = min (word m (place 0 1)) (2 ^ 40); end = to_z w64 (word m (place 0 2)); cells = map (cell_in item m) (range_with_len 0 n) }

-- the model of a store of n cells over the bytes m; where they do not fit, no cells
unfoldable pub block_model : {X : Type 0} → (ℕ → X) → ℕ → List ℕ → Contents X
block_model item n m = cond (fit (length m) n) (decoded item n m) no_contents

-- the bytes m, if they fit n cells, are the image of their model
unfoldable pub Imaged : {X : Type 0} → (X → ℕ) → (ℕ → X) → ℕ → List ℕ → Type 0
Imaged word item n m = fit (length m) n ≡ true → m ≡ image (in_words word (block_model item n m))

-- there is one proof of it at most
pub Imaged-prop : {X : Type 0} (word : X → ℕ) (item : ℕ → X) (n : ℕ) (m : List ℕ) → IsProp (Imaged word item n m)
unfolding Imaged
Imaged-prop word item n m = Prim.hlevel props
