-- The image of a model: the bytes that a block memory has for it.
use Rattle.std.specs.Prelude.{◌≡◌, ℕ, zero, suc, ◌+◌, ◌*◌, ◌/◌, ◌%◌, ◌^◌, ◌<◌, cond, List, map, pos, ◌==◌, nat_lt, slice_index, slice_index_or}
use Rattle.std.specs.Int.{w64}
use Rattle.std.proofs.Common.{of_z}
use Rattle.std.specs.List.{range_with_len}
use Rattle.stores.specs.declared.cell.Cell.{Cell}
use Rattle.stores.specs.Model.{Contents, size}
use Rattle.layout.specs.Words.{byte_of}
use Rattle.layout.specs.Blocks.{blocks_for}

-- each item by its word
abbrev pub cell_words : {X : Type 0} → (X → ℕ) → Cell X → Cell ℕ
cell_words word c = record { item = word c.item; rank = c.rank; gap = c.gap }

abbrev pub in_words : {X : Type 0} → (X → ℕ) → Contents X → Contents ℕ
in_words word m = record { head = m.head; end = m.end; cells = map (cell_words word) m.cells }

-- what stands past the last cell: zeros
abbrev pub zero_cell : Cell ℕ
zero_cell = record { item = 0; rank = pos 0; gap = pos 0 }

-- word p of a cell: its item, its rank, its gap; negative numbers in two's complement
abbrev pub part : Cell ℕ → ℕ → ℕ
part c p = cond (p == 0) c.item (cond (p == 1) (of_z w64 c.rank) (of_z w64 c.gap))

-- word j of block b, for j below 63
abbrev pub plain : Contents ℕ → ℕ → ℕ → ℕ
plain m zero j = cond (j == 0) (size m) (cond (j == 1) m.head (cond (j == 2) (of_z w64 m.end) 0))
plain m (suc b) j = part (slice_index_or m.cells (21 * b + j / 3) zero_cell) (j % 3)

-- the sum of the first k of the words f of block b
unfoldable pub sum_of : (ℕ → ℕ → ℕ) → ℕ → ℕ → ℕ
sum_of f b zero = 0
sum_of f b (suc k) = sum_of f b k + f b k

-- word j of block b, the check too
abbrev pub full : (ℕ → ℕ → ℕ) → ℕ → ℕ → ℕ
full f b j = cond (nat_lt j 63) (f b j) ((b + 1 + sum_of f b 63) % 2 ^ 64)

-- byte k of the blocks whose words are f
abbrev pub byte_at : (ℕ → ℕ → ℕ) → ℕ → ℕ
byte_at f k = byte_of (full f (k / 512) (k % 512 / 8)) (k % 8)

abbrev pub bytes_of : (ℕ → ℕ → ℕ) → ℕ → List ℕ
bytes_of f blocks = map (byte_at f) (range_with_len 0 (512 * blocks))

-- the first k bytes of the memory are those of the words f
abbrev pub Written : (ℕ → ℕ → ℕ) → List ℕ → ℕ → Type 0
Written f mem k = (i : ℕ) → i < k → slice_index mem i ≡ byte_at f i

abbrev pub image : Contents ℕ → List ℕ
image m = bytes_of (plain m) (blocks_for (size m))
