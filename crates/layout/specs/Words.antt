-- Words in a list of bytes: eight bytes, low byte first.
use Rattle.std.specs.Prelude.{ℕ, ◌+◌, ◌*◌, ◌/◌, ◌%◌, ◌^◌, List, set, slice_index, slice_set}

-- the word whose low byte stands at `at`
unfoldable pub word : List ℕ → ℕ → ℕ
word m at =
    slice_index m at + slice_index m (at + 1) * 256 + slice_index m (at + 2) * 65536 + slice_index m (at + 3) * 16777216
    + slice_index m (at + 4) * 4294967296 + slice_index m (at + 5) * 1099511627776 + slice_index m (at + 6) * 281474976710656
    + slice_index m (at + 7) * 72057594037927936

-- byte i of the word w
abbrev pub byte_of : ℕ → ℕ → ℕ
byte_of w i = w / 256 ^ i % 256

-- the bytes after the word w is put at `at`
unfoldable pub put : List ℕ → ℕ → ℕ → List ℕ
put m at w =
    set (set (set (set (set (slice_set (slice_set (slice_set m at (w % 256)) (at + 1) (w / 256 % 256)) (at + 2) (w / 65536 % 256))
    (at + 3) (w / 16777216 % 256)) (at + 4) (w / 4294967296 % 256)) (at + 5) (w / 1099511627776 % 256))
    (at + 6) (w / 281474976710656 % 256)) (at + 7) (w / 72057594037927936 % 256)
