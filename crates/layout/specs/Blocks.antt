-- Blocks of 64 words, the last of which is the block's check.
use Rattle.std.specs.Prelude.{◌≡◌, ℕ, zero, suc, ◌+◌, ◌-◌, ◌*◌, ◌/◌, ◌%◌, ◌^◌, Bool, ◌&&◌, List, ◌==◌, nat_le, nat_lt}
use Rattle.layout.specs.Words.{word, put}

-- where word j of block b begins
abbrev pub place : ℕ → ℕ → ℕ
place b j = 512 * b + 8 * j

-- the sum of the first k words of block b
unfoldable pub sum_words : List ℕ → ℕ → ℕ → ℕ
sum_words m b zero = 0
sum_words m b (suc k) = sum_words m b k + word m (place b k)

-- what word 63 of block b has to be
abbrev pub check_of : List ℕ → ℕ → ℕ
check_of m b = (b + 1 + sum_words m b 63) % 2 ^ 64

abbrev pub Checked : List ℕ → ℕ → Type 0
Checked m b = word m (place b 63) ≡ check_of m b

-- how many blocks n cells take: one for the counters, and one for every 21 cells begun
abbrev pub blocks_for : ℕ → ℕ
blocks_for n = 1 + (n + 20) / 21

-- a memory of so many bytes is that of n cells
abbrev pub fit : ℕ → ℕ → Bool
fit size n = nat_lt 0 n && nat_le n 65536 && size == 512 * blocks_for n

-- the bytes after the word w is put as word j of block b, and the check is moved by the difference
abbrev pub stored : List ℕ → ℕ → ℕ → ℕ → List ℕ
stored m b j w =
    put (put m (place b j) w) (place b 63) (((word m (place b 63) + w) % 2 ^ 64 + (2 ^ 64 - word m (place b j))) % 2 ^ 64)
