-- The argument of the call: the number of cells, in decimals.
use Rattle.std.specs.Prelude.{◌≡◌, ℕ, ◌^◌, ◌<◌, Bool, not, ◌&&◌, ◌||◌, List, length, Some, None, decimal, Option, ◌==◌, nat_lt, slice_index}

-- the argument is the number n, below 2^64 and without leading zeros
abbrev pub Says : Option (List ℕ) → ℕ → Type 0
Says argument n = (n < 2 ^ 64) × (argument ≡ Some (decimal n))

-- r is the number that the argument is, or nothing if it is none
abbrev pub Counted : Option (List ℕ) → Option ℕ → Type 0
Counted argument (Some n) = Says argument n
Counted argument None = (n : ℕ) → Says argument n → ⊥

-- some bytes, no plus in front, and no zero before another byte
abbrev pub plain : List ℕ → Bool
plain bs = nat_lt 0 (length bs) && not (slice_index bs 0 == 43) && (not (slice_index bs 0 == 48) || length bs == 1)
