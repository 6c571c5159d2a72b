-- What the fit question and the inspection of a memory answer.
use Rattle.std.specs.Prelude.{◌≡◌, ℕ, ◌+◌, ◌%◌, ◌^◌, ◌<◌, ◌≤◌, true, false, cond, List, [], length, slice_index_or, Ok, Err, Result, Option, MatchOption}
use Rattle.stores.specs.Model.{Contents, size}
use Rattle.layout.specs.Words.{word}
use Rattle.layout.specs.Blocks.{fit, blocks_for, sum_words, Checked}
use Rattle.layout.specs.Image.{image}
use Rattle.blocks.specs.declared.fault.BlockFault.{BlockFault}
use Rattle.blocks.specs.declared.fault.BlockFault.TheVariants.{Unfit, BadCheck}

abbrev pub fit_answer : ℕ → ℕ → Result Prim.Unit BlockFault
fit_answer size n = cond (fit size n) (Ok tt) (Err Unfit)

-- r is the verdict on the memory m for n cells: exactly one answer is
abbrev pub Inspected : List ℕ → ℕ → Result Prim.Unit BlockFault → Type 0
Inspected m n (Ok u) = (fit (length m) n ≡ true) × ((b : ℕ) → b < blocks_for n → Checked m b)
Inspected m n (Err Unfit) = fit (length m) n ≡ false
Inspected m n (Err (BadCheck b)) =
    (fit (length m) n ≡ true) × (b < blocks_for n) × (Checked m b → ⊥) × ((a : ℕ) → a < b → Checked m a)

-- the memory m is the image of the contents s, items as words, of n cells
pub record IsImage (m : List ℕ) (n : ℕ) (s : Contents ℕ) : Type 0 where
  pub count : size s ≡ n
  pub some : 0 < n
  pub most : n ≤ 65536
  pub bytes : m ≡ image s

-- the list that is block b of a memory has its check
abbrev pub HasCheck : List (List ℕ) → ℕ → Type 0
HasCheck blocks b = word (slice_index_or blocks b []) 504 ≡ (b + 1 + sum_words (slice_index_or blocks b []) 0 63) % 2 ^ 64

-- r is the first block that has not its check
abbrev pub FirstUnchecked : List (List ℕ) → Option ℕ → Type 0
FirstUnchecked blocks r =
    MatchOption r ((b : ℕ) → b < length blocks → HasCheck blocks b)
    (λ b. (b < length blocks) × (HasCheck blocks b → ⊥) × ((a : ℕ) → a < b → HasCheck blocks a))
