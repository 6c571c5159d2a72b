-- A memory that is cut into blocks: what is known of the blocks' checks is its inspection.
use Rattle.std.proofs.Common.{◌≡◌, ℕ, ◌/◌, ◌<◌, true, List, [], length, Ok, Err, ap, ◌∙◌, arith}
use Rattle.std.specs.Simd.{first_chunks}
use Rattle.layout.specs.Blocks.{blocks_for, fit, Checked}
use Rattle.layout.proofs.Fits.{fit_true}
use Rattle.layout.proofs.Conversions.{block_check}
use Rattle.blocks.specs.declared.fault.BlockFault.TheVariants.{BadCheck}
use Rattle.blocks.specs.Inspection.{Inspected, HasCheck}

module _ (m : List ℕ) (n : ℕ) (fits : fit (length m) n ≡ true) (blocks : List (List ℕ)) (s : ℕ) (e : s ≡ 512)
    (cut : blocks ≡ first_chunks s (length m / s) m) (long : length blocks ≡ length m / s) where
  count : length blocks ≡ blocks_for n
  count = long ∙ ap (λ z. length m / z) e ∙ (let f = fit_true (length m) n fits in let d : length m / 512 ≡ blocks_for n = omega (arith, f.whole) in d)

  checked : (b : ℕ) → b < length blocks → HasCheck blocks b → Checked m b
  checked b h c = let w = block_check m blocks s (length m / s) b [] e cut (omega arith) in omega (arith, w.0, w.1, c)

  has_check : (b : ℕ) → b < length blocks → Checked m b → HasCheck blocks b
  has_check b h c = let w = block_check m blocks s (length m / s) b [] e cut (omega arith) in omega (arith, w.0, w.1, c)

  pub all_checked : ((b : ℕ) → b < length blocks → HasCheck blocks b) → Inspected m n (Ok tt)
  all_checked all = (fits, λ b h. let l : b < length blocks = omega (arith, count) in checked b l (all b l))

  pub bad_check : (b : ℕ) → (b < length blocks) × (HasCheck blocks b → ⊥) × ((a : ℕ) → a < b → HasCheck blocks a) →
      Inspected m n (Err (BadCheck b))
  bad_check b f = (fits, omega (arith, count, f.0), (λ c. f.1 (has_check b f.0 c)), (λ a h. checked a (omega (arith, f.0)) (f.2 a h)))
