-- The image of a model passes the inspection.
use Rattle.std.proofs.Common.{◌≡◌, ℕ, ◌*◌, ◌<◌, true, List, length, Ok, Err, Result, sym, refl, ap, ◌∙◌, subst}
use Rattle.std.proofs.lemmas.Bool.{and_from, lt-ltb, le-leb, eq-eqb, both_ways}
use Rattle.stores.specs.Model.{Contents, size}
use Rattle.layout.specs.Blocks.{fit, blocks_for, Checked}
use Rattle.layout.specs.Image.{plain}
use Rattle.layout.proofs.Images.{checked_bytes, length_bytes}
use Rattle.blocks.specs.declared.fault.BlockFault.{BlockFault}
use Rattle.blocks.specs.declared.fault.BlockFault.TheVariants.{Unfit, BadCheck}
use Rattle.blocks.specs.Inspection.{Inspected, IsImage}

module _ (m : List ℕ) (n : ℕ) (s : Contents ℕ) (i : IsImage m n s) where
  fit_image : fit (length m) n ≡ true
  fit_image =
      let long : length m ≡ 512 * blocks_for n =
      ap length i.bytes ∙ length_bytes (plain s) (blocks_for (size s)) ∙ ap (λ k. 512 * blocks_for k) i.count in
      and_from _ _ (and_from _ _ (lt-ltb 0 n i.some) (le-leb n 65536 i.most)) (eq-eqb (length m) (512 * blocks_for n) long)

  checked_image : (b : ℕ) → b < blocks_for n → Checked m b
  checked_image b h =
      subst (λ (x : List ℕ). Checked x b) (sym i.bytes) (checked_bytes (plain s) (blocks_for (size s)) b (subst (λ (k : ℕ). b < blocks_for k) (sym i.count) h))

pub image_passes : (m : List ℕ) (n : ℕ) (s : Contents ℕ) (r : Result Prim.Unit BlockFault) → IsImage m n s → Inspected m n r → r ≡ Ok tt
image_passes m n s (Ok u) i v = refl
image_passes m n s (Err Unfit) i v = absurd (both_ways (fit (length m) n) v (fit_image m n s i))
image_passes m n s (Err (BadCheck b)) i v = absurd (v.2 (checked_image m n s i b v.1))
