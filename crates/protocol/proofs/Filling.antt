-- Slots filled one after the other.
use Rattle.std.proofs.Common.{◌≡◌, suc, List, [], ◌∷◌, ◌++◌, length, set, refl, ap}
use Rattle.protocol.specs.Lives.{filled}

module _ {V : Type 0} where
  pub filled_none : (slots : List V) → filled slots [] ≡ slots
  filled_none [] = refl
  filled_none (s ∷ slots) = refl

  -- one more is written at the next slot, if there is one
  pub filled_more : (slots came : List V) (v : V) → filled slots (came ++ (v ∷ [])) ≡ set (filled slots came) (length came) v
  filled_more [] came v = refl
  filled_more (s ∷ slots) [] v = ap (λ l. v ∷ l) (filled_none slots)
  filled_more (s ∷ slots) (w ∷ came) v = ap (λ l. w ∷ l) (filled_more slots came v)

  pub length_filled : (slots came : List V) → length (filled slots came) ≡ length slots
  length_filled [] came = refl
  length_filled (s ∷ slots) [] = refl
  length_filled (s ∷ slots) (w ∷ came) = ap suc (length_filled slots came)
