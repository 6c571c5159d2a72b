-- The model of a store that is arranged over another.
use Rattle.std.specs.Prelude.{◌≡◌, ℕ, ◌+◌, ◌<◌, ◌≤◌, Bool, cond, List, [], map, length, get_or, replicate, Result, MatchResult, slice_index_or, slice_set}
use Rattle.std.specs.List.{range_with_len}
use Rattle.stores.specs.declared.refusal.Layer.{Layer}
use Rattle.stores.specs.Refusals.{Reason}
use Rattle.stores.specs.Calls.{no_rank, no_clear, Done}
use Rattle.stores.specs.Model.{Contents, size, fresh_cell, with_head, cleared}
use Rattle.arrangements.specs.declared.arranged.ArrangedStore.{ArrangedStore}
use Rattle.arrangements.specs.declared.fault.ArrangementFault.{ArrangementFault}
use Rattle.arrangements.specs.declared.fault.ArrangementFault.TheVariants.{NoSuchCell, NoCells}

-- element i is the one at i's place in xs; there is none where the length of xs doesn't fit
unfoldable pub rearranged : {X : Type 0} → X → (ℕ → Bool) → (ℕ → ℕ → ℕ) → List X → List X
rearranged d fits place xs = cond (fits (length xs)) (map (λ i. get_or xs (place (length xs) i) d) (range_with_len 0 (length xs))) []

-- the cells of the model below rearranged; its head and its end mark as they are
abbrev pub arranged : {X : Type 0} → X → (ℕ → Bool) → (ℕ → ℕ → ℕ) → Contents X → Contents X
arranged blank fits place m =
    record { head = m.head; end = m.end; cells = rearranged (fresh_cell blank) fits place m.cells }

-- the model of an arranged store, from those of the stores below
abbrev pub arranged_model : {X S A : Type 0} → X → (A → ℕ → Bool) → (A → ℕ → ℕ → ℕ) → (S → Contents X) → ArrangedStore S A → Contents X
arranged_model blank fits place model s = arranged blank (fits s.arrangement) (place s.arrangement) (model s.below)

-- what the trait says of next rank and of clear, at any model
abbrev pub RankTaken : {S X F : Type 0} → (F → Reason) → Layer → (S → Contents X) → S → S → Result ℕ F → Type 0
RankTaken reason layer model s t r =
    Done reason (no_rank layer (model s)) (model s).head model (with_head (model s) ((model s).head + 1)) s t r

abbrev pub Cleared : {S X F : Type 0} → (F → Reason) → Layer → X → (S → Contents X) → ℕ → S → S → Result Unit F → Type 0
Cleared reason layer blank model start s t r =
    Done reason (no_clear layer (model s) start) tt model (cleared blank (size (model s)) start) s t r

-- n cells above, over the cells xs below: there are as many where n fits, and none else;
-- what is read, set or filled in above is read, set or filled in at the places below
pub record CellsAbove {X : Type 0} (d : X) (fits : ℕ → Bool) (place : ℕ → ℕ → ℕ) (xs : List X) (n : ℕ) : Type 0 where
  pub size : n ≡ length (rearranged d fits place xs)
  pub fit : n ≡ cond (fits (length xs)) (length xs) 0
  pub within : (i : ℕ) → i < n → place n i < length xs
  pub read : (i : ℕ) → i < n → slice_index_or (rearranged d fits place xs) i d ≡ slice_index_or xs (place n i) d
  pub write : (i : ℕ) (x : X) → i < n → rearranged d fits place (slice_set xs (place n i) x) ≡ slice_set (rearranged d fits place xs) i x
  pub fill : (x : X) → 0 < n → rearranged d fits place (replicate (length xs) x) ≡ replicate n x

-- r is that number, or it is refused since there are none
abbrev pub SomeAbove : {X F : Type 0} → X → (ℕ → Bool) → (ℕ → ℕ → ℕ) → List X → Result ℕ (ArrangementFault F) → Type 0
SomeAbove d fits place xs r =
    MatchResult r (λ n. (0 < n) × CellsAbove d fits place xs n) (λ f. (f ≡ NoCells) × (length (rearranged d fits place xs) ≡ 0))

-- p is the place below of cell i above: what is read or set there is read or set in cell i
pub record PlacedAt {X : Type 0} (d : X) (fits : ℕ → Bool) (place : ℕ → ℕ → ℕ) (xs : List X) (i p : ℕ) : Type 0 where
  pub above : i < length (rearranged d fits place xs)
  pub below : p < length xs
  pub read : slice_index_or (rearranged d fits place xs) i d ≡ slice_index_or xs p d
  pub write : (x : X) → rearranged d fits place (slice_set xs p x) ≡ slice_set (rearranged d fits place xs) i x

-- r is the place below of cell i above, or it is refused since there is no such cell
abbrev pub PlaceBelow : {X F : Type 0} → X → (ℕ → Bool) → (ℕ → ℕ → ℕ) → List X → ℕ → Result ℕ (ArrangementFault F) → Type 0
PlaceBelow d fits place xs i r =
    MatchResult r (PlacedAt d fits place xs i) (λ f. (f ≡ NoSuchCell i) × (length (rearranged d fits place xs) ≤ i))
