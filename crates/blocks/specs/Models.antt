-- The model of a block memory that is made anew, and of one after a part of a cell is put.
use Rattle.std.specs.Prelude.{ℕ, cond}
use Rattle.stores.specs.Model.{Contents, cleared, no_contents, with_item, with_rank, with_gap}
use Rattle.layout.specs.Blocks.{fit}
use Rattle.blocks.specs.declared.slices.Part.{Part}
use Rattle.blocks.specs.declared.slices.Part.TheVariants.{Item, Rank, Gap}

-- a store of n cells that is made over so many bytes: cleared at 0, or without cells
abbrev pub made_model : {X : Type 0} → X → ℕ → ℕ → Contents X
made_model blank bytes n = cond (fit bytes n) (cleared blank n 0) no_contents

-- the contents after the part is put into cell i
abbrev pub with_part : {X : Type 0} → X → Contents X → ℕ → Part X → Contents X
with_part blank s i (Item x) = with_item blank s i x
with_part blank s i (Rank z) = with_rank blank s i z
with_part blank s i (Gap z) = with_gap blank s i z
