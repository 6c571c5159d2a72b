-- The argument of the call.
use Rattle.std.specs.Prelude.{List, [], ◌∷◌, Some, None, Option}

-- what f makes of the one element of a list, if it has exactly one
abbrev pub only_of : {X Y : Type 0} → (X → Y) → List X → Option Y
only_of f [] = None
only_of f (x ∷ []) = Some (f x)
only_of f (x ∷ y ∷ zs) = None
