-- What the faults of an arranged store tell.
use Rattle.std.specs.Prelude.{◌≡◌, Some, Option}
use Rattle.stores.specs.declared.refusal.Layer.{Layer}
use Rattle.stores.specs.declared.refusal.Layer.TheVariants.{Arrangement}
use Rattle.stores.specs.Refusals.{Reason, reason_by}
use Rattle.arrangements.specs.declared.fault.ArrangementFault.{ArrangementFault}
use Rattle.arrangements.specs.declared.fault.ArrangementFault.TheVariants.{NoSuchCell, NoCells, Below}

abbrev pub arrangement_layer : Layer
arrangement_layer = Arrangement

-- a fault from below keeps its number and its place, under this layer's name
abbrev pub arrangement_reason : {F : Type 0} → (F → Reason) → ArrangementFault F → Reason
arrangement_reason reason (NoSuchCell i) = reason_by Arrangement 1 i
arrangement_reason reason NoCells = reason_by Arrangement 1 0
arrangement_reason reason (Below f) = reason_by Arrangement (reason f).number (reason f).place

-- of next rank and clear: a fault from below is the refusal of the store below, for the reason `why`;
-- the arrangement's own says that there are no cells
abbrev pub Carries : {F : Type 0} → (F → Reason) → Option Reason → ArrangementFault F → Type 0
Carries reason why (NoSuchCell i) = ⊥
Carries reason why NoCells = Unit {0}
Carries reason why (Below f) = why ≡ Some (reason f)
