-- What a refusal tells: its number, its place, and the layer that refuses.
use Rattle.std.specs.Prelude.{ℕ}
use Rattle.stores.specs.declared.refusal.Layer.{Layer}
use Rattle.stores.specs.declared.refusal.Layer.TheVariants.{Store}
use Rattle.stores.specs.declared.refusal.StoreFault.{StoreFault}
use Rattle.stores.specs.declared.refusal.StoreFault.TheVariants.{NoSuchCell, NoCells, StartTooHigh, RanksUsedUp}

pub record Reason : Type 0 where
  pub number : ℕ
  pub place : ℕ
  pub layer : Layer

abbrev pub reason_by : Layer → ℕ → ℕ → Reason
reason_by layer number place = record { number = number; place = place; layer = layer }

abbrev pub store_layer : Layer
store_layer = Store

abbrev pub store_reason : StoreFault → Reason
store_reason (NoSuchCell i) = reason_by Store 1 i
store_reason NoCells = reason_by Store 1 0
store_reason StartTooHigh = reason_by Store 2 0
store_reason RanksUsedUp = reason_by Store 6 0
