-- What the refusal of a text tells.
use Rattle.stores.specs.declared.refusal.Layer.{Layer}
use Rattle.stores.specs.declared.refusal.Layer.TheVariants.{Run}
use Rattle.stores.specs.Refusals.{Reason, reason_by}
use Rattle.texts.specs.declared.fault.TextFault.{TextFault}
use Rattle.texts.specs.declared.fault.TextFault.TheVariants.{BadLine}

abbrev pub text_layer : Layer
text_layer = Run

abbrev pub text_reason : TextFault → Reason
text_reason (BadLine line) = reason_by Run 15 line
