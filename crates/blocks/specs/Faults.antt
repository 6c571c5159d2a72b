-- What the refusals of a block memory tell.
use Rattle.stores.specs.declared.refusal.Layer.TheVariants.{Store}
use Rattle.stores.specs.Refusals.{Reason, reason_by}
use Rattle.blocks.specs.declared.fault.BlockFault.{BlockFault}
use Rattle.blocks.specs.declared.fault.BlockFault.TheVariants.{Unfit, BadCheck}

abbrev pub block_reason : BlockFault → Reason
block_reason Unfit = reason_by Store 12 0
block_reason (BadCheck b) = reason_by Store 13 b
