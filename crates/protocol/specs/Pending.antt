-- How far the tail of a receiver can still rise before it probes again.
use Rattle.std.specs.Prelude.{ℕ}
use Rattle.protocol.specs.declared.record.ReceiverPhase.{ReceiverPhase}
use Rattle.protocol.specs.declared.record.ReceiverPhase.TheVariants.{Probing, Busy, Found, Filled}

abbrev pub pending : ReceiverPhase → ℕ
pending Probing = 0
pending Busy = 1
pending Found = 1
pending Filled = 1
