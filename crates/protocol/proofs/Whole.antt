-- The promise after every run from an accepted lay out on.
use Rattle.std.proofs.Common.{ℕ, List, ◌++◌}
use Rattle.protocol.specs.State.{Sizes, State}
use Rattle.protocol.specs.Events.{Event}
use Rattle.protocol.specs.Steps.{Run, LaidOut}
use Rattle.protocol.specs.Account.{Account, account, blank_account}
use Rattle.protocol.specs.Promise.{Promised, WholeLife}
use Rattle.protocol.proofs.Invariant.{Invariant}
use Rattle.protocol.proofs.Runs.{run_split}
use Rattle.protocol.proofs.Always.{at_start, always, nothing_lost_or_doubled}
use Rattle.protocol.proofs.Announcing.{announced_in_time}
use Rattle.protocol.proofs.Finishing.{finished_in_time}

pub promised : {X : Type 0} {z : Sizes} {start : ℕ} {s : State X} {a : Account X} → Invariant z start s a → Promised z s a
promised {z} {s} {a} i = record { nothing_lost_or_doubled = nothing_lost_or_doubled i; announced_in_time = announced_in_time z s a; finished_in_time = finished_in_time i }

pub whole_life : {X : Type 0} → WholeLife X
whole_life z start s laid es t run = promised (always z start s es t run blank_account (at_start z start s laid))

-- at every point of a life
pub at_every_point : {X : Type 0} {z : Sizes} {start : ℕ} {s u : State X} → LaidOut z start s → (es : List (Event X)) {fs : List (Event X)} → Run z s (es ++ fs) u → (t : State X) × Run z s es t × Run z t fs u × Promised z t (account es)
at_every_point {z} {start} {s} laid es run = let q = run_split es run in (q.0, q.1, q.2, whole_life z start s laid es q.0 q.1)
