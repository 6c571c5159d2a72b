-- The tests of stored numbers that the rules make.
use Rattle.std.specs.Prelude.{ℕ, ◌^◌, Bool, true, false, ℤ, pos, negsuc, ◌==◌, nat_le}
use Rattle.protocol.specs.declared.record.WorkerPhase.{WorkerPhase}
use Rattle.protocol.specs.declared.record.WorkerPhase.TheVariants.{Idle, Seeking, Doubting, Marked, Passed, Sure, Copied}

-- no rank is handed out or announced from here on
abbrev pub limit : ℕ
limit = 2 ^ 40

-- 0 or more: a used cell's rank, an end mark that is set
abbrev pub used : ℤ → Bool
used (pos a) = true
used (negsuc a) = false

-- it is the rank r
abbrev pub is_rank : ℤ → ℕ → Bool
is_rank (pos a) r = a == r
is_rank (negsuc a) r = false

-- a gap that is at least the rank r
abbrev pub covers : ℤ → ℕ → Bool
covers (pos a) r = nat_le r a
covers (negsuc a) r = false

-- an end mark that is set, and r is at least it
abbrev pub ended_by : ℤ → ℕ → Bool
ended_by (pos a) r = nat_le a r
ended_by (negsuc a) r = false

-- the end mark of an open queue: -1 and no other
abbrev pub is_open : ℤ → Bool
is_open (pos a) = false
is_open (negsuc a) = a == 0

abbrev pub is_idle : WorkerPhase → Bool
is_idle Idle = true
is_idle Seeking = false
is_idle Doubting = false
is_idle Marked = false
is_idle Passed = false
is_idle Sure = false
is_idle Copied = false
