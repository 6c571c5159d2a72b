-- How many steps a drain of a closed queue takes.
use Rattle.std.specs.Prelude.{◌≡◌, ℕ, zero, suc, ◌+◌, ◌-◌, ◌*◌, ◌≤◌, Bool, true, false, ◌⊎◌, List, length, ℤ, pos, negsuc, is_some, None, Ok, Err, Option, Result}
use Rattle.stores.specs.Refusals.{Reason}
use Rattle.stores.specs.Model.{Contents, size}
use Rattle.protocol.specs.declared.record.Worker.{Worker}
use Rattle.protocol.specs.declared.answer.Call.{Call}
use Rattle.protocol.specs.Tests.{is_open}
use Rattle.protocol.specs.Records.{Receiver, Log}
use Rattle.protocol.specs.Rules.{no_lay_out}
use Rattle.protocol.specs.State.{Permit}
use Rattle.protocol.specs.Account.{Account, one_if, account}
use Rattle.protocol.specs.Lives.{queue_of, after}
use Rattle.protocol.specs.Views.{history, laid_out}
use Rattle.schedules.specs.Drains.{refusal}

-- how many of the first w workers hold a rank
unfoldable pub holding : (ℕ → Option ℕ) → ℕ → ℕ
holding held zero = 0
holding held (suc w) = holding held w + one_if (is_some (held w))

-- how many ranks below the end mark are not claimed yet
abbrev pub unclaimed : ℤ → ℕ → ℕ
unclaimed (pos e) head = e - head
unclaimed (negsuc a) head = 0

-- 4 steps for each rank that is held or still to be claimed, and 1 for each worker, to be told over
abbrev pub steps_enough : {X : Type 0} → Account X → ℕ → Contents X → ℕ
steps_enough a workers m = 4 * (holding a.held workers + unclaimed m.end m.head) + workers

-- the drain finished, or the log had no room for a delivery of worker k
abbrev pub FinishedOrLogFull : Result Bool Reason → Type 0
FinishedOrLogFull outcome = (outcome ≡ Ok true) ⊎ ((k : ℕ) × (outcome ≡ Err (refusal 7 k)))

-- a closed queue of these parts, that came from an accepted lay out by any list of calls, is drained in this many steps
-- at most, whatever the budget; and a budget of that size finishes it, unless the log fills
abbrev pub DrainedInTime : {X : Type 0} → X → ℕ → List (Worker X) → Contents X → Log X → ℕ → Result Bool Reason → Type 0
DrainedInTime {X} blank budget ws m l steps outcome =
    (m₀ : Contents X) (ws₀ : List (Worker X)) (l₀ : Log X) (start : ℕ) (calls : List (Call X)) (r : Receiver X) (p : Permit) →
    no_lay_out m₀ ws₀ start ≡ None →
    after blank (laid_out blank (size m₀) ws₀ l₀ start) calls ≡ queue_of m r ws l p →
    is_open m.end ≡ false →
    (steps ≤ steps_enough (account (history blank (laid_out blank (size m₀) ws₀ l₀ start) calls)) (length ws) m)
    × (steps_enough (account (history blank (laid_out blank (size m₀) ws₀ l₀ start) calls)) (length ws) m ≤ budget → FinishedOrLogFull outcome)
