-- A log over lent entries, and the first entry under a rank.
use Rattle.std.specs.Prelude.{ℕ, List, take, Option, ◌==◌}
use Rattle.std.specs.List.{find}
use Rattle.protocol.specs.declared.record.Entry.{Entry}
use Rattle.protocol.specs.Records.{Log}
use Rattle.queue.specs.declared.log.Log.{Log as Lent}

abbrev pub log_view : {X : Type 0} → Lent X → Log X
log_view l = record { entries = l.entries.now; count = l.count }

-- the ghost name of the lent memory: whoever lent it knows what it holds afterwards
abbrev pub log_lender : {X : Type 0} → Lent X → ℕ
log_lender l = l.entries.ghost_name

-- the entries that are kept
abbrev pub kept : {X : Type 0} → Log X → List (Entry X)
kept l = take l.count l.entries

abbrev pub first_under : {X : Type 0} → ℕ → List (Entry X) → Option (Entry X)
first_under rank es = find (λ e. e.rank == rank) es
