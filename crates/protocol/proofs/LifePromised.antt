-- The promise holds at every point of every life that an accepted lay out begins.
use Rattle.std.proofs.Common.{ℕ, ◌<◌, List, arith}
use Rattle.protocol.specs.declared.record.Worker.{Worker}
use Rattle.protocol.specs.declared.answer.Call.{Call}
use Rattle.protocol.specs.Records.{Log}
use Rattle.protocol.specs.Account.{account}
use Rattle.protocol.specs.Promise.{Promised}
use Rattle.protocol.specs.Lives.{after}
use Rattle.protocol.specs.Views.{sizes, view, history, laid_out}
use Rattle.protocol.proofs.Whole.{whole_life}
use Rattle.protocol.proofs.Lives.{life_runs, laid_out_is}
use Rattle.std.proofs.lemmas.List.{length-replicate}
use Rattle.stores.specs.Model.{fresh_cell}

pub life_promised : {X : Type 0} (blank : X) (n : ℕ) (ws : List (Worker X)) (l : Log X) (start : ℕ) → 0 < n → (cs : List (Call X)) →
    Promised (sizes (laid_out blank n ws l start)) (view blank (after blank (laid_out blank n ws l start) cs))
    (account (history blank (laid_out blank n ws l start) cs))
life_promised blank n ws l start some cs =
    whole_life (sizes (laid_out blank n ws l start)) start (view blank (laid_out blank n ws l start)) (laid_out_is blank n ws l start some)
    (history blank (laid_out blank n ws l start) cs) (view blank (after blank (laid_out blank n ws l start) cs))
    (life_runs blank cs (laid_out blank n ws l start) (omega (arith, length-replicate n (fresh_cell blank))))
