-- The promise at every point of a life.
use Rattle.std.specs.Prelude.{ℕ, List, take}
use Rattle.protocol.specs.declared.answer.Call.{Call}
use Rattle.protocol.specs.Account.{account}
use Rattle.protocol.specs.Promise.{Promised}
use Rattle.protocol.specs.Lives.{Queue, after}
use Rattle.protocol.specs.Views.{sizes, view, history}

-- the promise holds of the account of the first i calls, for every i
abbrev pub PromisedThroughout : {X : Type 0} → X → Queue X → List (Call X) → Type 0
PromisedThroughout blank q calls =
    (i : ℕ) → Promised (sizes q) (view blank (after blank q (take i calls))) (account (history blank q (take i calls)))
