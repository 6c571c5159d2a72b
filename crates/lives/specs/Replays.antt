-- What a replay answers and leaves, and what is promised of it.
use Rattle.std.specs.Prelude.{◌≡◌, ℕ, List, Some, None, Option, Result, MatchResult}
use Rattle.stores.specs.Refusals.{Reason}
use Rattle.stores.specs.Model.{Contents, size}
use Rattle.protocol.specs.declared.answer.Call.{Call}
use Rattle.protocol.specs.declared.answer.Answer.{Answer}
use Rattle.protocol.specs.Rules.{no_lay_out}
use Rattle.protocol.specs.Throughout.{PromisedThroughout}
use Rattle.protocol.specs.Lives.{Queue, after, answers, filled}
use Rattle.protocol.specs.Views.{laid_out}
use Rattle.queue.specs.Logs.{log_view}
use Rattle.lives.specs.declared.held.Held.{Held}
use Rattle.lives.specs.declared.parts.Parts.{Parts}
use Rattle.lives.specs.Lent.{queue_view, Untouched}
use Rattle.lives.specs.Permits.{permit_of}

-- the life of these calls from the queue q on
pub record Lived {X : Type 0} (blank : X) (q : Queue X) (calls : List (Call X)) (new : Queue X) (slots filled_slots : List (Answer X)) : Type 0 where
  -- its effect and its answers are those of the calls
  pub effect : new ≡ after blank q calls
  pub told : filled_slots ≡ filled slots (answers blank q calls)

module _ {X S : Type 0} (blank : X) (model : S → Contents X) where
  -- whether these parts can't be laid out, and the queue that they are once they are
  abbrev pub no_life : Parts X S → ℕ → Option Reason
  no_life p start = no_lay_out (model p.store.now) p.workers.now start

  abbrev pub begun : Parts X S → ℕ → Queue X
  begun p start = laid_out blank (size (model p.store.now)) p.workers.now (log_view p.log.now) start

-- the replay r of these calls takes the parts p to q, and the slots of the answers to filled ones:
-- where the lay out is accepted, the life of the calls with what is promised of it; where it is refused, nothing has changed
abbrev pub Replayed : {X F S : Type 0} → X → (F → Reason) → (S → Contents X) → ℕ → List (Call X) →
    (p : Parts X S) (slots : List (Answer X)) (q : Parts X S) (filled_slots : List (Answer X)) → Result Held F → Type 0
Replayed blank reason model start calls p slots q filled_slots r =
    MatchResult r
    (λ h. (no_life blank model p start ≡ None)
    × Lived blank (begun blank model p start) calls (queue_view model q (permit_of h)) slots filled_slots
    × PromisedThroughout blank (begun blank model p start) calls)
    (λ f. (no_life blank model p start ≡ Some (reason f)) × Untouched p q × (filled_slots ≡ slots))
