-- What a rehearsal answers and leaves, and what is promised of it.
use Rattle.std.specs.Prelude.{◌≡◌, ℕ, List, Some, None, Ok, Err, Result, MatchResult}
use Rattle.std.specs.Option.{option_map}
use Rattle.stores.specs.Refusals.{Reason}
use Rattle.stores.specs.Model.{Contents, size}
use Rattle.protocol.specs.declared.record.Worker.{Worker}
use Rattle.protocol.specs.Records.{Log}
use Rattle.protocol.specs.Rules.{no_lay_out}
use Rattle.protocol.specs.Lives.{Queue, after}
use Rattle.protocol.specs.Views.{laid_out}
use Rattle.protocol.specs.Throughout.{PromisedThroughout}
use Rattle.schedules.specs.Drains.{from_below}
use Rattle.schedules.specs.Rehearsals.{Ended, stops, rehearsed, rehearsal_calls, Stop as Stopped}
use Rattle.runs.specs.declared.fault.RunFault.{RunFault}
use Rattle.runs.specs.declared.rehearsing.Stop.{Stop}
use Rattle.runs.specs.declared.rehearsing.Rehearsed.{Rehearsed}
use Rattle.runs.specs.Faults.{run_reason}

module _ {F : Type 0} (reason : F → Reason) where
  -- the stop that an answer tells
  abbrev pub stop_view : Stop (RunFault F) → Stopped
  stop_view s = record { turn = s.turn; why = run_reason reason s.fault }

  -- where one turn leads: it stops at a fault, and else goes on to `next`
  abbrev pub went : {X : Type 0} → Result Unit (RunFault F) → ℕ → Queue X → Ended X → Ended X
  went (Ok u) turn q next = next
  went (Err f) turn q next = stops turn q (run_reason reason f)

  -- the answer d, and the store's model, the workers and the log that are left, are those of the rehearsal e
  pub record RehearsedAs {X : Type 0} (e : Ended X) (d : Rehearsed (RunFault F)) (m : Contents X) (ws : List (Worker X)) (l : Log X) : Type 0 where
    pub end : d.end ≡ e.queue.store.end
    pub stop : option_map stop_view d.stop ≡ e.stop
    pub store : m ≡ e.queue.store
    pub workers : ws ≡ e.queue.workers
    pub log : l ≡ e.queue.log

-- the rehearsal's calls make a life from the queue q on, and the promise holds at every point of it
pub record Life {X : Type 0} (blank : X) (q : Queue X) (items : List X) (turns : List ℕ) : Type 0 where
  pub lives : (rehearsed blank q items turns).queue ≡ after blank q (rehearsal_calls blank q items turns)
  pub promised : PromisedThroughout blank q (rehearsal_calls blank q items turns)

-- r is the rehearsal from the store s, the workers and the log on; where the lay out is refused, nothing has changed
abbrev pub Rehearses : {X F S : Type 0} → X → (F → Reason) → (S → Contents X) → ℕ → List X → List ℕ →
    (s : S) (ws : List (Worker X)) (l : Log X) (s' : S) (ws' : List (Worker X)) (l' : Log X) → Result (Rehearsed (RunFault F)) (RunFault F) → Type 0
Rehearses blank reason model start items turns s ws l s' ws' l' r =
    MatchResult r
    (λ d. (no_lay_out (model s) ws start ≡ None)
    × RehearsedAs reason (rehearsed blank (laid_out blank (size (model s)) ws l start) items turns) d (model s') ws' l'
    × Life blank (laid_out blank (size (model s)) ws l start) items turns)
    (λ f. (option_map from_below (no_lay_out (model s) ws start) ≡ Some (run_reason reason f)) × (s' ≡ s) × (ws' ≡ ws) × (l' ≡ l))
