-- A rehearsal: turns taken from a list in a queue that is laid out, then a withdrawal and a close.
use Rattle.std.specs.Prelude.{ℕ, zero, suc, ◌+◌, List, [], ◌∷◌, ◌++◌, Some, None, Option}
use Rattle.stores.specs.Refusals.{Reason}
use Rattle.protocol.specs.declared.answer.Call.{Call}
use Rattle.protocol.specs.declared.answer.Call.TheVariants.{Submit, Withdraw, ReceiverStep, WorkerStep, Close}
use Rattle.protocol.specs.declared.answer.Answer.{Answer}
use Rattle.protocol.specs.declared.answer.Answer.TheVariants.{NotMade, Refused, Submitted, Withdrew, Received, Worked, Closed}
use Rattle.protocol.specs.Lives.{Queue, make, after}
use Rattle.schedules.specs.Drains.{refusal}

-- the turn, from 0, at which a rehearsal stopped, and why
pub record Stop : Type 0 where
  pub turn : ℕ
  pub why : Reason

-- where turns lead
pub record Ended (X : Type 0) : Type 0 where
  pub queue : Queue X
  pub stop : Option Stop

module _ {X : Type 0} where
  -- the receiver's call, by the hand and the items left: with an empty hand it submits the next item, if there is one
  abbrev pub receiver_call : Option X → List X → Option (Call X)
  receiver_call (Some x) items = Some ReceiverStep
  receiver_call None [] = None
  receiver_call None (x ∷ items) = Some (Submit x)

  -- the call of a turn: party 0 is the receiver, k + 1 is worker k
  abbrev pub turn_call : Queue X → List X → ℕ → Option (Call X)
  turn_call q items zero = receiver_call q.receiver.hand items
  turn_call q items (suc k) = Some (WorkerStep k)

  abbrev pub rest_of : List X → List X
  rest_of [] = []
  rest_of (x ∷ items) = items

  -- the items left after a call
  abbrev pub items_after : Call X → List X → List X
  items_after (Submit x) items = rest_of items
  items_after Withdraw items = items
  items_after ReceiverStep items = items
  items_after (WorkerStep k) items = items
  items_after Close items = items

  -- it stops at this turn
  abbrev pub stops : ℕ → Queue X → Reason → Ended X
  stops turn q why = record { queue = q; stop = Some (record { turn = turn; why = why }) }

  -- a refused call stops it; after any other it goes on
  abbrev pub by_answer : Answer X → ℕ → Queue X → Ended X → Ended X
  by_answer NotMade turn q goes_on = goes_on
  by_answer (Refused number place) turn q goes_on = stops turn q (refusal number place)
  by_answer Submitted turn q goes_on = goes_on
  by_answer (Withdrew h) turn q goes_on = goes_on
  by_answer (Received a) turn q goes_on = goes_on
  by_answer (Worked a) turn q goes_on = goes_on
  by_answer (Closed e) turn q goes_on = goes_on

  -- a turn that has no call stops it too: 14, no item is left
  abbrev pub by_call : X → Option (Call X) → ℕ → Queue X → List X → (Queue X → List X → Ended X) → Ended X
  by_call blank None turn q items goes_on = stops turn q (refusal 14 turn)
  by_call blank (Some c) turn q items goes_on =
      by_answer (make blank q c).answer turn (make blank q c).queue (goes_on (make blank q c).queue (items_after c items))

  -- the turns one after the other, counted from `turn` on
  abbrev pub take_turns : X → ℕ → Queue X → List X → List ℕ → Ended X
  take_turns blank turn q items [] = record { queue = q; stop = None }
  take_turns blank turn q items (party ∷ turns) =
      by_call blank (turn_call q items party) turn q items (λ new left. take_turns blank (turn + 1) new left turns)

  -- the calls that the turns make
  abbrev pub calls_by_answer : Answer X → List (Call X) → List (Call X)
  calls_by_answer NotMade rest = rest
  calls_by_answer (Refused number place) rest = []
  calls_by_answer Submitted rest = rest
  calls_by_answer (Withdrew h) rest = rest
  calls_by_answer (Received a) rest = rest
  calls_by_answer (Worked a) rest = rest
  calls_by_answer (Closed e) rest = rest

  abbrev pub calls_by_call : X → Option (Call X) → Queue X → List X → (Queue X → List X → List (Call X)) → List (Call X)
  calls_by_call blank None q items rest = []
  calls_by_call blank (Some c) q items rest =
      c ∷ calls_by_answer (make blank q c).answer (rest (make blank q c).queue (items_after c items))

  abbrev pub turn_calls : X → Queue X → List X → List ℕ → List (Call X)
  turn_calls blank q items [] = []
  turn_calls blank q items (party ∷ turns) =
      calls_by_call blank (turn_call q items party) q items (λ new left. turn_calls blank new left turns)

  -- after the last turn: a withdrawal, which is not made with an empty hand, and a close
  abbrev pub last_calls : List (Call X)
  last_calls = Withdraw ∷ (Close ∷ [])

  -- a rehearsal of these turns from the queue q on, and all the calls that it makes
  abbrev pub rehearsed : X → Queue X → List X → List ℕ → Ended X
  rehearsed blank q items turns =
      record { queue = after blank (take_turns blank 0 q items turns).queue last_calls; stop = (take_turns blank 0 q items turns).stop }

  abbrev pub rehearsal_calls : X → Queue X → List X → List ℕ → List (Call X)
  rehearsal_calls blank q items turns = turn_calls blank q items turns ++ last_calls
