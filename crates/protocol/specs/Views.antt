-- A queue as its calls hold it, seen as a state of the relation; and the history of a list of calls.
use Rattle.std.specs.Prelude.{ℕ, List, [], ◌∷◌, map, length, take, slice_index_or}
use Rattle.stores.specs.Model.{size, cell_of, cleared}
use Rattle.protocol.specs.declared.record.WorkerPhase.TheVariants.{Idle}
use Rattle.protocol.specs.declared.record.Worker.{Worker}
use Rattle.protocol.specs.declared.answer.Call.{Call}
use Rattle.protocol.specs.declared.answer.Call.TheVariants.{Submit, Withdraw, ReceiverStep, WorkerStep, Close}
use Rattle.protocol.specs.declared.answer.WorkerAnswer.{WorkerAnswer}
use Rattle.protocol.specs.declared.answer.Answer.{Answer}
use Rattle.protocol.specs.declared.answer.Answer.TheVariants.{NotMade, Refused, Submitted, Withdrew, Received, Worked, Closed}
use Rattle.protocol.specs.Records.{Log}
use Rattle.protocol.specs.Rules.{laid_receiver, idled, emptied_log}
use Rattle.protocol.specs.State.{free, Sizes, State}
use Rattle.protocol.specs.Events.{Event, not_made, refused, submitted, withdrew, received, worked, closed}
use Rattle.protocol.specs.Lives.{Queue, make}

module _ {X : Type 0} where
  abbrev pub sizes : Queue X → Sizes
  sizes q = record { cells = size q.store; workers = length q.workers; room = length q.log.entries }

  -- what stands past the last worker
  abbrev pub no_worker : X → Worker X
  no_worker blank = record { phase = Idle; rank = 0; copy = blank }

  abbrev pub view : X → Queue X → State X
  view blank q =
      record {
        head = q.store.head;
        end = q.store.end;
        cells = cell_of blank q.store;
        tail = q.receiver.tail;
        phase = q.receiver.phase;
        hand = q.receiver.hand;
        permit = q.permit;
        workers = λ k. slice_index_or q.workers k (no_worker blank);
        log = take q.log.count q.log.entries;
      }

  -- the event of a call with its answer
  abbrev pub submitted_by : Call X → Event X
  submitted_by (Submit x) = submitted x
  submitted_by Withdraw = not_made Withdraw
  submitted_by ReceiverStep = not_made ReceiverStep
  submitted_by (WorkerStep k) = not_made (WorkerStep k)
  submitted_by Close = not_made Close

  abbrev pub worked_by : Call X → WorkerAnswer X → Event X
  worked_by (Submit x) a = not_made (Submit x)
  worked_by Withdraw a = not_made Withdraw
  worked_by ReceiverStep a = not_made ReceiverStep
  worked_by (WorkerStep k) a = worked k a
  worked_by Close a = not_made Close

  abbrev pub event : Call X → Answer X → Event X
  event c NotMade = not_made c
  event c (Refused number place) = refused c number place
  event c Submitted = submitted_by c
  event c (Withdrew h) = withdrew h
  event c (Received a) = received a
  event c (Worked a) = worked_by c a
  event c (Closed e) = closed e

  abbrev pub history : X → Queue X → List (Call X) → List (Event X)
  history blank q [] = []
  history blank q (c ∷ cs) = event c (make blank q c).answer ∷ history blank (make blank q c).queue cs

  -- what an accepted lay out at `start` leaves of n cells, these workers and this log
  abbrev pub laid_out : X → ℕ → List (Worker X) → Log X → ℕ → Queue X
  laid_out blank n ws l start =
      record { store = cleared blank n start; receiver = laid_receiver start; workers = map idled ws; log = emptied_log l; permit = free }
