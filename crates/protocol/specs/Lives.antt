-- A queue as its calls hold it, and its life: one call after another.
use Rattle.std.specs.Prelude.{List, [], ◌∷◌, Some, None, Ok, Err, Option, Result}
use Rattle.stores.specs.Refusals.{Reason}
use Rattle.stores.specs.Model.{Contents, with_end}
use Rattle.protocol.specs.declared.record.Worker.{Worker}
use Rattle.protocol.specs.declared.answer.Call.{Call}
use Rattle.protocol.specs.declared.answer.Call.TheVariants.{Submit, Withdraw, ReceiverStep, WorkerStep, Close}
use Rattle.protocol.specs.declared.answer.ReceiverAnswer.{ReceiverAnswer}
use Rattle.protocol.specs.declared.answer.ReceiverAnswer.TheVariants.{Stepped, Skipped, Announced}
use Rattle.protocol.specs.declared.answer.WorkerAnswer.{WorkerAnswer}
use Rattle.protocol.specs.declared.answer.Answer.{Answer}
use Rattle.protocol.specs.declared.answer.Answer.TheVariants.{NotMade, Refused, Submitted, Withdrew, Received, Worked, Closed}
use Rattle.protocol.specs.State.{Permit, free, full, spent}
use Rattle.protocol.specs.Records.{Receiver, Log}
use Rattle.protocol.specs.Rules as rules
use Rattle.protocol.specs.Rules.{no_submit, handed, emptied, no_close, closed_at, receiver_step, worker_step}

pub record Queue (X : Type 0) : Type 0 where
  pub store : Contents X
  pub receiver : Receiver X
  pub workers : List (Worker X)
  pub log : Log X
  pub permit : Permit

-- a queue of these parts
abbrev pub queue_of : {X : Type 0} → Contents X → Receiver X → List (Worker X) → Log X → Permit → Queue X
queue_of m r ws l p = record { store = m; receiver = r; workers = ws; log = l; permit = p }

pub record Made (X : Type 0) : Type 0 where
  pub answer : Answer X
  pub queue : Queue X

-- the permit that a receiver step leaves
abbrev pub left_by : ReceiverAnswer → Permit
left_by (Stepped p t) = full
left_by (Skipped r) = full
left_by (Announced r) = free

module _ {X : Type 0} where
  abbrev pub refused_by : Queue X → Reason → Made X
  refused_by q why = record { answer = Refused why.number why.place; queue = q }

  abbrev pub not_made : Queue X → Made X
  not_made q = record { answer = NotMade; queue = q }

  abbrev pub with_receiver : Queue X → Receiver X → Permit → Queue X
  with_receiver q r p = record { store = q.store; receiver = r; workers = q.workers; log = q.log; permit = p }

  abbrev pub submitting : Queue X → X → Option Reason → Made X
  submitting q x None = record { answer = Submitted; queue = with_receiver q (handed q.receiver x) full }
  submitting q x (Some why) = refused_by q why

  abbrev pub receiving : Queue X → rules.Received X → Result ReceiverAnswer Reason → Made X
  receiving q after (Ok a) =
      record {
        answer = Received a;
        queue = record { store = after.store; receiver = after.receiver; workers = q.workers; log = q.log; permit = left_by a };
      }
  receiving q after (Err why) = refused_by q why

  abbrev pub working : Queue X → rules.Worked X → Result (WorkerAnswer X) Reason → Made X
  working q after (Ok a) =
      record {
        answer = Worked a;
        queue = record { store = after.store; receiver = q.receiver; workers = after.workers; log = after.log; permit = q.permit };
      }
  working q after (Err why) = refused_by q why

  abbrev pub closing : Queue X → Option Reason → Made X
  closing q None =
      record {
        answer = Closed (closed_at q.receiver q.store);
        queue = record { store = with_end q.store (closed_at q.receiver q.store); receiver = q.receiver; workers = q.workers; log = q.log; permit = spent };
      }
  closing q (Some why) = refused_by q why

  -- by the permit at hand: submit and close take a free one, withdraw and the receiver step a full one
  abbrev pub with_free : Permit → Queue X → Made X → Made X
  with_free free q m = m
  with_free full q m = not_made q
  with_free spent q m = not_made q

  abbrev pub with_full : Permit → Queue X → Made X → Made X
  with_full free q m = not_made q
  with_full full q m = m
  with_full spent q m = not_made q

  -- one call; `blank` stands for what lies past the last cell
  abbrev pub make : X → Queue X → Call X → Made X
  make blank q (Submit x) = with_free q.permit q (submitting q x (no_submit q.receiver q.store))
  make blank q Withdraw =
      with_full q.permit q (record { answer = Withdrew q.receiver.hand; queue = with_receiver q (emptied q.receiver) free })
  make blank q ReceiverStep =
      with_full q.permit q (receiving q (receiver_step blank q.receiver q.store) (receiver_step blank q.receiver q.store).answer)
  make blank q (WorkerStep k) =
      working q (worker_step blank k q.workers q.store q.log) (worker_step blank k q.workers q.store q.log).answer
  make blank q Close = with_free q.permit q (closing q (no_close q.receiver q.store))

  -- a list of calls: the queue after them, and their answers
  abbrev pub after : X → Queue X → List (Call X) → Queue X
  after blank q [] = q
  after blank q (c ∷ cs) = after blank (make blank q c).queue cs

  abbrev pub answers : X → Queue X → List (Call X) → List (Answer X)
  answers blank q [] = []
  answers blank q (c ∷ cs) = (make blank q c).answer ∷ answers blank (make blank q c).queue cs

-- slots with what came written from the first on, as far as there is room
abbrev pub filled : {V : Type 0} → List V → List V → List V
filled [] came = []
filled (s ∷ slots) [] = s ∷ slots
filled (s ∷ slots) (v ∷ came) = v ∷ filled slots came
