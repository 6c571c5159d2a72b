-- The rules of the queue's calls: for every input the answer or the refusal, and what is left.
use Rattle.std.specs.Prelude.{ℕ, ◌+◌, ◌-◌, ◌%◌, cond, ◌&&◌, List, length, ℤ, pos, negsuc, Some, None, Ok, Err, Option, Result, ◌==◌, nat_le, nat_lt, slice_set}
use Rattle.std.specs.List.{slice_get}
use Rattle.stores.specs.declared.refusal.Layer.TheVariants.{Queue}
use Rattle.stores.specs.Refusals.{Reason, reason_by}
use Rattle.stores.specs.Model.{Contents, size, cell_of, with_item, with_rank, with_gap, with_head}
use Rattle.protocol.specs.declared.record.ReceiverPhase.{ReceiverPhase}
use Rattle.protocol.specs.declared.record.ReceiverPhase.TheVariants.{Probing, Busy, Found, Filled}
use Rattle.protocol.specs.declared.record.WorkerPhase.{WorkerPhase}
use Rattle.protocol.specs.declared.record.WorkerPhase.TheVariants.{Idle, Seeking, Doubting, Marked, Passed, Sure, Copied}
use Rattle.protocol.specs.declared.record.Worker.{Worker}
use Rattle.protocol.specs.declared.answer.ReceiverAnswer.{ReceiverAnswer}
use Rattle.protocol.specs.declared.answer.ReceiverAnswer.TheVariants as receiver
use Rattle.protocol.specs.declared.answer.WorkerAnswer.{WorkerAnswer}
use Rattle.protocol.specs.declared.answer.WorkerAnswer.TheVariants as worker
use Rattle.protocol.specs.Tests.{limit, used, is_rank, covers, ended_by, is_open, is_idle}
use Rattle.protocol.specs.Records.{Receiver, Log}

-- a refusal of the queue
abbrev pub refusal : ℕ → ℕ → Reason
refusal number place = reason_by Queue number place

-- a call that needs a cell, over a store without one
abbrev pub no_cells : {X : Type 0} → Contents X → Option Reason → Option Reason
no_cells m else = cond (size m == 0) (Some (refusal 1 0)) else

-- what a call leaves: the new value, or the old one where it is refused
abbrev pub unless : {S : Type 0} → Option Reason → S → S → S
unless None new old = new
unless (Some why) new old = old

-- ---- the receiver's calls; `blank` stands for what lies past the last cell

abbrev pub hand_full : {X : Type 0} → Option X → Option Reason
hand_full None = None
hand_full (Some x) = Some (refusal 5 0)

-- submit: 1, 4, 5
abbrev pub no_submit : {X : Type 0} → Receiver X → Contents X → Option Reason
no_submit r m = no_cells m (cond (used m.end) (Some (refusal 4 0)) (hand_full r.hand))

abbrev pub handed : {X : Type 0} → Receiver X → X → Receiver X
handed r x = record { tail = r.tail; phase = Probing; hand = Some x }

-- withdraw is never refused
abbrev pub emptied : {X : Type 0} → Receiver X → Receiver X
emptied r = record { tail = r.tail; phase = Probing; hand = None }

-- close: 1, 5; it answers the end mark, which it sets to the tail if the queue is open
abbrev pub no_close : {X : Type 0} → Receiver X → Contents X → Option Reason
no_close r m = no_cells m (hand_full r.hand)

abbrev pub closed_at : {X : Type 0} → Receiver X → Contents X → ℤ
closed_at r m = cond (is_open m.end) (pos r.tail) m.end

-- a receiver step
pub record Received (X : Type 0) : Type 0 where
  pub answer : Result ReceiverAnswer Reason
  pub receiver : Receiver X
  pub store : Contents X

module _ {X : Type 0} (blank : X) (r : Receiver X) (m : Contents X) where
  abbrev pub no_step : ℕ → Received X
  no_step number = record { answer = Err (refusal number 0); receiver = r; store = m }

  -- only the phase changes
  abbrev pub to_phase : ReceiverPhase → Contents X → Received X
  to_phase p new =
      record { answer = Ok (receiver.Stepped p r.tail); receiver = record { tail = r.tail; phase = p; hand = r.hand }; store = new }

  abbrev pub tail_cell : ℕ
  tail_cell = r.tail % size m

  abbrev pub step_in : ReceiverPhase → X → Received X
  step_in Probing x =
      cond (nat_le limit r.tail) (no_step 6) (cond (used (cell_of blank m tail_cell).rank) (to_phase Busy m) (to_phase Found m))
  step_in Busy x =
      record {
        answer = Ok (receiver.Skipped r.tail);
        receiver = record { tail = r.tail + 1; phase = Probing; hand = r.hand };
        store = with_gap blank m tail_cell (pos r.tail);
      }
  step_in Found x = to_phase Filled (with_item blank m tail_cell x)
  step_in Filled x =
      record {
        answer = Ok (receiver.Announced r.tail);
        receiver = record { tail = r.tail + 1; phase = Probing; hand = None };
        store = with_rank blank m tail_cell (pos r.tail);
      }

  abbrev pub step_with : Option X → Received X
  step_with None = no_step 9
  step_with (Some x) = step_in r.phase x

  -- 1, 9, 6
  abbrev pub receiver_step : Received X
  receiver_step = cond (size m == 0) (no_step 1) (step_with r.hand)

-- ---- a worker step

-- of one record: the answer with the record's new value; the store and the log after
pub record Moved (X : Type 0) : Type 0 where
  pub answer : WorkerAnswer X
  pub worker : Worker X

pub record Stepped (X : Type 0) : Type 0 where
  pub answer : Result (Moved X) Reason
  pub store : Contents X
  pub log : Log X

module _ {X : Type 0} (blank : X) (k : ℕ) (w : Worker X) (m : Contents X) (l : Log X) where
  abbrev pub refused : ℕ → ℕ → Stepped X
  refused number place = record { answer = Err (refusal number place); store = m; log = l }

  abbrev pub becomes : WorkerAnswer X → WorkerPhase → ℕ → X → Contents X → Log X → Stepped X
  becomes a p r x new log =
      record { answer = Ok (record { answer = a; worker = record { phase = p; rank = r; copy = x } }); store = new; log = log }

  -- only the phase changes
  abbrev pub goes : WorkerAnswer X → WorkerPhase → Stepped X
  goes a p = becomes a p w.rank w.copy m l

  abbrev pub own_cell : ℕ
  own_cell = w.rank % size m

  -- the next rank, if there is one
  abbrev pub takes_next : (ℕ → WorkerAnswer X) → Stepped X
  takes_next a = cond (nat_le limit m.head) (refused 6 0) (becomes (a m.head) Seeking m.head w.copy (with_head m (m.head + 1)) l)

  -- the same, unless the queue is over
  abbrev pub takes : (ℕ → WorkerAnswer X) → Stepped X
  takes a = cond (ended_by m.end m.head) (goes (worker.Over m.end) Idle) (takes_next a)

  -- by whether the own rank stands in its cell; `absent` is the phase where it does not
  abbrev pub looks : WorkerPhase → Stepped X
  looks absent =
      cond (is_rank (cell_of blank m own_cell).rank w.rank) (goes (worker.Stepped Sure w.rank) Sure)
      (goes (worker.Stepped absent w.rank) absent)

  abbrev pub entered : Log X
  entered = record { entries = slice_set l.entries l.count (record { rank = w.rank; worker = k; item = w.copy }); count = l.count + 1 }

  abbrev pub work_in : WorkerPhase → Stepped X
  work_in Idle = takes worker.Claimed
  work_in Seeking = looks Doubting
  work_in Doubting =
      cond (covers (cell_of blank m own_cell).gap w.rank) (goes (worker.Stepped Marked w.rank) Marked)
      (cond (ended_by m.end w.rank) (goes (worker.GivenUp w.rank) Idle) (goes (worker.Waiting w.rank) Seeking))
  work_in Marked = looks Passed
  work_in Passed = takes worker.MovedOn
  work_in Sure = becomes (worker.Stepped Copied w.rank) Copied w.rank (cell_of blank m own_cell).item m l
  work_in Copied =
      cond (nat_le (length l.entries) l.count) (refused 7 k)
      (becomes (worker.Delivered w.rank w.copy) Idle w.rank w.copy (with_rank blank m own_cell (negsuc 0)) entered)

  -- 8, of a worker that is not idle
  abbrev pub one_step : Stepped X
  one_step = cond (is_idle w.phase) (work_in w.phase) (cond (nat_le m.head w.rank) (refused 8 k) (work_in w.phase))

-- in the table of workers
pub record Worked (X : Type 0) : Type 0 where
  pub answer : Result (WorkerAnswer X) Reason
  pub workers : List (Worker X)
  pub store : Contents X
  pub log : Log X

abbrev pub told : {X : Type 0} → Result (Moved X) Reason → Result (WorkerAnswer X) Reason
told (Ok v) = Ok v.answer
told (Err why) = Err why

abbrev pub written : {X : Type 0} → List (Worker X) → ℕ → Result (Moved X) Reason → List (Worker X)
written ws k (Ok v) = slice_set ws k v.worker
written ws k (Err why) = ws

abbrev pub in_table : {X : Type 0} → List (Worker X) → ℕ → Stepped X → Worked X
in_table ws k s = record { answer = told s.answer; workers = written ws k s.answer; store = s.store; log = s.log }

module _ {X : Type 0} (blank : X) (k : ℕ) (ws : List (Worker X)) (m : Contents X) (l : Log X) where
  abbrev pub not_worked : ℕ → ℕ → Worked X
  not_worked number place = record { answer = Err (refusal number place); workers = ws; store = m; log = l }

  abbrev pub step_of : Option (Worker X) → Worked X
  step_of None = not_worked 10 k
  step_of (Some w) = in_table ws k (one_step blank k w m l)

  -- 1, 10, 8, then by phase
  abbrev pub worker_step : Worked X
  worker_step = cond (size m == 0) (not_worked 1 0) (step_of (slice_get ws k))

-- ---- lay out: 1, 2, 3

abbrev pub no_lay_out : {X : Type 0} → Contents X → List (Worker X) → ℕ → Option Reason
no_lay_out m ws start =
    no_cells m
    (cond (nat_lt (limit - 1) start) (Some (refusal 2 0))
    (cond (nat_lt 0 (length ws) && nat_le (length ws) 64) None (Some (refusal 3 (length ws)))))

abbrev pub laid_receiver : {X : Type 0} → ℕ → Receiver X
laid_receiver start = record { tail = start; phase = Probing; hand = None }

-- a worker made idle keeps its rank and copy
abbrev pub idled : {X : Type 0} → Worker X → Worker X
idled w = record { phase = Idle; rank = w.rank; copy = w.copy }

-- the entry memory stays
abbrev pub emptied_log : {X : Type 0} → Log X → Log X
emptied_log l = record { entries = l.entries; count = 0 }
