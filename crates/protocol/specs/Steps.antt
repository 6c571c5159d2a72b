-- The rules of the calls as a relation: which event may happen in a state, and the state after it.
use Rattle.std.specs.Prelude.{◌≡◌, ℕ, ◌+◌, ◌%◌, ◌^◌, ◌<◌, Bool, true, false, cond, ◌⊎◌, [], ◌∷◌, ◌++◌, length, ℤ, pos, negsuc, Some, None, Option}
use Rattle.stores.specs.declared.cell.Cell.{Cell}
use Rattle.stores.specs.Model.{cell_item, cell_rank, cell_gap}
use Rattle.protocol.specs.declared.record.ReceiverPhase.{ReceiverPhase}
use Rattle.protocol.specs.declared.record.ReceiverPhase.TheVariants.{Probing, Busy, Found, Filled}
use Rattle.protocol.specs.declared.record.WorkerPhase.{WorkerPhase}
use Rattle.protocol.specs.declared.record.WorkerPhase.TheVariants.{Idle, Seeking, Doubting, Marked, Passed, Sure, Copied}
use Rattle.protocol.specs.declared.record.Worker.{Worker}
use Rattle.protocol.specs.declared.record.Entry.{Entry}
use Rattle.protocol.specs.declared.answer.Call.{Call}
use Rattle.protocol.specs.declared.answer.ReceiverAnswer.TheVariants.{Stepped as ReceiverStepped, Skipped, Announced}
use Rattle.protocol.specs.declared.answer.WorkerAnswer.TheVariants.{Over, Claimed, MovedOn, Waiting, GivenUp, Stepped as WorkerStepped, Delivered}
use Rattle.protocol.specs.Tests.{used, is_rank, covers, ended_by, is_open}
use Rattle.protocol.specs.State.{Permit, free, full, spent, Sizes, State, put}
use Rattle.protocol.specs.Events.{Event, History, not_made, refused, submitted, withdrew, received, worked, closed}

-- the end mark that a close leaves: the tail, if the mark was -1
abbrev pub closed_end : ℤ → ℕ → ℤ
closed_end end tail = cond (is_open end) (pos tail) end

module _ {X : Type 0} where
  -- the cell of the rank r, among n
  abbrev pub own_cell : ℕ → State X → ℕ → Cell X
  own_cell n s r = s.cells (r % n)

  -- the rank of worker k
  abbrev pub own_rank : State X → ℕ → ℕ
  own_rank s k = (s.workers k).rank

  -- it stands in its cell
  abbrev pub rank_stands : ℕ → State X → ℕ → Bool
  rank_stands n s k = is_rank (own_cell n s (own_rank s k)).rank (own_rank s k)

  -- the gap of its cell reaches it
  abbrev pub gap_reaches : ℕ → State X → ℕ → Bool
  gap_reaches n s k = covers (own_cell n s (own_rank s k)).gap (own_rank s k)

  -- one cell, the receiver's record and permit, or one worker's record replaced
  abbrev pub with_cell : State X → ℕ → Cell X → State X
  with_cell s i c = record { head = s.head; end = s.end; cells = put s.cells i c; tail = s.tail; phase = s.phase; hand = s.hand; permit = s.permit; workers = s.workers; log = s.log }

  abbrev pub with_receiver : State X → ℕ → ReceiverPhase → Option X → Permit → State X
  with_receiver s t p h m = record { head = s.head; end = s.end; cells = s.cells; tail = t; phase = p; hand = h; permit = m; workers = s.workers; log = s.log }

  abbrev pub with_worker : State X → ℕ → Worker X → State X
  with_worker s k w = record { head = s.head; end = s.end; cells = s.cells; tail = s.tail; phase = s.phase; hand = s.hand; permit = s.permit; workers = put s.workers k w; log = s.log }

  abbrev pub in_phase : Worker X → WorkerPhase → Worker X
  in_phase w p = record { phase = p; rank = w.rank; copy = w.copy }

  -- the state after each call, n being the number of cells
  abbrev pub after_submit : State X → X → State X
  after_submit s x = with_receiver s s.tail Probing (Some x) full

  abbrev pub after_withdraw : State X → State X
  after_withdraw s = with_receiver s s.tail Probing None free

  abbrev pub after_close : State X → State X
  after_close s = record { head = s.head; end = closed_end s.end s.tail; cells = s.cells; tail = s.tail; phase = s.phase; hand = s.hand; permit = spent; workers = s.workers; log = s.log }

  abbrev pub after_probe : State X → ReceiverPhase → State X
  after_probe s p = with_receiver s s.tail p s.hand s.permit

  abbrev pub after_skip : ℕ → State X → State X
  after_skip n s = with_receiver (with_cell s (s.tail % n) (cell_gap (pos s.tail) (own_cell n s s.tail))) (s.tail + 1) Probing s.hand s.permit

  abbrev pub after_fill : ℕ → State X → X → State X
  after_fill n s x = with_receiver (with_cell s (s.tail % n) (cell_item x (own_cell n s s.tail))) s.tail Filled s.hand s.permit

  abbrev pub after_announce : ℕ → State X → State X
  after_announce n s = with_receiver (with_cell s (s.tail % n) (cell_rank (pos s.tail) (own_cell n s s.tail))) (s.tail + 1) Probing None free

  -- worker k goes on to the phase p
  abbrev pub after_turn : State X → ℕ → WorkerPhase → State X
  after_turn s k p = with_worker s k (in_phase (s.workers k) p)

  -- worker k takes the next rank
  abbrev pub after_next_rank : State X → ℕ → State X
  after_next_rank s k = record { head = s.head + 1; end = s.end; cells = s.cells; tail = s.tail; phase = s.phase; hand = s.hand; permit = s.permit; workers = put s.workers k (record { phase = Seeking; rank = s.head; copy = (s.workers k).copy }); log = s.log }

  abbrev pub after_copy : ℕ → State X → ℕ → State X
  after_copy n s k = with_worker s k (record { phase = Copied; rank = own_rank s k; copy = (own_cell n s (own_rank s k)).item })

  -- the entry that worker k logs
  abbrev pub entry_of : State X → ℕ → Entry X
  entry_of s k = record { rank = own_rank s k; worker = k; item = (s.workers k).copy }

  abbrev pub after_deliver : ℕ → State X → ℕ → State X
  after_deliver n s k = record { head = s.head; end = s.end; cells = put s.cells (own_rank s k % n) (cell_rank (negsuc 0) (own_cell n s (own_rank s k))); tail = s.tail; phase = s.phase; hand = s.hand; permit = s.permit; workers = put s.workers k (in_phase (s.workers k) Idle); log = s.log ++ (entry_of s k ∷ []) }

-- one line for each accepted step, and two for a call that is not made or is refused: these change nothing
pub data Step {X : Type 0} (sizes : Sizes) (s : State X) : Event X → State X → Type 0 where
  is_not_made : (c : Call X) → Step sizes s (not_made c) s
  is_refused : (c : Call X) (number place : ℕ) → Step sizes s (refused c number place) s
  submits : (x : X) → s.permit ≡ free → used s.end ≡ false → s.hand ≡ None → Step sizes s (submitted x) (after_submit s x)
  withdraws : s.permit ≡ full → Step sizes s (withdrew s.hand) (after_withdraw s)
  closes : s.permit ≡ free → s.hand ≡ None → Step sizes s (closed (closed_end s.end s.tail)) (after_close s)
  -- the receiver's steps
  finds_used : (x : X) → s.permit ≡ full → s.hand ≡ Some x → s.phase ≡ Probing → s.tail < 2 ^ 40 → used (own_cell sizes.cells s s.tail).rank ≡ true →
      Step sizes s (received (ReceiverStepped Busy s.tail)) (after_probe s Busy)
  finds_free : (x : X) → s.permit ≡ full → s.hand ≡ Some x → s.phase ≡ Probing → s.tail < 2 ^ 40 → used (own_cell sizes.cells s s.tail).rank ≡ false →
      Step sizes s (received (ReceiverStepped Found s.tail)) (after_probe s Found)
  skips : (x : X) → s.permit ≡ full → s.hand ≡ Some x → s.phase ≡ Busy →
      Step sizes s (received (Skipped s.tail)) (after_skip sizes.cells s)
  fills : (x : X) → s.permit ≡ full → s.hand ≡ Some x → s.phase ≡ Found →
      Step sizes s (received (ReceiverStepped Filled s.tail)) (after_fill sizes.cells s x)
  announces : (x : X) → s.permit ≡ full → s.hand ≡ Some x → s.phase ≡ Filled →
      Step sizes s (received (Announced s.tail)) (after_announce sizes.cells s)
  -- the steps of worker k
  idle_finds_over : (k : ℕ) → k < sizes.workers → (s.workers k).phase ≡ Idle → ended_by s.end s.head ≡ true →
      Step sizes s (worked k (Over s.end)) s
  claims : (k : ℕ) → k < sizes.workers → (s.workers k).phase ≡ Idle → ended_by s.end s.head ≡ false → s.head < 2 ^ 40 →
      Step sizes s (worked k (Claimed s.head)) (after_next_rank s k)
  becomes_sure : (k : ℕ) → k < sizes.workers → ((s.workers k).phase ≡ Seeking) ⊎ ((s.workers k).phase ≡ Marked) → rank_stands sizes.cells s k ≡ true →
      Step sizes s (worked k (WorkerStepped Sure (own_rank s k))) (after_turn s k Sure)
  doubts : (k : ℕ) → k < sizes.workers → (s.workers k).phase ≡ Seeking → rank_stands sizes.cells s k ≡ false →
      Step sizes s (worked k (WorkerStepped Doubting (own_rank s k))) (after_turn s k Doubting)
  marks : (k : ℕ) → k < sizes.workers → (s.workers k).phase ≡ Doubting → gap_reaches sizes.cells s k ≡ true →
      Step sizes s (worked k (WorkerStepped Marked (own_rank s k))) (after_turn s k Marked)
  gives_up : (k : ℕ) → k < sizes.workers → (s.workers k).phase ≡ Doubting → gap_reaches sizes.cells s k ≡ false → ended_by s.end (own_rank s k) ≡ true →
      Step sizes s (worked k (GivenUp (own_rank s k))) (after_turn s k Idle)
  waits : (k : ℕ) → k < sizes.workers → (s.workers k).phase ≡ Doubting → gap_reaches sizes.cells s k ≡ false → ended_by s.end (own_rank s k) ≡ false →
      Step sizes s (worked k (Waiting (own_rank s k))) (after_turn s k Seeking)
  passes : (k : ℕ) → k < sizes.workers → (s.workers k).phase ≡ Marked → rank_stands sizes.cells s k ≡ false →
      Step sizes s (worked k (WorkerStepped Passed (own_rank s k))) (after_turn s k Passed)
  passed_finds_over : (k : ℕ) → k < sizes.workers → (s.workers k).phase ≡ Passed → ended_by s.end s.head ≡ true →
      Step sizes s (worked k (Over s.end)) (after_turn s k Idle)
  moves_on : (k : ℕ) → k < sizes.workers → (s.workers k).phase ≡ Passed → ended_by s.end s.head ≡ false → s.head < 2 ^ 40 →
      Step sizes s (worked k (MovedOn s.head)) (after_next_rank s k)
  copies : (k : ℕ) → k < sizes.workers → (s.workers k).phase ≡ Sure →
      Step sizes s (worked k (WorkerStepped Copied (own_rank s k))) (after_copy sizes.cells s k)
  delivers : (k : ℕ) → k < sizes.workers → (s.workers k).phase ≡ Copied → length s.log < sizes.room →
      Step sizes s (worked k (Delivered (own_rank s k) (s.workers k).copy)) (after_deliver sizes.cells s k)

-- a history leads from one state to another, one step after another
pub data Run {X : Type 0} (sizes : Sizes) : State X → History X → State X → Type 0 where
  here : {s : State X} → Run sizes s [] s
  then : {s s' t : State X} {e : Event X} {es : History X} → Step sizes s e s' → Run sizes s' es t → Run sizes s (e ∷ es) t

-- what an accepted lay out at `start` leaves
pub record LaidOut {X : Type 0} (sizes : Sizes) (start : ℕ) (s : State X) : Type 0 where
  pub some_cells : 0 < sizes.cells
  pub head_is : s.head ≡ start
  pub end_is : s.end ≡ negsuc 0
  pub ranks : (i : ℕ) → (s.cells i).rank ≡ negsuc 0
  pub gaps : (i : ℕ) → (s.cells i).gap ≡ negsuc 0
  pub tail_is : s.tail ≡ start
  pub phase_is : s.phase ≡ Probing
  pub hand_is : s.hand ≡ None
  pub permit_is : s.permit ≡ free
  pub idle : (k : ℕ) → (s.workers k).phase ≡ Idle
  pub log_is : s.log ≡ []
