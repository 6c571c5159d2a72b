-- The invariant of a life: what holds of every state, beside the account of the history that led to it.
use Rattle.std.proofs.Common.{◌≡◌, ℕ, ◌%◌, ◌<◌, ◌≤◌, false, ◌⊎◌, List, ℤ, pos, Some, None, Option}
use Rattle.stores.specs.declared.cell.Cell.{Cell}
use Rattle.protocol.specs.declared.record.ReceiverPhase.{ReceiverPhase}
use Rattle.protocol.specs.declared.record.ReceiverPhase.TheVariants.{Probing, Busy, Found, Filled}
use Rattle.protocol.specs.declared.record.WorkerPhase.{WorkerPhase}
use Rattle.protocol.specs.declared.record.WorkerPhase.TheVariants.{Idle, Seeking, Doubting, Marked, Passed, Sure, Copied}
use Rattle.protocol.specs.declared.record.Worker.{Worker}
use Rattle.protocol.specs.declared.record.Entry.{Entry}
use Rattle.protocol.specs.Tests.{used}
use Rattle.protocol.specs.State.{Permit, spent, Sizes, State}
use Rattle.protocol.specs.Account.{Announcement, Account, In, times, times_announced, undelivered, CutOff, cutting}
use Rattle.protocol.specs.Promise.{announcement, InCell, InLog, used_cells}

-- a stored number is a rank of at least r
abbrev pub AtLeast : ℤ → ℕ → Type 0
AtLeast v r = (g : ℕ) × (v ≡ pos g) × (r ≤ g)

-- the ring: cells, tail and log against what is announced and skipped
pub record Ring {X : Type 0} (n start : ℕ) (cells : ℕ → Cell X) (tail : ℕ) (announced : List (Announcement X)) (skipped : List ℕ) (log : List (Entry X)) : Type 0 where
  pub some_cells : 0 < n
  pub cell_is : (i r : ℕ) → (cells i).rank ≡ pos r → (r % n ≡ i) × In (announcement r (cells i).item) announced × (times r log ≡ 0)
  pub gap_below : (i g : ℕ) → (cells i).gap ≡ pos g → g < tail
  pub settled : (r : ℕ) → start ≤ r → r < tail → ((x : X) × In (announcement r x) announced) ⊎ In r skipped
  pub kept : (r : ℕ) (x : X) → In (announcement r x) announced → InCell n cells log r x ⊎ InLog n cells log r x
  pub announced_once : (r : ℕ) → times_announced r announced ≤ 1
  pub announced_below : (r : ℕ) (x : X) → In (announcement r x) announced → r < tail
  pub skipped_below : (r : ℕ) → In r skipped → r < tail
  pub announced_not_skipped : (r : ℕ) (x : X) → In (announcement r x) announced → In r skipped → ⊥
  pub skipped_gap : (r : ℕ) → In r skipped → AtLeast (cells (r % n)).gap r
  pub log_announced : (e : Entry X) → In e log → In (announcement e.rank e.item) announced
  pub log_below : (r : ℕ) → tail ≤ r → times r log ≡ 0
  pub count : used_cells cells n ≡ undelivered announced log

-- the ranks handed out: who holds one, what is logged, what is let go and why
pub record Ranks {X : Type 0} (workers start head : ℕ) (held : ℕ → Option ℕ) (claimed : List ℕ) (log : List (Entry X)) (let_go : List ℕ) (skipped : List ℕ) (cut : Option ℕ) : Type 0 where
  pub low : start ≤ head
  pub claimed_between : (r : ℕ) → In r claimed → (start ≤ r) × (r < head)
  pub held_claimed : (k r : ℕ) → held k ≡ Some r → In r claimed
  pub held_in_table : (k r : ℕ) → held k ≡ Some r → k < workers
  pub held_by_one : (j k r : ℕ) → held j ≡ Some r → held k ≡ Some r → j ≡ k
  pub held_not_else : (k r : ℕ) → held k ≡ Some r → (times r log ≡ 0) × (In r let_go → ⊥)
  pub let_go_not_logged : (r : ℕ) → In r let_go → times r log ≡ 0
  pub let_go_claimed : (r : ℕ) → In r let_go → In r claimed
  pub logged_claimed : (e : Entry X) → In e log → In e.rank claimed
  pub fresh : (r : ℕ) → head ≤ r → times r log ≡ 0
  pub fate : (r : ℕ) → In r claimed → ((k : ℕ) × (held k ≡ Some r)) ⊎ ((times r log ≡ 1) ⊎ In r let_go)
  pub let_go_why : (r : ℕ) → In r let_go → In r skipped ⊎ CutOff cut r

-- a worker's record, by its phase, against what it holds (h) and its cell
abbrev pub WorkerFits : {X : Type 0} → ℕ → (ℕ → Cell X) → List ℕ → WorkerPhase → Worker X → Option ℕ → Type 0
WorkerFits n cells skipped Idle w h = h ≡ None
WorkerFits n cells skipped Seeking w h = h ≡ Some w.rank
WorkerFits n cells skipped Doubting w h = h ≡ Some w.rank
WorkerFits n cells skipped Marked w h = (h ≡ Some w.rank) × AtLeast (cells (w.rank % n)).gap w.rank
WorkerFits n cells skipped Passed w h = (h ≡ Some w.rank) × In w.rank skipped
WorkerFits n cells skipped Sure w h = (h ≡ Some w.rank) × ((cells (w.rank % n)).rank ≡ pos w.rank)
WorkerFits n cells skipped Copied w h = (h ≡ Some w.rank) × ((cells (w.rank % n)).rank ≡ pos w.rank) × ((cells (w.rank % n)).item ≡ w.copy)

abbrev pub Workers : {X : Type 0} → ℕ → (ℕ → Cell X) → List ℕ → (ℕ → Worker X) → (ℕ → Option ℕ) → Type 0
Workers n cells skipped ws held = (k : ℕ) → WorkerFits n cells skipped (ws k).phase (ws k) (held k)

-- the receiver's phase against the cell of its tail, c, and its hand, h
abbrev pub ReceiverFits : {X : Type 0} → Cell X → Option X → ReceiverPhase → Type 0
ReceiverFits c h Probing = Unit {0}
ReceiverFits c h Busy = Unit {0}
ReceiverFits c h Found = used c.rank ≡ false
ReceiverFits c h Filled = (used c.rank ≡ false) × (h ≡ Some c.item)

-- the receiver's hand holds the last item; once the end mark is set it is the tail, and no permit is left
pub record Receiver {X : Type 0} (c : Cell X) (hand : Option X) (phase : ReceiverPhase) (last : Option X) (tail : ℕ) (end : ℤ) (permit : Permit) : Type 0 where
  pub fits : ReceiverFits c hand phase
  pub last_is : (x : X) → hand ≡ Some x → last ≡ Some x
  pub end_at : (e : ℕ) → end ≡ pos e → (e ≡ tail) × (permit ≡ spent)

pub record Invariant {X : Type 0} (z : Sizes) (start : ℕ) (s : State X) (a : Account X) : Type 0 where
  pub ring : Ring z.cells start s.cells s.tail a.announced a.skipped s.log
  pub ranks : Ranks z.workers start s.head a.held a.claimed s.log a.let_go a.skipped a.cut_from
  pub workers : Workers z.cells s.cells a.skipped s.workers a.held
  pub receiver : Receiver (s.cells (s.tail % z.cells)) s.hand s.phase a.last s.tail s.end s.permit
  pub cut_is : a.cut_from ≡ cutting s.end None
  pub log_is : s.log ≡ a.delivered

-- a change of the cells leaves a rank that stands, with its item
abbrev pub Spares : {X : Type 0} → (ℕ → Cell X) → (ℕ → Cell X) → ℕ → Type 0
Spares cells cells' r = (i : ℕ) → (cells i).rank ≡ pos r → ((cells' i).rank ≡ pos r) × ((cells' i).item ≡ (cells i).item)

-- and no gap gets smaller
abbrev pub GapsGrow : {X : Type 0} → (ℕ → Cell X) → (ℕ → Cell X) → Type 0
GapsGrow cells cells' = (i r : ℕ) → AtLeast (cells i).gap r → AtLeast (cells' i).gap r
