-- What is promised of every life of a queue: of each state that a history leads to, against the account of that history.
use Rattle.std.specs.Prelude.{◌≡◌, ℕ, zero, suc, ◌+◌, ◌*◌, ◌%◌, ◌<◌, ◌≤◌, Bool, true, false, ◌⊎◌, List, [], ◌∷◌, ◌++◌, ℤ, pos, Some, None, ◌==◌, ◌≢◌}
use Rattle.stores.specs.declared.cell.Cell.{Cell}
use Rattle.protocol.specs.declared.record.WorkerPhase.TheVariants.{Idle}
use Rattle.protocol.specs.declared.record.Entry.{Entry}
use Rattle.protocol.specs.declared.answer.ReceiverAnswer.{ReceiverAnswer}
use Rattle.protocol.specs.declared.answer.ReceiverAnswer.TheVariants.{Stepped as ReceiverStepped, Skipped, Announced}
use Rattle.protocol.specs.declared.answer.WorkerAnswer.TheVariants.{Over, MovedOn, Delivered}
use Rattle.protocol.specs.Tests.{used}
use Rattle.protocol.specs.State.{Sizes, State}
use Rattle.protocol.specs.Events.{Event, History, not_made, refused, submitted, withdrew, received, worked, closed}
use Rattle.protocol.specs.Steps.{Run, LaidOut}
use Rattle.protocol.specs.Account.{Announcement, Account, In, one_if, times, times_announced, undelivered, CutOff, note, noted, account}

-- exactly one of three
abbrev pub OneOf : Type 0 → Type 0 → Type 0 → Type 0
OneOf P Q R = (P × (¬ Q) × (¬ R)) ⊎ (((¬ P) × Q × (¬ R)) ⊎ ((¬ P) × (¬ Q) × R))

abbrev pub is_announced : ReceiverAnswer → Bool
is_announced (ReceiverStepped p t) = false
is_announced (Skipped r) = false
is_announced (Announced r) = true

module _ {X : Type 0} where
  abbrev pub announcement : ℕ → X → Announcement X
  announcement r x = record { rank = r; item = x }

  abbrev pub entry : ℕ → ℕ → X → Entry X
  entry r k x = record { rank = r; worker = k; item = x }

  -- the cell of r has the rank r and the very item x, which is in no log entry
  abbrev pub InCell : ℕ → (ℕ → Cell X) → List (Entry X) → ℕ → X → Type 0
  InCell n cells log r x = ((cells (r % n)).rank ≡ pos r) × ((cells (r % n)).item ≡ x) × (times r log ≡ 0)

  -- x is in exactly one log entry under its rank r, and in no cell
  abbrev pub InLog : ℕ → (ℕ → Cell X) → List (Entry X) → ℕ → X → Type 0
  InLog n cells log r x = ((i : ℕ) → (cells i).rank ≢ pos r) × ((k : ℕ) × In (entry r k x) log) × (times r log ≡ 1)

  -- a worker holds the rank r
  abbrev pub Held : Account X → ℕ → Type 0
  Held a r = (k : ℕ) × (a.held k ≡ Some r)

  -- how many of the first m cells are used
  unfoldable pub used_cells : (ℕ → Cell X) → ℕ → ℕ
  used_cells cells zero = 0
  used_cells cells (suc m) = used_cells cells m + one_if (used (cells m).rank)

  pub record NothingLostOrDoubled (sizes : Sizes) (s : State X) (a : Account X) : Type 0 where
    -- a rank is announced at most once
    pub announced_once : (r : ℕ) → times_announced r a.announced ≤ 1
    -- an announced item is in its cell or in the log, never in both
    pub kept : (r : ℕ) (x : X) → In (announcement r x) a.announced →
        InCell sizes.cells s.cells s.log r x ⊎ InLog sizes.cells s.cells s.log r x
    -- a used cell is the cell of its rank, and holds the item announced under it
    pub used_cell : (i r : ℕ) → i < sizes.cells → (s.cells i).rank ≡ pos r →
        (r % sizes.cells ≡ i) × In (announcement r (s.cells i).item) a.announced
    -- as many cells are used as there are announced items not yet delivered
    pub used_count : used_cells s.cells sizes.cells ≡ undelivered a.announced a.delivered
    -- a log entry holds the item announced under its rank, and no rank is logged twice
    pub log_entry : (e : Entry X) → In e s.log → In (announcement e.rank e.item) a.announced
    pub logged_once : (r : ℕ) → times r s.log ≤ 1
    -- the log has the deliveries one after the other, with their workers
    pub log_is : s.log ≡ a.delivered
    -- a holder's record is not idle and has its rank; the other workers are idle
    pub holder : (k r : ℕ) → a.held k ≡ Some r → (¬ ((s.workers k).phase ≡ Idle)) × ((s.workers k).rank ≡ r)
    pub others : (k : ℕ) → a.held k ≡ None → (s.workers k).phase ≡ Idle
    -- only workers of the table hold ranks, and no two hold the same
    pub held_in_table : (k r : ℕ) → a.held k ≡ Some r → k < sizes.workers
    pub held_by_one : (j k r : ℕ) → a.held j ≡ Some r → a.held k ≡ Some r → j ≡ k
    -- a claimed rank is held, logged once or let go, and only one of these
    pub claimed : (r : ℕ) → In r a.claimed → OneOf (Held a r) (times r s.log ≡ 1) (In r a.let_go)
    -- a rank that is held, logged or let go was claimed
    pub held_claimed : (k r : ℕ) → a.held k ≡ Some r → In r a.claimed
    pub logged_claimed : (e : Entry X) → In e s.log → In e.rank a.claimed
    pub let_go_claimed : (r : ℕ) → In r a.let_go → In r a.claimed
    -- a rank is let go only if the receiver skipped it or a close cut it off
    pub let_go_why : (r : ℕ) → In r a.let_go → In r a.skipped ⊎ CutOff a.cut_from r

  -- the accepted receiver steps in a history
  abbrev pub is_received : Event X → ℕ
  is_received (not_made c) = 0
  is_received (refused c number place) = 0
  is_received (submitted x) = 0
  is_received (withdrew h) = 0
  is_received (received answer) = 1
  is_received (worked k answer) = 0
  is_received (closed e) = 0

  abbrev pub received_in : History X → ℕ
  received_in [] = 0
  received_in (e ∷ es) = is_received e + received_in es

  -- an announcement or a withdrawal
  abbrev pub empties_hand : Event X → Bool
  empties_hand (not_made c) = false
  empties_hand (refused c number place) = false
  empties_hand (submitted x) = false
  empties_hand (withdrew h) = true
  empties_hand (received answer) = is_announced answer
  empties_hand (worked k answer) = false
  empties_hand (closed e) = false

  -- neither an announcement nor a withdrawal
  abbrev pub NoneEmpties : History X → Type 0
  NoneEmpties es = (e : Event X) → In e es → empties_hand e ≡ false

  -- the first announcement or withdrawal comes within m accepted receiver steps; it is a withdrawal of x,
  -- or else by it x, and nothing else since the account a, is newly announced
  pub record AnnouncedOrWithdrawn (a : Account X) (x : X) (m : ℕ) (es : History X) : Type 0 where
    pub before : History X
    pub event : Event X
    pub rest : History X
    pub splits : es ≡ before ++ (event ∷ rest)
    pub first : NoneEmpties before
    pub within : received_in before < m
    pub outcome : (event ≡ withdrew (Some x)) ⊎
        ((r : ℕ) × (event ≡ received (Announced r)) × ((noted a (before ++ (event ∷ []))).announced ≡ announcement r x ∷ a.announced))

  -- x is submitted while u cells are used, u below n. Whatever follows has fewer than 2u + 3 accepted receiver steps
  -- and neither announces nor withdraws; or the next announcement is of x and comes within that many, unless x is withdrawn first
  abbrev pub AnnouncedInTime : Sizes → State X → Account X → X → Type 0
  AnnouncedInTime sizes s a x =
      (es : History X) (t : State X) → Run sizes s (submitted x ∷ es) t →
      used_cells s.cells sizes.cells < sizes.cells →
      (NoneEmpties es × (received_in es < 2 * used_cells s.cells sizes.cells + 3)) ⊎
      AnnouncedOrWithdrawn (note a (submitted x)) x (2 * used_cells s.cells sizes.cells + 3) es

  -- the accepted steps of worker k in a history
  abbrev pub is_of : ℕ → Event X → ℕ
  is_of k (not_made c) = 0
  is_of k (refused c number place) = 0
  is_of k (submitted x) = 0
  is_of k (withdrew h) = 0
  is_of k (received answer) = 0
  is_of k (worked j answer) = one_if (j == k)
  is_of k (closed e) = 0

  abbrev pub steps_of : ℕ → History X → ℕ
  steps_of k [] = 0
  steps_of k (e ∷ es) = is_of k e + steps_of k es

  -- the rank r is announced or skipped
  abbrev pub Settled : Account X → ℕ → Type 0
  Settled a r = ((x : X) × In (announcement r x) a.announced) ⊎ In r a.skipped

  -- worker k, that held r, delivers it, is handed a later one, or is answered that the queue is over
  abbrev pub Finishes : ℕ → ℕ → Event X → Type 0
  Finishes k r e =
      ((x : X) × (e ≡ worked k (Delivered r x))) ⊎
      (((q : ℕ) × (e ≡ worked k (MovedOn q)) × (r < q)) ⊎ ((m : ℤ) × (e ≡ worked k (Over m))))

  -- it does so within m accepted steps of its own
  pub record FinishedWithin (k r m : ℕ) (es : History X) : Type 0 where
    pub before : History X
    pub event : Event X
    pub rest : History X
    pub splits : es ≡ before ++ (event ∷ rest)
    pub within : steps_of k before < m
    pub finishes : Finishes k r event

  -- worker k holds the settled rank r: it is finished with it within four accepted steps of its own, whatever else happens
  abbrev pub FinishedInTime : Sizes → State X → Account X → ℕ → ℕ → Type 0
  FinishedInTime sizes s a k r =
      a.held k ≡ Some r →
      Settled a r →
      (es : History X) (t : State X) → Run sizes s es t →
      4 ≤ steps_of k es →
      FinishedWithin k r 4 es

  pub record Promised (sizes : Sizes) (s : State X) (a : Account X) : Type 0 where
    pub nothing_lost_or_doubled : NothingLostOrDoubled sizes s a
    pub announced_in_time : (x : X) → AnnouncedInTime sizes s a x
    pub finished_in_time : (k r : ℕ) → FinishedInTime sizes s a k r

-- after every history that follows an accepted lay out; so at every point of a life
abbrev pub WholeLife : Type 0 → Type 0
WholeLife X =
    (sizes : Sizes) (start : ℕ) (s : State X) → LaidOut sizes start s →
    (es : History X) (t : State X) → Run sizes s es t →
    Promised sizes t (account es)
