-- The account of a history: what its calls and answers say, with no look at the state.
use Rattle.std.specs.Prelude.{◌≡◌, ℕ, ◌+◌, ◌≤◌, Bool, true, false, ◌⊎◌, List, [], ◌∷◌, ◌++◌, ℤ, pos, negsuc, Some, None, Option, ◌==◌}
use Rattle.protocol.specs.declared.record.Entry.{Entry}
use Rattle.protocol.specs.declared.answer.ReceiverAnswer.{ReceiverAnswer}
use Rattle.protocol.specs.declared.answer.ReceiverAnswer.TheVariants.{Stepped as ReceiverStepped, Skipped, Announced}
use Rattle.protocol.specs.declared.answer.WorkerAnswer.{WorkerAnswer}
use Rattle.protocol.specs.declared.answer.WorkerAnswer.TheVariants.{Over, Claimed, MovedOn, Waiting, GivenUp, Stepped as WorkerStepped, Delivered}
use Rattle.protocol.specs.State.{put}
use Rattle.protocol.specs.Events.{Event, History, not_made, refused, submitted, withdrew, received, worked, closed}

-- an item announced under a rank
pub record Announcement (X : Type 0) : Type 0 where
  pub rank : ℕ
  pub item : X

pub record Account (X : Type 0) : Type 0 where
  -- the item of the last accepted submit
  pub last : Option X
  -- by each answer 'announced', the last item under the rank named; the latest first
  pub announced : List (Announcement X)
  -- the ranks answered skipped
  pub skipped : List ℕ
  -- the ranks answered claimed or moved on
  pub claimed : List ℕ
  -- the rank that each worker holds: the one it was last answered claimed or moved on, until it is delivered or let go
  pub held : ℕ → Option ℕ
  -- the deliveries, in their order
  pub delivered : List (Entry X)
  -- the ranks let go: held when their worker was answered given up, over or moved on
  pub let_go : List ℕ
  -- the end mark, 0 or more, that a close answered: it cuts off the ranks from there on
  pub cut_from : Option ℕ

-- x stands in the list
abbrev pub In : {V : Type 0} → V → List V → Type 0
In x [] = ⊥
In x (y ∷ l) = (x ≡ y) ⊎ In x l

-- the ranks let go, with the one that was held, if any
abbrev pub letting_go : Option ℕ → List ℕ → List ℕ
letting_go None l = l
letting_go (Some r) l = r ∷ l

-- where the ranks are cut off, after a close that answers this end mark
abbrev pub cutting : ℤ → Option ℕ → Option ℕ
cutting (pos e) c = Some e
cutting (negsuc m) c = c

-- the rank r is cut off
abbrev pub CutOff : Option ℕ → ℕ → Type 0
CutOff cut r = (e : ℕ) × (cut ≡ Some e) × (e ≤ r)

abbrev pub one_if : Bool → ℕ
one_if true = 1
one_if false = 0

module _ {X : Type 0} where
  -- how many entries are under the rank r
  unfoldable pub times : ℕ → List (Entry X) → ℕ
  times r [] = 0
  times r (e ∷ l) = times r l + one_if (e.rank == r)

  -- how many announcements are under the rank r
  unfoldable pub times_announced : ℕ → List (Announcement X) → ℕ
  times_announced r [] = 0
  times_announced r (v ∷ l) = times_announced r l + one_if (v.rank == r)

  -- how many of the announced items are not delivered: no entry is under their rank
  unfoldable pub undelivered : List (Announcement X) → List (Entry X) → ℕ
  undelivered [] entries = 0
  undelivered (v ∷ l) entries = undelivered l entries + one_if (times v.rank entries == 0)

  -- the announcements, with the last item under the rank r
  abbrev pub announcing : ℕ → Option X → List (Announcement X) → List (Announcement X)
  announcing r None l = l
  announcing r (Some x) l = record { rank = r; item = x } ∷ l

  -- before the first event
  abbrev pub blank_account : Account X
  blank_account = record { last = None; announced = []; skipped = []; claimed = []; held = λ k. None; delivered = []; let_go = []; cut_from = None }

  abbrev pub note_received : Account X → ReceiverAnswer → Account X
  note_received a (ReceiverStepped p t) = a
  note_received a (Skipped r) = record { last = a.last; announced = a.announced; skipped = r ∷ a.skipped; claimed = a.claimed; held = a.held; delivered = a.delivered; let_go = a.let_go; cut_from = a.cut_from }
  note_received a (Announced r) = record { last = a.last; announced = announcing r a.last a.announced; skipped = a.skipped; claimed = a.claimed; held = a.held; delivered = a.delivered; let_go = a.let_go; cut_from = a.cut_from }

  -- worker k claims the rank r
  abbrev pub claiming : Account X → ℕ → ℕ → Account X
  claiming a k r = record { last = a.last; announced = a.announced; skipped = a.skipped; claimed = r ∷ a.claimed; held = put a.held k (Some r); delivered = a.delivered; let_go = a.let_go; cut_from = a.cut_from }

  -- worker k lets go of the rank that it holds, if any
  abbrev pub releasing : Account X → ℕ → Account X
  releasing a k = record { last = a.last; announced = a.announced; skipped = a.skipped; claimed = a.claimed; held = put a.held k None; delivered = a.delivered; let_go = letting_go (a.held k) a.let_go; cut_from = a.cut_from }

  abbrev pub note_worked : Account X → ℕ → WorkerAnswer X → Account X
  note_worked a k (Over e) = releasing a k
  note_worked a k (Claimed r) = claiming a k r
  note_worked a k (MovedOn r) = claiming (releasing a k) k r
  note_worked a k (Waiting r) = a
  note_worked a k (GivenUp r) = releasing a k
  note_worked a k (WorkerStepped p r) = a
  note_worked a k (Delivered r x) = record { last = a.last; announced = a.announced; skipped = a.skipped; claimed = a.claimed; held = put a.held k None; delivered = a.delivered ++ (record { rank = r; worker = k; item = x } ∷ []); let_go = a.let_go; cut_from = a.cut_from }

  -- the account after one more event
  abbrev pub note : Account X → Event X → Account X
  note a (not_made c) = a
  note a (refused c number place) = a
  note a (submitted x) = record { last = Some x; announced = a.announced; skipped = a.skipped; claimed = a.claimed; held = a.held; delivered = a.delivered; let_go = a.let_go; cut_from = a.cut_from }
  note a (withdrew h) = a
  note a (received answer) = note_received a answer
  note a (worked k answer) = note_worked a k answer
  note a (closed e) = record { last = a.last; announced = a.announced; skipped = a.skipped; claimed = a.claimed; held = a.held; delivered = a.delivered; let_go = a.let_go; cut_from = cutting e a.cut_from }

  -- the account a, carried on over the events that follow
  abbrev pub noted : Account X → History X → Account X
  noted a [] = a
  noted a (e ∷ es) = noted (note a e) es

  -- the account of a history from the lay out on
  abbrev pub account : History X → Account X
  account es = noted blank_account es
