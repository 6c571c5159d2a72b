-- What the lent parts of a queue mean, and whose memory they are.
use Rattle.std.specs.Prelude.{◌≡◌, ℕ}
use Rattle.stores.specs.Model.{Contents}
use Rattle.protocol.specs.State.{Permit}
use Rattle.protocol.specs.Lives.{Queue, queue_of}
use Rattle.queue.specs.Receivers.{receiver_view}
use Rattle.queue.specs.Logs.{log_view, log_lender}
use Rattle.lives.specs.declared.parts.Parts.{Parts}

-- the queue of these parts, with the permit that is held
abbrev pub queue_view : {X S : Type 0} → (S → Contents X) → Parts X S → Permit → Queue X
queue_view model p permit = queue_of (model p.store.now) (receiver_view p.receiver.now) p.workers.now (log_view p.log.now) permit

-- q's parts are p's: the same memory is lent, and whoever lent it knows what it holds afterwards
pub record SameParts {X S : Type 0} (lender : S → ℕ) (p q : Parts X S) : Type 0 where
  pub store : q.store.ghost_name ≡ p.store.ghost_name
  pub receiver : q.receiver.ghost_name ≡ p.receiver.ghost_name
  pub workers : q.workers.ghost_name ≡ p.workers.ghost_name
  pub log : q.log.ghost_name ≡ p.log.ghost_name
  -- the memory below the store, and that of the log
  pub cells : lender q.store.now ≡ lender p.store.now
  pub entries : log_lender q.log.now ≡ log_lender p.log.now

-- and nothing in them has changed
abbrev pub Untouched : {X S : Type 0} → Parts X S → Parts X S → Type 0
Untouched p q =
    (q.store.now ≡ p.store.now) × (q.receiver.now ≡ p.receiver.now) × (q.workers.now ≡ p.workers.now) × (q.log.now ≡ p.log.now)
