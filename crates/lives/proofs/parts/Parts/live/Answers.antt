use Rattle.std.proofs.Common.{take, sym, subst}
use Rattle.stores.specs.Model.{size}
use Rattle.protocol.specs.Lives.{Queue}
use Rattle.protocol.proofs.LifePromised.{life_promised}
use Rattle.queue.specs.Receivers.{receiver_view}
use Rattle.queue.specs.Logs.{log_view}
use Rattle.lives.specs.Lent.{queue_view}
use Rattle.lives.specs.Permits.{permit_of}
use Rattle.lives.specs.Replays.{Lived}
use Rattle.lives.proofs.Beginning.{some_cells, begins}
use Rattle.lives.proofs.parts.Parts.live.Goals as goal

pub returns-clause-replayed : goal.returns-clause-replayed
returns-clause-replayed g c =
    let blank = g.I.ItemKind.blank in
    let m = g.S.Store.model c.args.self.now.store.now in
    let ws = c.args.self.now.workers.now in
    let l = log_view c.args.self.now.log.now in
    let laid = c.in_ok-permit.ensures in
    let none = sym laid.answer in
    let start = begins blank m ws l c.args.start none _ (receiver_view c.args.self.now.receiver.now) _ _ _ laid.model laid.receiver laid.workers laid.log in (
      none,
      subst
          (λ (q : Queue g.row.I.Denot). Lived blank q c.args.calls.now
          (queue_view g.S.Store.model c.follow.new.self (permit_of c.follow.result)) c.args.answers.now c.follow.new.answers)
          start c.follow.ensures.lived,
      (λ i. life_promised blank (size m) ws l c.args.start (some_cells blank m ws l c.args.start none) (take i c.args.calls.now)),
    )
