use Rattle.std.proofs.Common.{rules}
use Rattle.protocol.specs.declared.answer.WorkerAnswer.TheVariants.{Claimed, MovedOn}
use Rattle.queue.specs.Logs.{log_view}
use Rattle.queue.proofs.worker.phases.step_in_phase.Goals as goal

pub returns-in-Idle-clause-answer : goal.returns-in-Idle-clause-answer
returns-in-Idle-clause-answer g c =
    rw c.in-Idle.is (c.take_next.ensures.answer c.args.k (log_view c.args.log.now) Claimed (λ r v e. search rules))

pub returns-in-Idle-clause-model : goal.returns-in-Idle-clause-model
returns-in-Idle-clause-model g c = rw c.in-Idle.is (c.take_next.ensures.model c.args.k (log_view c.args.log.now) Claimed)

pub returns-in-Seeking-clause-answer : goal.returns-in-Seeking-clause-answer
returns-in-Seeking-clause-answer g c = rw c.in-Seeking.is (c.look.ensures.answer c.args.k (log_view c.args.log.now))

pub returns-in-Doubting-clause-answer : goal.returns-in-Doubting-clause-answer
returns-in-Doubting-clause-answer g c = rw c.in-Doubting.is (c.doubt.ensures.answer c.args.k (log_view c.args.log.now))

pub returns-in-Marked-clause-answer : goal.returns-in-Marked-clause-answer
returns-in-Marked-clause-answer g c = rw c.in-Marked.is (c.look-in-Marked.ensures.answer c.args.k (log_view c.args.log.now))

pub returns-in-Passed-clause-answer : goal.returns-in-Passed-clause-answer
returns-in-Passed-clause-answer g c =
    rw c.in-Passed.is (c.take_next-in-Passed.ensures.answer c.args.k (log_view c.args.log.now) MovedOn (λ r v e. search rules))

pub returns-in-Passed-clause-model : goal.returns-in-Passed-clause-model
returns-in-Passed-clause-model g c = rw c.in-Passed.is (c.take_next-in-Passed.ensures.model c.args.k (log_view c.args.log.now) MovedOn)

pub returns-in-Sure-clause-answer : goal.returns-in-Sure-clause-answer
returns-in-Sure-clause-answer g c = rw c.in-Sure.is (c.copy_item.ensures.answer c.args.k (log_view c.args.log.now))
