use Rattle.std.proofs.Common.{rules, refl}
use Rattle.std.proofs.lemmas.Option.{slice_get_read}
use Rattle.queue.proofs.worker.worker_step.Goals as goal

pub returns-clause-log : goal.returns-clause-log
returns-clause-log g c =
    let h = c.in-Some.ensures.lookup in
    let read = slice_get_read c.args.workers.now _ c.args.k _ refl h.3.0 h.1 in
    search rules
