use Rattle.std.proofs.Common.{◌<◌, ◌≢◌, length, sym, ◌∙◌, arith, get_or-set_other, get_or-set_same, below_more}
use lib.ListN.{length-replicate, get_or-replicate}
use Rattle.std.proofs.lemmas.List.{ext_get_or}
use Rattle.stores.proofs.record.fill.Goals as goal

pub loop-c-preserved : goal.loop-c-preserved
loop-c-preserved g c =
    below_more _ _
    (λ k h. let ne : k ≢ c.loop-c.c-index = omega arith in rw get_or-set_other (c.loop-c.invariant k h))
    (let lt : c.loop-c.c-index < length c.loop-c.cells = omega arith in rw get_or-set_same)

pub returns : goal.returns
returns g c =
    ext_get_or c.args.cell _ _ (simp length-replicate (omega arith))
    (λ k h. c.loop-c.invariant k (omega arith) ∙ sym (get_or-replicate _ k c.args.cell c.args.cell (omega arith)))
