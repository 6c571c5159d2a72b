use Rattle.std.proofs.Common.{refl, rules}
use Rattle.blocks.proofs.Passing.{image_passes}
use Rattle.blocks.proofs.Cutting.{all_checked, bad_check}
use Rattle.blocks.proofs.inspection.check_blocks.Goals as goal

pub returns-in-Some : goal.returns-in-Some
returns-in-Some c =
    let first = bad_check c.args.mem.now c.args.n (search rules) _ 512 refl c.as_chunks.ensures.front c.as_chunks.ensures.front_len _ c.in-Some.ensures in
    record { verdict = first; image = λ s i. image_passes c.args.mem.now c.args.n s _ i first }

pub returns-in-None-clause-verdict : goal.returns-in-None-clause-verdict
returns-in-None-clause-verdict c =
    all_checked c.args.mem.now c.args.n (search rules) _ 512 refl c.as_chunks.ensures.front c.as_chunks.ensures.front_len c.in-None.ensures

pub returns-in_err-fits-clause-image : goal.returns-in_err-fits-clause-image
returns-in_err-fits-clause-image c = λ s i. image_passes c.args.mem.now c.args.n s c.from_residual.result i (search rules)
