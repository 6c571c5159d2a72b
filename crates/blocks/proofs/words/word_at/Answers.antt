use Rattle.std.proofs.Common.{◌∙◌, arith}
use Rattle.layout.proofs.Conversions.{word_le}
use Rattle.blocks.proofs.words.word_at.Goals as goal

pub returns : goal.returns
returns c =
    let read = rw c.unwrap.ensures at c.try_into.ensures.1 in
    c.from_le_bytes.ensures ∙ word_le c.args.mem.now _ c.args.at _ (omega arith) read.same
