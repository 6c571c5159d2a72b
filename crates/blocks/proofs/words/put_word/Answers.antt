use Rattle.std.proofs.Common.{◌∙◌, arith}
use Rattle.layout.proofs.Conversions.{put_le}
use Rattle.blocks.proofs.words.put_word.Goals as goal

pub returns : goal.returns
returns c = put_le c.args.mem.now _ c.args.at _ c.args.w (omega arith) (omega arith) (c.copy_from_slice.ensures.after ∙ c.to_le_bytes.ensures)
