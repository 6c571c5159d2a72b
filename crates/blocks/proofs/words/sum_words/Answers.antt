use Rattle.std.proofs.Common.{◌+◌, ◌%◌, ◌/◌, ◌^◌, length, take, refl, ap, ◌∙◌, rules, tests, arith}
use Rattle.std.specs.Int.{w64, from_le_bytes}
use Rattle.std.specs.List.{fold}
use Rattle.std.proofs.lemmas.Iterator.{YieldsList-from_slice}
use Rattle.std.proofs.lemmas.Iterator.Consumers.{fold_from_yields_List}
use Rattle.layout.proofs.Sums.{sum_none}
use Rattle.layout.proofs.Conversions.{sum_read}
use Rattle.blocks.proofs.words.sum_words.Goals as goal

pub returns : goal.returns
returns c =
    fold_from_yields_List _ (λ a w. (a + from_le_bytes w64 w) % 2 ^ 64) 0 _ c.fold.ensures.ran
    (YieldsList-from_slice _ c.iter.ensures.rest)
    (λ a x y q k. search (rules, tests))
    ∙ ap (λ ws. fold (λ a w. (a + from_le_bytes w64 w) % 2 ^ 64) 0 (take 63 ws)) c.as_chunks.ensures.front
    ∙ sum_read c.args.block.now c.args.block.now (length c.args.block.now / 8) 63 0 0 (omega arith) refl (omega (arith, sum_none c.args.block.now 0))
