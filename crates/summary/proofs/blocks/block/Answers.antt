use Rattle.std.proofs.Common.{arith}
use Rattle.summary.proofs.Counting.{fresh_zeros, folded_front}
use Rattle.summary.proofs.blocks.block.Goals as goal

pub count-requires : goal.count-requires
count-requires c = fresh_zeros 4096 c.requires.0

pub returns : goal.returns
returns c = folded_front _ _ _ _ (omega (arith, c.count.auto)) c.count.ensures.shared c.fold.ensures
