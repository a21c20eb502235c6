use Rattle.std.proofs.Common.{refl, rules}
use Rattle.summary.proofs.Counting.{upto_none, upto_step, upto_low, upto_all}
use Rattle.summary.proofs.blocks.count.Goals as goal

pub loop-l-init : goal.loop-l-init
loop-l-init c = (refl, search upto_none)

pub add-requires : goal.add-requires
add-requires c = search upto_low

pub loop-l-preserved : goal.loop-l-preserved
loop-l-preserved c = (search rules, search upto_step)

pub returns : goal.returns
returns c = search upto_all
