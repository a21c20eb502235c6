use Rattle.moves.proofs.Scanning.{cut_none, cut_step, cut_end}
use Rattle.moves.proofs.segments.cut.Goals as goal

pub loop-k-init : goal.loop-k-init
loop-k-init c = cut_none c.requires

pub loop-k-preserved : goal.loop-k-preserved
loop-k-preserved c = cut_step c.requires c.loop-k.invariant c.loop-k-test.true

pub returns : goal.returns
returns c = cut_end c.loop-k.invariant c.loop-k-test.false
