use Rattle.std.proofs.Common.{arith}
use Rattle.labels.proofs.Bytes.{count_step, count_end}
use Rattle.labels.proofs.lines_length.Goals as goal

pub loop-l-preserved : goal.loop-l-preserved
loop-l-preserved c =
    let m = rw c.from.ensures at c.width_of-width.ensures in
    (omega (arith, c.width_of-width.ensures.few), count_step _ _ _ c.loop-l.invariant.1 c.loop-l-test.true _ _ m)

pub returns : goal.returns
returns c = (search count_end, omega arith)
