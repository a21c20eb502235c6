use Rattle.std.proofs.Common.{arith}
use Rattle.lines.proofs.Split.{cut_step, cut_stop, cut_end}
use Rattle.lines.proofs.pieces.cut.Goals as goal

pub loop-i-init : goal.loop-i-init
loop-i-init c = omega arith

pub returns-then-b-stop : goal.returns-then-b-stop
returns-then-b-stop c = cut_stop _ _ _ c.loop-i.invariant c.loop-i-test.true c.if-b-stop.true

pub loop-i-preserved : goal.loop-i-preserved
loop-i-preserved c = cut_step _ _ _ c.loop-i.invariant c.loop-i-test.true c.if-b-stop.false

pub returns : goal.returns
returns c = cut_end _ _ _ c.loop-i.invariant c.loop-i-test.false
