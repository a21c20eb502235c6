use Rattle.std.proofs.Common.{arith}
use Rattle.graph.specs.Summary.{sharing}
use Rattle.summary.proofs.Counting.{folded_none, folded_join, folded_all, folded_few}
use Rattle.summary.proofs.blocks.all.Goals as goal

pub loop-low-init : goal.loop-low-init
loop-low-init c = (omega arith, folded_none)

pub and-totals-requires : goal.and-totals-requires
and-totals-requires c = omega (arith, folded_few c.loop-low.invariant.1, folded_few c.block.ensures, c.min.ensures)

pub loop-low-preserved : goal.loop-low-preserved
loop-low-preserved c =
    (omega arith, rw c.and-totals.ensures (folded_all (omega (arith, c.min.ensures)) (omega (arith, c.min.ensures)) (folded_join (sharing c.args.label.now) c.loop-low.invariant.1 c.block.ensures)))

pub returns : goal.returns
returns c = folded_all (omega arith) (omega arith) c.loop-low.invariant.1

pub returns-2 : goal.returns-2
returns-2 c = rw c.and-totals.ensures (folded_all (omega (arith, c.min.ensures)) (omega (arith, c.min.ensures)) (folded_join (sharing c.args.label.now) c.loop-low.invariant.1 c.block.ensures))
