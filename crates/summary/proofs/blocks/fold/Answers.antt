use Rattle.std.proofs.Common.{arith, refl, get_or}
use Rattle.summary.proofs.Counting.{folded_none, folded_step, folded_few, one_few}
use Rattle.summary.proofs.blocks.fold.Goals as goal

pub loop-c-init : goal.loop-c-init
loop-c-init c = folded_none

pub and-totals-requires : goal.and-totals-requires
and-totals-requires c = rw c.of.ensures (omega (arith, folded_few c.loop-c.invariant, one_few (get_or c.args.counts.now c.loop-c.c-index 0)))

pub loop-c-preserved : goal.loop-c-preserved
loop-c-preserved c = rw (c.and-totals.ensures, c.of.ensures) (folded_step (λ i. get_or c.args.counts.now i 0) _ refl c.loop-c.invariant)
