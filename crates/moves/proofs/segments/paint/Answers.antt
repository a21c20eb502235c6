use native.Mathlib.Omega.{arith}
use Rattle.moves.proofs.Painting.{paint_none, paint_fits, paint_step}
use Rattle.moves.proofs.segments.paint.Goals as goal

pub loop-v-init : goal.loop-v-init
loop-v-init c = paint_none _ _ _ _

pub bounds-label-v : goal.bounds-label-v
bounds-label-v c = paint_fits c.requires c.loop-v.v-index c.loop-v.label (omega arith) c.loop-v-test.true c.loop-v.invariant

pub loop-v-preserved : goal.loop-v-preserved
loop-v-preserved c = paint_step c.requires c.loop-v.v-index c.loop-v.label (omega arith) c.loop-v-test.true c.loop-v.invariant
