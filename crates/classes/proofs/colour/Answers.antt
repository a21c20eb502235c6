use Prim.Native.Nat.{◌<◌}
use native.Mathlib.Omega.{arith}
use Rattle.classes.proofs.Classing.{colour_none, colour_fits, colour_step}
use Rattle.classes.proofs.colour.Goals as goal

pub loop-v-init : goal.loop-v-init
loop-v-init c = search colour_none

pub overflow_add-w-in-loop-v : goal.overflow_add-w-in-loop-v
overflow_add-w-in-loop-v c = let l : c.loop-v.v < c.args.along.n = omega arith in colour_fits c.requires l

pub loop-v-preserved : goal.loop-v-preserved
loop-v-preserved c = let l : c.loop-v.v < c.args.along.n = omega arith in colour_step c.requires c.loop-v.invariant l
