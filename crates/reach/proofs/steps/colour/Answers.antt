use native.Mathlib.Omega.{arith}
use mathlib.Core.Path.{◌∙◌}
use Rattle.sets.proofs.Store.{bit_byte}
use Rattle.paint.proofs.Painting.{coloured_more}
use Rattle.reach.proofs.steps.colour.Goals as goal

pub loop-v-preserved : goal.loop-v-preserved
loop-v-preserved c = coloured_more (omega arith) (c.from.ensures ∙ rw c.has.ensures (bit_byte _ _)) c.loop-v.invariant
