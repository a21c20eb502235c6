use mathlib.Core.Path.{◌≡◌, ◌∙◌}
use native.Mathlib.Omega.{arith}
use Rattle.graph.specs.Sets.{bit}
use Rattle.sets.proofs.Store.{bit_byte}
use Rattle.paint.proofs.Painting.{coloured_more}
use Rattle.trim.proofs.stages.colour.Goals as goal

pub loop-v-preserved : goal.loop-v-preserved
loop-v-preserved c =
    let e : c.from.result ≡ bit c.args.part.now c.loop-v.v = c.from.ensures ∙ rw c.has.ensures (bit_byte _ _) in
    coloured_more (omega arith) (omega arith) c.loop-v.invariant
