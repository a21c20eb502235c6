use Rattle.std.proofs.Common.{arith, refl, ◌∙◌}
use Rattle.graph.specs.Numbers.{many}
use Rattle.summary.proofs.Counting.{byte_is, many_room, many_step}
use Rattle.summary.proofs.own.count.Goals as goal

pub loop-v-init : goal.loop-v-init
unfolding many
loop-v-init c = refl

pub overflow_add-own : goal.overflow_add-own
overflow_add-own c = omega (arith, many_room _ _ _ c.loop-v.invariant _ (c.from-own.ensures ∙ byte_is _))

pub loop-v-preserved : goal.loop-v-preserved
loop-v-preserved c = many_step _ _ _ c.loop-v.invariant _ (c.from-own.ensures ∙ byte_is _)
