use Rattle.graph.specs.Sets.{bit}
use Rattle.paint.specs.Colours.{Coloured}
use Rattle.reach.proofs.steps.colour.Given as goal

abbrev pub invariant-loop-v : goal.invariant-loop-v
invariant-loop-v l = Coloured l.v l.along.base (bit l.permitted) l.initial.w l.w
