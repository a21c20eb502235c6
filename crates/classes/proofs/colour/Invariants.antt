use Rattle.classes.specs.Search.{Coloured}
use Rattle.classes.proofs.colour.Given as goal

abbrev pub invariant-loop-v : goal.invariant-loop-v
invariant-loop-v l = Coloured l.along.n l.label l.along.base l.v l.initial.w l.w
