use Rattle.reach.specs.Steps.{BegunBelow}
use Rattle.reach.proofs.steps.begin.Given as goal

abbrev pub invariant-loop-x : goal.invariant-loop-x
invariant-loop-x l = BegunBelow l.x l.along.n l.along.base l.r l.initial.w l.w l.k
