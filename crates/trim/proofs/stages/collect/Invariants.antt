use Rattle.trim.specs.Stages.{Collected}
use Rattle.trim.proofs.stages.collect.Given as goal

abbrev pub invariant-loop-v : goal.invariant-loop-v
invariant-loop-v l = Collected l.v l.fn.at.base l.q l.w l.initial.left l.left
