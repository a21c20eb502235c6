use Rattle.trim.specs.Stages.{Strung}
use Rattle.trim.proofs.stages.string.Given as goal

abbrev pub invariant-loop-i : goal.invariant-loop-i
invariant-loop-i l = Strung l.at.n l.at.base l.q l.i l.y l.initial.w l.w
