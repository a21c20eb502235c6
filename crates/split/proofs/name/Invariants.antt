use Rattle.split.specs.Split.{Named}
use Rattle.split.proofs.name.Given as goal

abbrev pub invariant-loop-i : goal.invariant-loop-i
invariant-loop-i l = Named l.at.n l.at.base l.initial.w l.i l.d l.l l.w
