use Rattle.split.specs.Split.{Lowest}
use Rattle.split.proofs.lowest.Given as goal

abbrev pub invariant-loop-i : goal.invariant-loop-i
invariant-loop-i l = Lowest l.at.n l.at.base l.w l.i l.d l.l
