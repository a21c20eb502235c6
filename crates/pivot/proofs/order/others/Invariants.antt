use Rattle.pivot.proofs.Places.{Rising}
use Rattle.pivot.proofs.order.others.Given as goal

abbrev pub invariant-loop-v : goal.invariant-loop-v
invariant-loop-v l = Rising l.at.n l.at.base l.first l.v l.k l.initial.w l.w
