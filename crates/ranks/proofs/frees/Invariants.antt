use Rattle.ranks.specs.Peel.{Frees}
use Rattle.ranks.proofs.frees.Given as goal

abbrev pub invariant-loop-v : goal.invariant-loop-v
invariant-loop-v l = Frees l.at.n l.at.base l.v l.initial.w l.w l.k
