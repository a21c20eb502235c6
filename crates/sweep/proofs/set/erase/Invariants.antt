use Rattle.sweep.specs.Drawn.{Erased}
use Rattle.sweep.proofs.set.erase.Given as goal

abbrev pub invariant-loop-v : goal.invariant-loop-v
invariant-loop-v l = Erased l.fn.along.n l.fn.along.base l.w l.v-index l.initial.words l.words l.left
