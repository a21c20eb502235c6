use Rattle.pivot.proofs.Places.{Listed}
use Rattle.pivot.proofs.order.listed.Given as goal

abbrev pub invariant-loop-v : goal.invariant-loop-v
invariant-loop-v l = Listed l.at.n l.at.base l.list l.v-index l.k l.initial.w l.w
