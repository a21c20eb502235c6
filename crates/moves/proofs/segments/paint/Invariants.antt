use Rattle.moves.specs.Moves.{Painted}
use Rattle.moves.proofs.segments.paint.Given as goal

abbrev pub invariant-loop-v : goal.invariant-loop-v
invariant-loop-v l = Painted 0 l.v-index l.l l.members l.initial.label l.label
