use Rattle.moves.proofs.Scanning.{Cutting}
use Rattle.moves.proofs.segments.cut.Given as goal

abbrev pub invariant-loop-k : goal.invariant-loop-k
invariant-loop-k l = Cutting l.y l.fronts l.k

abbrev pub decreases-loop-k : goal.decreases-loop-k
decreases-loop-k l = l.k
