use Rattle.std.proofs.Common.{◌≡◌, ◌+◌, ◌-◌, ◌*◌, ◌≤◌, length}
use Rattle.graph.specs.Numbers.{tally}
use Rattle.graph.specs.Sets.{bit}
use Rattle.pivot.proofs.place.select.Given as goal

abbrev pub invariant-loop-first : goal.invariant-loop-first
invariant-loop-first l = (l.first ≤ length l.words) × (tally (bit l.words) (l.first * 64) + l.rest ≡ l.j)

abbrev pub decreases-loop-first : goal.decreases-loop-first
decreases-loop-first l = length l.words - l.first
