use Rattle.std.proofs.Common.{◌≤◌, ◌-◌, length}
use Rattle.graph.specs.Summary.{sharing}
use Rattle.summary.specs.Counts.{Folded}
use Rattle.summary.proofs.blocks.all.Given as goal

abbrev pub invariant-loop-low : goal.invariant-loop-low
invariant-loop-low l = (l.low ≤ length l.label) × Folded (sharing l.label) l.low l.totals

abbrev pub decreases-loop-low : goal.decreases-loop-low
decreases-loop-low l = length l.label - l.low
