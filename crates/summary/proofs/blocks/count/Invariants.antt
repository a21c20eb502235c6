use Rattle.std.proofs.Common.{◌≡◌, length}
use Rattle.summary.specs.Counts.{Upto}
use Rattle.summary.proofs.blocks.count.Given as goal

abbrev pub invariant-loop-l : goal.invariant-loop-l
invariant-loop-l l = (length l.counts ≡ length l.initial.counts) × Upto l.label l.low l.l-index l.counts
