use Rattle.std.proofs.Common.{get_or}
use Rattle.summary.specs.Counts.{Folded}
use Rattle.summary.proofs.blocks.fold.Given as goal

abbrev pub invariant-loop-c : goal.invariant-loop-c
invariant-loop-c l = Folded (λ i. get_or l.counts i 0) l.c-index l.totals
