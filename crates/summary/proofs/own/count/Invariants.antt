use Rattle.std.proofs.Common.{◌≡◌, get_or, eqb}
use Rattle.graph.specs.Numbers.{many}
use Rattle.summary.proofs.own.count.Given as goal

abbrev pub invariant-loop-v : goal.invariant-loop-v
invariant-loop-v l = l.own ≡ many (λ i. eqb (get_or l.label i 0) i) l.v
