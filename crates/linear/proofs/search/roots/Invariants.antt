use Rattle.graph.specs.Arrows.{Some, Every}
use Rattle.linear.specs.Search.{RootsAsk}
use Rattle.linear.proofs.Roots.{Rooting}
use Rattle.linear.proofs.search.roots.Given as goal

abbrev pub invariant-loop-r : goal.invariant-loop-r
invariant-loop-r l =
    Some l.at.n (λ g. RootsAsk g l.at.base l.initial.label l.initial.w × Rooting g l.at.base l.initial.label l.initial.w l.r l.label l.w l.steps)
    × Every l.at.n (λ g. RootsAsk g l.at.base l.initial.label l.initial.w → Rooting g l.at.base l.initial.label l.initial.w l.r l.label l.w l.steps)
