use Rattle.graph.specs.Arrows.{Some, Every}
use Rattle.linear.specs.Search.{left_of, RunAsk}
use Rattle.linear.proofs.Roots.{Running}
use Rattle.linear.proofs.search.run.Given as goal

abbrev pub invariant-loop-stand : goal.invariant-loop-stand
invariant-loop-stand l =
    Some l.at.n (λ g. RunAsk g l.at.base l.r l.initial.label l.initial.w × Running g l.at.base l.r l.initial.label l.initial.w l.stand l.label l.w l.steps)
    × Every l.at.n (λ g. RunAsk g l.at.base l.r l.initial.label l.initial.w → Running g l.at.base l.r l.initial.label l.initial.w l.stand l.label l.w l.steps)

abbrev pub decreases-loop-stand : goal.decreases-loop-stand
decreases-loop-stand l = left_of l.at.n l.at.base l.stand l.label l.w
