use Rattle.graph.specs.Arrows.{EveryOf}
use Rattle.sweep.specs.Methods.{slicing_of}
use Rattle.sweep.specs.Drawn.{RunAsk}
use Rattle.sweep.proofs.Drawing.{Drawing}
use Rattle.sweep.proofs.drawn.run.Given as goal

abbrev pub invariant-loop-now : goal.invariant-loop-now
invariant-loop-now l = EveryOf l.at.n l.at.m (λ g. RunAsk g (slicing_of l.method) l.at.base l.q l.fn.begun.top l.initial.w l.initial.words l.fn.begun.left → Drawing g (slicing_of l.method) l.at.base l.q l.fn.begun.state l.fn.begun.top l.initial.w l.w l.words l.now.state l.draws l.now.top l.now.left)

abbrev pub decreases-loop-now : goal.decreases-loop-now
decreases-loop-now l = l.now.left
