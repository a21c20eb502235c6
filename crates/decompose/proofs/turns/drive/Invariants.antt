use Rattle.graph.specs.Arrows.{EveryOf}
use Rattle.decompose.specs.Turns.{DriveAsk, Ran}
use Rattle.decompose.proofs.Driving.{togo}
use Rattle.decompose.proofs.turns.drive.Given as goal

-- the machine has run from the lent list and memory to what they are now
abbrev pub invariant-loop-s : goal.invariant-loop-s
invariant-loop-s l =
    EveryOf l.at.n l.at.m (λ g. DriveAsk g l.at.base l.initial.parts l.initial.w l.initial.words l.initial.s → Ran g l.initial.parts l.initial.w l.initial.words l.initial.s l.parts l.w l.words l.s)

abbrev pub decreases-loop-s : goal.decreases-loop-s
decreases-loop-s l = togo l.at.n l.at.m l.w l.s
