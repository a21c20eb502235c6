use Rattle.paint.specs.Colours.{Coloured}
use Rattle.trim.specs.Stages.{hue}
use Rattle.trim.proofs.stages.colour.Given as goal

abbrev pub invariant-loop-v : goal.invariant-loop-v
invariant-loop-v l = Coloured l.v l.at.base (hue l.at.n l.part) l.initial.w l.w
