use Rattle.graph.specs.Arrows.{Some, Every}
use Rattle.paint.specs.Colours.{paint_of}
use Rattle.paint.specs.Paint.{LevelAsk, Levelled}
use Rattle.paint.proofs.level.Given as goal

abbrev pub invariant-loop-i : goal.invariant-loop-i
invariant-loop-i l =
    Some l.along.n (λ g. LevelAsk g (paint_of l.map) l.along.index l.along.base l.h l.initial.w l.k × Levelled g (paint_of l.map) l.along.base l.h l.i l.initial.w l.k l.w l.q l.edges)
    × Every l.along.n (λ g. LevelAsk g (paint_of l.map) l.along.index l.along.base l.h l.initial.w l.k → Levelled g (paint_of l.map) l.along.base l.h l.i l.initial.w l.k l.w l.q l.edges)
