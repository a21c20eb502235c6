use Prim.Native.Nat.{◌≤◌, ◌-◌}
use Rattle.graph.specs.Arrows.{Some, Every}
use Rattle.paint.specs.Colours.{paint_of}
use Rattle.paint.specs.Paint.{LevelAsk, Spread}
use Rattle.paint.proofs.spread.Given as goal

abbrev pub invariant-loop-h : goal.invariant-loop-h
invariant-loop-h l =
    (l.h ≤ l.k)
    × Some l.along.n (λ g. LevelAsk g (paint_of l.map) l.along.index l.along.base 0 l.initial.w l.k0 × Spread g (paint_of l.map) l.along.base l.initial.w l.k0 l.h l.w l.k l.edges)
    × Every l.along.n (λ g. LevelAsk g (paint_of l.map) l.along.index l.along.base 0 l.initial.w l.k0 → Spread g (paint_of l.map) l.along.base l.initial.w l.k0 l.h l.w l.k l.edges)

abbrev pub decreases-loop-h : goal.decreases-loop-h
decreases-loop-h l = l.along.n - l.h
