use Prim.Native.Nat.{◌-◌}
use Rattle.graph.specs.Arrows.{Some, Every}
use Rattle.paint.specs.Distances.{RoundsAsk, Queued, HasOr}
use Rattle.paint.proofs.Nearness.{Rounded}
use Rattle.paint.proofs.distances.rounds.Given as goal

abbrev pub invariant-loop-h : goal.invariant-loop-h
invariant-loop-h l =
    Some l.along.n (λ g. RoundsAsk g l.a l.along.index l.along.base l.initial.w l.k0 × Rounded g l.a l.along.base (HasOr l.a l.along.n l.along.base l.initial.w l.k0) (Queued l.along.n l.along.base l.initial.w l.k0) l.initial.w l.d l.h l.w l.k)
    × Every l.along.n (λ g. RoundsAsk g l.a l.along.index l.along.base l.initial.w l.k0 → Rounded g l.a l.along.base (HasOr l.a l.along.n l.along.base l.initial.w l.k0) (Queued l.along.n l.along.base l.initial.w l.k0) l.initial.w l.d l.h l.w l.k)

abbrev pub decreases-loop-h : goal.decreases-loop-h
decreases-loop-h l = l.along.n - l.h
