use Prim.Native.Nat.{◌-◌}
use Rattle.prune.proofs.Tables.{KeptOf}
use Rattle.slices.specs.Slice.{CutsAsk, Cuts}
use Rattle.slices.proofs.slice.cuts.Given as goal

abbrev pub invariant-loop-places : goal.invariant-loop-places
invariant-loop-places l =
    KeptOf l.at.n l.at.m (λ g. CutsAsk g l.at.base l.r l.top l.initial.w) (λ g. Cuts g l.at.base l.r l.top l.initial.w l.places.from l.places.to l.s l.w)

abbrev pub decreases-loop-places : goal.decreases-loop-places
decreases-loop-places l = l.at.n - l.places.from
