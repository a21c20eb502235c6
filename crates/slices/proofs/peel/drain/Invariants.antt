use Prim.Native.Nat.{◌-◌}
use Rattle.prune.proofs.Tables.{KeptOf}
use Rattle.slices.specs.Peel.{DrainAsk}
use Rattle.slices.proofs.Draining.{Draining}
use Rattle.slices.proofs.peel.drain.Given as goal

abbrev pub invariant-loop-h : goal.invariant-loop-h
invariant-loop-h l =
    let k = l.fn.before in
    KeptOf l.at.n l.at.m (λ g. DrainAsk g l.at.base l.r k.seeds k.gone l.initial.w) (λ g. Draining g l.at.base l.r l.initial.w k.seeds k.gone l.h l.w l.count.seeds l.count.gone)

abbrev pub decreases-loop-h : goal.decreases-loop-h
decreases-loop-h l = l.at.n - l.h
