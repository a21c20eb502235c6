use Prim.Native.Nat.{◌-◌}
use Rattle.graph.specs.Arrows.{EveryOf}
use Rattle.sweep.specs.Sweep.{SweepAsk}
use Rattle.sweep.proofs.Sweeping.{Sweeping}
use Rattle.sweep.proofs.chain.sweep.Given as goal

abbrev pub invariant-loop-i : goal.invariant-loop-i
invariant-loop-i l = EveryOf l.at.n l.at.m (λ g. (a : SweepAsk g l.slicing l.at.base l.h l.q l.top0 l.initial.w) → Sweeping g l.slicing l.at.base l.h l.q l.top0 l.initial.w a l.i l.w l.top)

abbrev pub decreases-loop-i : goal.decreases-loop-i
decreases-loop-i l = l.at.n - l.i
