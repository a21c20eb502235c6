use Prim.Native.Nat.{◌-◌}
use Rattle.sweep.specs.Drawn.{MarkAsk}
use Rattle.sweep.proofs.Marking.{Marking}
use Rattle.sweep.proofs.set.mark.Given as goal

abbrev pub invariant-loop-i : goal.invariant-loop-i
invariant-loop-i l = (a : MarkAsk l.at.n l.at.base l.h l.q l.w l.initial.words) → Marking l.at.n l.at.base l.h l.q l.w l.initial.words a l.i l.words l.k

abbrev pub decreases-loop-i : goal.decreases-loop-i
decreases-loop-i l = l.at.n - l.i
