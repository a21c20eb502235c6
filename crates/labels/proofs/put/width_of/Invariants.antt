use Prim.Native.Nat.{suc, ◌-◌}
use Rattle.labels.proofs.Decimal.{Growing}
use Rattle.labels.proofs.put.width_of.Given as goal

abbrev pub invariant-loop-power : goal.invariant-loop-power
invariant-loop-power l = Growing l.x l.digits l.power

abbrev pub decreases-loop-power : goal.decreases-loop-power
decreases-loop-power l = suc l.x - l.power
