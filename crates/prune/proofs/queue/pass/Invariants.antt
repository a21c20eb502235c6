use Prim.Native.Nat.{◌-◌}
use Rattle.prune.specs.Trim.{TrimAsk}
use Rattle.prune.specs.Prune.{Pruned, AllStanding}
use Rattle.prune.proofs.Along.{Along}
use Rattle.prune.proofs.Rounds.{Before}
use Rattle.prune.proofs.Tables.{KeptOf}
use Rattle.prune.proofs.queue.pass.Given as goal

abbrev pub invariant-loop-i : goal.invariant-loop-i
invariant-loop-i l =
    Along l.at.n l.at.base l.q l.initial.w l.i
    × KeptOf l.at.n l.at.m (λ g. TrimAsk g l.at.base l.h l.q l.initial.w)
    (λ g. Pruned g l.at.base l.q 0 l.initial.w l.w l.k × AllStanding g l.at.base l.q (Before l.at.n l.at.base l.initial.w l.i) 0 l.k l.w)

abbrev pub decreases-loop-i : goal.decreases-loop-i
decreases-loop-i l = l.at.n - l.i
