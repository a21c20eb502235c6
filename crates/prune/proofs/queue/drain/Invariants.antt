use Prim.Native.Nat.{◌≤◌, ◌-◌}
use Rattle.graph.specs.Graph.{all}
use Rattle.prune.specs.Prune.{Pruned, AllStanding, DrainAsk}
use Rattle.prune.proofs.Tables.{KeptOf}
use Rattle.prune.proofs.queue.drain.Given as goal

abbrev pub invariant-loop-h : goal.invariant-loop-h
invariant-loop-h l =
    (l.h ≤ l.k)
    × KeptOf l.at.n l.at.m (λ g. DrainAsk g l.at.base l.q l.k0 l.initial.w) (λ g. Pruned g l.at.base l.q l.k0 l.initial.w l.w l.k × AllStanding g l.at.base l.q all l.h l.k l.w)

abbrev pub decreases-loop-h : goal.decreases-loop-h
decreases-loop-h l = l.at.n - l.h
