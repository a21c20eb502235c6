use Prim.Native.Nat.{◌≤◌, ◌-◌}
use Rattle.ranks.specs.Peel.{EveryInto, Ranking, PeelAsk, Taken}
use Rattle.ranks.proofs.peel.Given as goal

abbrev pub invariant-loop-h : goal.invariant-loop-h
invariant-loop-h l = (l.h ≤ l.k) × (l.k ≤ l.at.n) × Ranking l.at.n l.at.base l.initial.w l.w × EveryInto l.at.n l.targets (λ g. (a : PeelAsk g l.label l.at.base l.k0 l.initial.w) → Taken g l.label l.at.base l.h l.w l.k a.in_edge)

abbrev pub decreases-loop-h : goal.decreases-loop-h
decreases-loop-h l = l.at.n - l.h
