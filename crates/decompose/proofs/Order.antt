-- The order of the pivots stays as it was arranged at the beginning, so that each division chooses by the caller's list.
use Prim.Native.Nat.{ℕ, ◌+◌}
use native.Mathlib.Omega.{arith}
use mathlib.Core.List.{List}
use Rattle.graph.specs.Graph.{Graph}
use Rattle.pivot.specs.Order.{Arranged}
use Rattle.pivot.proofs.Places.{arranged_same}
use Rattle.memory.specs.Decomposer.{ord, order_at}
use Rattle.parts.specs.Divide.{Handed}

pub order_kept : {g : Graph} {b h top : ℕ} {w ws w' ws' : List ℕ} {top' children : ℕ} (list : List ℕ)
    → Handed g b h top w ws w' ws' top' children → Arranged g.n list (ord g.n b w) → Arranged g.n list (ord g.n b w')
order_kept {g} {b} list v a = arranged_same (λ i. v.high (order_at g.n b + i) (omega arith)) a
