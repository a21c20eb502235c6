use mathlib.Core.Path.{◌≡◌}
use mathlib.Core.Bool.{false, not}
use Prim.Native.Nat.{ℕ, ◌<◌}
use lib.Dec.{eqb}
use Rattle.graph.specs.Checker.{fault}
use Rattle.graph.specs.Table.{graph_of}
use Rattle.checker.specs.Contract.{columns_of}
use Rattle.checker.proofs.judge.Given as goal

abbrev pub invariant-loop-v : goal.invariant-loop-v
invariant-loop-v l = (j : ℕ) → j < l.v → not (eqb (fault (graph_of l.table) (columns_of l.columns) j) 0) ≡ false
