use mathlib.Core.Path.{◌≡◌}
use mathlib.Core.Bool.{false, not}
use Prim.Native.Nat.{ℕ, ◌<◌}
use Rattle.graph.specs.Checker.{check5}
use Rattle.graph.specs.Table.{graph_of}
use Rattle.checker.specs.Contract.{label_and_rank}
use Rattle.checker.proofs.judge_edges.Given as goal

abbrev pub invariant-loop-e : goal.invariant-loop-e
invariant-loop-e l = (j : ℕ) → j < l.e → not (check5 (graph_of l.table) (label_and_rank l.label l.rank) j) ≡ false
