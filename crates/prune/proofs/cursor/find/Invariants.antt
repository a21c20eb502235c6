use mathlib.Core.Path.{◌≡◌}
use Prim.Native.Nat.{ℕ, ◌+◌, ◌≤◌, ◌<◌}
use Rattle.memory.specs.Decomposer.{col}
use Rattle.paint.specs.Paint.{other}
use Rattle.prune.proofs.cursor.find.Given as goal

abbrev pub invariant-loop-i : goal.invariant-loop-i
invariant-loop-i l = (j : ℕ) → l.i0 ≤ j → j < l.i → col l.along.base l.w (other l.w (l.along.index + l.along.n + 1) j) ≡ l.q → ⊥
