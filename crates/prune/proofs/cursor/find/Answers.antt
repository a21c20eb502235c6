use mathlib.Core.Path.{◌≡◌}
use Prim.Native.Nat.{ℕ, ◌+◌, ◌<◌}
use native.Mathlib.Omega.{arith}
use native.Mathlib.Decide.{ℕ_discrete}
use Rattle.memory.specs.Decomposer.{col}
use Rattle.paint.specs.Paint.{other}
use Rattle.prune.proofs.cursor.find.Goals as goal

pub loop-i-preserved : goal.loop-i-preserved
loop-i-preserved c =
    let s = c.args in
    let w = s.w.now in
    λ j a d. elim (ℕ_discrete j c.loop-i.i) as (λ _. col s.along.base w (other w (s.along.index + s.along.n + 1) j) ≡ s.q → ⊥) [
      | yes y ↦ rw y c.if-w-along.false
      | no y ↦ c.loop-i.invariant j a (omega arith)
    ]
