use Prim.Native.Nat.{ℕ, ◌<◌, ◌≤◌}
use mathlib.Core.Path.{◌≡◌}
use lib.ListN.{get_or}
use Rattle.sets.proofs.combine.Given as goal

abbrev pub invariant-loop-i : goal.invariant-loop-i
invariant-loop-i g l =
    ((j : ℕ) → j < l.i → goal.F-post g l.f (get_or l.initial.w j 0) (get_or l.x j 0) (get_or l.w j 0))
    × ((j : ℕ) → l.i ≤ j → get_or l.w j 0 ≡ get_or l.initial.w j 0)
