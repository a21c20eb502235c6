use mathlib.Core.Path.{◌≡◌}
use Prim.Native.Nat.{ℕ, ◌<◌}
use lib.ListN.{get_or}
use Rattle.paths.specs.Walk.{source_of}
use Rattle.paths.proofs.walk.first.Given as goal

abbrev pub invariant-loop-i : goal.invariant-loop-i
invariant-loop-i l = (j : ℕ) → j < l.i → get_or l.colours (source_of l.sources l.edges j) 0 ≡ l.d → ⊥
