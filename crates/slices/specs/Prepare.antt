-- Before the sweep of method 1 no vertex has been looked at.
use Rattle.std.specs.Prelude.{ℕ, ◌+◌, ◌*◌, ◌≤◌, ◌<◌, ◌≡◌, List, length, get_or}
use Rattle.graph.specs.Limits.{most_vertices}
use Rattle.memory.specs.Decomposer.{flag, entering_at, seeds_at}

pub record PrepareAsk (n m b : ℕ) (w : List ℕ) : Type 0 where
  pub small : n ≤ most_vertices
  pub below : 2 * (n + 1 + m) ≤ b
  pub long : b + 10 * n + 2 ≤ length w

-- The entering cursors of the vertices below i are at their first edges, and their marks are 0.
pub record Prepared (n m b : ℕ) (w : List ℕ) (i : ℕ) (w' : List ℕ) : Type 0 where
  pub cursors : (v : ℕ) → v < i → get_or w' (entering_at n b + v) 0 ≡ get_or w (n + 1 + m + v) 0
  pub marks : (v : ℕ) → v < i → flag n b w' v ≡ 0
  pub low : (j : ℕ) → j < entering_at n b → get_or w' j 0 ≡ get_or w j 0
  pub high : (j : ℕ) → seeds_at n b ≤ j → get_or w' j 0 ≡ get_or w j 0
  pub long : length w' ≡ length w
