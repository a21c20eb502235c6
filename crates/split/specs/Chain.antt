-- The chains of parts run over places of the order of the vertices; beside them stand the last place of each part and the pending parts.
use Rattle.std.specs.Prelude.{ℕ, ◌≤◌, ◌<◌, ◌≡◌}
pub use Rattle.prune.specs.Chain.{Follows}

-- h is the first place of its colour, which is no label
pub record First (n : ℕ) (own : ℕ → ℕ) (h : ℕ) : Type 0 where
  pub low : h < n
  pub part : n ≤ own h
  pub none : (u : ℕ) → u < h → own u ≡ own h → ⊥
