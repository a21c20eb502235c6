-- What the six columns hold for a vertex, by the relations alone.
use Rattle.std.specs.Prelude.{ℕ, ◌≤◌, ◌<◌, ◌≡◌, List}
use Rattle.graph.specs.Graph.{Graph, IsLabel, rev, edges}
use Rattle.graph.specs.Checker.{Columns, at, no_edge}
use Rattle.graph.specs.Certificate.{IsDist, IsRank}
use Rattle.certificate.specs.Entries.{Fit}

-- x is "no edge" if v is its own label, otherwise the smallest edge that fits v
pub record InEdge (g : Graph) (lab dist : List ℕ) (v x : ℕ) : Type 0 where
  pub own : at lab v ≡ v → x ≡ no_edge
  pub low : (at lab v ≡ v → ⊥) → x < edges g
  pub fits : (at lab v ≡ v → ⊥) → Fit g lab (at dist) x v
  pub smallest : (at lab v ≡ v → ⊥) → (e : ℕ) → e < edges g → Fit g lab (at dist) e v → x ≤ e

-- v's label, its rank, its shortest distances from and to the label, and the smallest edges that fit them
pub record WrittenFor (g : Graph) (c : Columns) (v : ℕ) : Type 0 where
  pub label : IsLabel g v (at c.label v)
  pub rank : IsRank g (at c.label) v (at c.rank v)
  pub in_dist : IsDist g (at c.label v) v (at c.in_dist v)
  pub in_edge : InEdge g c.label c.in_dist v (at c.in_edge v)
  pub out_dist : IsDist g v (at c.label v) (at c.out_dist v)
  pub out_edge : InEdge (rev g) c.label c.out_dist v (at c.out_edge v)
