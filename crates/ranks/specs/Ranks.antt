-- Ranks by peeling. A vertex that is its own label waits for the counted edges that enter its class, any other for its in-edge.
use Rattle.std.specs.Prelude.{ℕ, zero, suc, ◌+◌, ◌≤◌, ◌<◌, ◌≡◌, Bool, cond, not, ◌||◌, ◌&&◌, List, ◌⊎◌, T, eqb}
use Rattle.graph.specs.Graph.{Graph, IsEdge, edges, from, to}
use Rattle.graph.specs.Numbers.{many}
use Rattle.graph.specs.Checker.{at}

-- of n vertices the one that waits for edge e from u to v if it counts, n if none does
abbrev pub lead_of : ℕ → List ℕ → (ℕ → ℕ) → (u v e : ℕ) → ℕ
lead_of n lab in_edge u v e = cond (eqb (at lab u) (at lab v)) (cond (eqb (in_edge v) e) v n) (at lab v)

-- the vertex that waits for edge e of g, n if none does: none waits for an edge that does not count
unfoldable pub lead : Graph → List ℕ → (ℕ → ℕ) → ℕ → ℕ
lead g lab in_edge e = cond (g.counted e) (lead_of g.n lab in_edge (from g e) (to g e) e) g.n

-- by how much an edge from u to v raises the rank
abbrev pub rise_of : List ℕ → (u v : ℕ) → ℕ
rise_of lab u v = cond (eqb (at lab u) (at lab v)) 0 1

-- by how much edge e of g raises the rank
unfoldable pub rise : Graph → List ℕ → ℕ → ℕ
rise g lab e = rise_of lab (from g e) (to g e)

-- the number of edges that v still waits for, where those of done are gone
unfoldable pub awaited : Graph → List ℕ → (ℕ → ℕ) → (ℕ → Bool) → ℕ → ℕ
awaited g lab in_edge done v = many (λ e. eqb (lead g lab in_edge e) v && not (done e)) (edges g)

-- The edges of done are gone; count holds what each vertex waits for, the queue of length k what waits for nothing, rank the ranks so far, at most top.
pub record Peeling (g : Graph) (lab : List ℕ) (in_edge : ℕ → ℕ) (done : ℕ → Bool) (count rank queue : ℕ → ℕ) (k top : ℕ) : Type 0 where
  pub counts : (v : ℕ) → v < g.n → count v ≡ awaited g lab in_edge done v
  pub member : (i : ℕ) → i < k → (queue i < g.n) × (count (queue i) ≡ 0)
  pub listed : (v : ℕ) → v < g.n → count v ≡ 0 → (i : ℕ) × (i < k) × (queue i ≡ v)
  pub once : (i j : ℕ) → i < j → j < k → queue i ≡ queue j → ⊥
  pub size : k ≡ many (λ v. eqb (count v) 0) g.n
  pub settled : (e : ℕ) → e < edges g → T (done e) → count (from g e) ≡ 0
  pub raised : (e : ℕ) → e < edges g → T (done e) → lead g lab in_edge e < g.n → rank (from g e) + rise g lab e ≤ rank (lead g lab in_edge e)
  pub attained : (v : ℕ) → v < g.n → (rank v ≡ 0)
      ⊎ ((e : ℕ) × (e < edges g) × T (done e) × (lead g lab in_edge e ≡ v) × (rank v ≡ rank (from g e) + rise g lab e))
  pub bounded : (v : ℕ) → v < g.n → rank v ≤ top

-- edge e is gone too
abbrev pub extend : (ℕ → Bool) → ℕ → ℕ → Bool
extend done e x = done x || eqb x e

-- the first i of a row of edges are gone too
unfoldable pub extends : (ℕ → Bool) → (ℕ → ℕ) → ℕ → ℕ → Bool
extends done row zero = done
extends done row (suc i) = extend (extends done row i) (row i)

-- every vertex has gone, and the ranks are as high as the edges ask, and no higher
pub record Peeled (g : Graph) (lab : List ℕ) (in_edge rank : ℕ → ℕ) : Type 0 where
  pub raised : (e : ℕ) → e < edges g → lead g lab in_edge e < g.n → rank (from g e) + rise g lab e ≤ rank (lead g lab in_edge e)
  pub attained : (v : ℕ) → v < g.n → (rank v ≡ 0)
      ⊎ ((e : ℕ) × (e < edges g) × (lead g lab in_edge e ≡ v) × (rank v ≡ rank (from g e) + rise g lab e))

-- some vertex stays, and each that stays waits for an edge from another
pub record Stuck (g : Graph) (lab : List ℕ) (in_edge count : ℕ → ℕ) : Type 0 where
  pub stays : (v : ℕ) × (v < g.n) × (count v ≡ 0 → ⊥)
  pub waits : (v : ℕ) → v < g.n → (count v ≡ 0 → ⊥) → (e : ℕ) × (e < edges g) × (lead g lab in_edge e ≡ v) × (count (from g e) ≡ 0 → ⊥)

-- the ranks of a column of labels: one rank a class, greater where a counted edge changes the label, and each reached
pub record Ranks (g : Graph) (lab : List ℕ) (rank : ℕ → ℕ) : Type 0 where
  pub same : (v : ℕ) → v < g.n → rank v ≡ rank (at lab v)
  pub grows : (e : ℕ) → IsEdge g e → (at lab (from g e) ≡ at lab (to g e) → ⊥) → rank (from g e) < rank (to g e)
  pub attained : (v : ℕ) → v < g.n → (rank v ≡ 0)
      ⊎ ((e : ℕ) × IsEdge g e × (at lab (from g e) ≡ at lab (to g e) → ⊥) × (at lab (to g e) ≡ at lab v) × (rank v ≡ rank (from g e) + 1))
