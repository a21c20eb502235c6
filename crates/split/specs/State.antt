-- The state of a decomposition: each vertex has one colour, its label if that is below n, else the number of the part it is in.
use Rattle.std.specs.Prelude.{ℕ, ◌+◌, ◌*◌, ◌≤◌, ◌<◌, ◌≡◌, Bool, ◌&&◌, not, List, length, ltb, eqb}
use Rattle.graph.specs.Graph.{Graph, Valid, Same, IsLabel, rev, edges}
use Rattle.graph.specs.Limits.{most_vertices, most_edges}
use Rattle.graph.specs.Numbers.{some_below, many}
use Rattle.index.specs.Index.{Held}
use Rattle.memory.specs.Decomposer.{col, ord}

-- The neighbours forward and backward stand in the front of w, below b.
pub record Tables (g : Graph) (b : ℕ) (w : List ℕ) : Type 0 where
  pub valid : Valid g
  pub few : edges g ≤ most_edges
  pub small : g.n ≤ most_vertices
  pub below : 2 * (g.n + 1 + edges g) ≤ b
  pub fwd : Held g 0 w
  pub bwd : Held (rev g) (g.n + 1 + edges g) w

-- Colours are constant on components, those below n are the right labels, and all are below top.
pub record Owned (g : Graph) (own : ℕ → ℕ) (top : ℕ) : Type 0 where
  pub whole : (u v : ℕ) → u < g.n → Same g u v → own u ≡ own v
  pub right : (v : ℕ) → v < g.n → own v < g.n → IsLabel g v (own v)
  pub below : (v : ℕ) → v < g.n → own v < top

-- how many vertices have the colour q
abbrev pub held : ℕ → ℕ → ℕ → List ℕ → ℕ
held n b q w = many (λ v. eqb (col b w v) q) n

-- how many vertices have their label
abbrev pub labelled : Graph → ℕ → List ℕ → ℕ
labelled g b w = many (λ v. ltb (col b w v) g.n) g.n

-- l is a label that another vertex shares
unfoldable pub ring : ℕ → (ℕ → ℕ) → ℕ → Bool
ring n own l = eqb (own l) l && some_below n (λ v. not (eqb v l) && eqb (own v) l)

-- how many components of two or more vertices have their label
abbrev pub rings : Graph → ℕ → List ℕ → ℕ
rings g b w = many (ring g.n (col b w)) g.n

-- The order has vertices only, and each of them once.
pub record Placed (n b : ℕ) (w : List ℕ) : Type 0 where
  pub low : (i : ℕ) → i < n → ord n b w i < n
  pub one : (i j : ℕ) → i < n → j < n → ord n b w i ≡ ord n b w j → i ≡ j
  pub all : (v : ℕ) → v < n → (i : ℕ) × (i < n) × (ord n b w i ≡ v)

-- top is the first colour that no part has; each vertex without a label has room for two colours more.
pub record Stage (g : Graph) (b top : ℕ) (w : List ℕ) : Type 0 where
  pub tables : Tables g b w
  pub placed : Placed g.n b w
  pub owned : Owned g (col b w) top
  pub room : top ≤ 2 * g.n + 2 + 2 * labelled g b w
  pub long : b + 10 * g.n + 2 ≤ length w
