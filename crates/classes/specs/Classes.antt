-- Classes: the vertices of one label. The distance inside a class.
use Rattle.std.specs.Prelude.{ℕ, ◌≤◌, ◌<◌, ◌≡◌, List}
use Rattle.graph.specs.Graph.{Graph, Part, Chain}
use Rattle.graph.specs.Checker.{at}

-- the vertices whose label is l
abbrev pub class : List ℕ → ℕ → Part
class lab l v = at lab v ≡ l

-- check 1 for every vertex
abbrev pub OwnLabels : ℕ → List ℕ → Type 0
OwnLabels n lab = (v : ℕ) → v < n → (at lab v ≤ v) × (at lab (at lab v) ≡ at lab v)

-- v is d edges from its label, by a shortest chain that stays in the class
pub record Near (g : Graph) (lab : List ℕ) (v d : ℕ) : Type 0 where
  pub chain : Chain g (class lab (at lab v)) d (at lab v) v
  pub shortest : (h : ℕ) → Chain g (class lab (at lab v)) h (at lab v) v → d ≤ h

-- d is a column of such distances
abbrev pub Distances : Graph → List ℕ → (ℕ → ℕ) → Type 0
Distances g lab d = (v : ℕ) → v < g.n → Near g lab v (d v)
