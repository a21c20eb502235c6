-- One pivot: what it reaches and what reaches it within its part. What they share is a component.
use Rattle.std.specs.Prelude.{ℕ, ◌+◌, ◌≤◌, ◌<◌, ◌≡◌, List, ◌⊎◌, length, get_or}
use Rattle.graph.specs.Graph.{Graph}
use Rattle.graph.specs.Limits.{most_vertices}
use Rattle.graph.specs.Apart.{ForwardBackward}
use Rattle.memory.specs.Decomposer.{col, que}
use Rattle.memory.specs.Memory.{Framed}
use Rattle.split.specs.State.{Owned, Stage}

-- The first k of the queue are vertices.
pub record Queued (n b : ℕ) (w : List ℕ) (k : ℕ) : Type 0 where
  pub member : (i : ℕ) → i < k → que n b w i < n
  pub few : k ≤ n
  pub small : n ≤ most_vertices
  pub fits : b + n + n ≤ length w

-- The lowest among the first k of the queue that have the colour d is l, which is n if there is none.
pub record Lowest (n b : ℕ) (w : List ℕ) (k d l : ℕ) : Type 0 where
  pub least : (i : ℕ) → i < k → col b w (que n b w i) ≡ d → l ≤ que n b w i
  pub found : (l ≡ n) ⊎ ((i : ℕ) × (i < k) × (que n b w i ≡ l) × (col b w l ≡ d))

pub record NameAsk (n b : ℕ) (w : List ℕ) (k d l : ℕ) : Type 0 where
  pub queued : Queued n b w k
  pub other : l ≡ d → ⊥

-- What has the colour d among the first k of the queue has got the colour l, and nothing else has changed.
pub record Named (n b : ℕ) (w : List ℕ) (k d l : ℕ) (w' : List ℕ) : Type 0 where
  pub each : (v : ℕ) → v < n → (col b w' v ≡ col b w v) ⊎ ((col b w v ≡ d) × (col b w' v ≡ l))
  pub done : (i : ℕ) → i < k → col b w' (que n b w i) ≡ d → ⊥
  pub low : (j : ℕ) → j < b → get_or w' j 0 ≡ get_or w j 0
  pub high : (j : ℕ) → b + n ≤ j → get_or w' j 0 ≡ get_or w j 0
  pub long : length w' ≡ length w

pub record LabelAsk (n b : ℕ) (w : List ℕ) (k d : ℕ) : Type 0 where
  pub queued : Queued n b w k
  pub part : n < d

-- What has the colour d among the first k of the queue has got its lowest vertex as colour.
pub record Labelled (n b : ℕ) (w : List ℕ) (k d : ℕ) (w' : List ℕ) : Type 0 where
  pub vertex : ℕ
  pub lowest : Lowest n b w k d vertex
  pub named : Named n b w k d vertex w'

-- p is a vertex of the part q; top and all above it are no colours yet.
pub record PivotAsk (g : Graph) (b p q top : ℕ) (w : List ℕ) : Type 0 where
  pub stage : Stage g b top w
  pub start : p < g.n
  pub live : col b w p ≡ q
  pub part : g.n ≤ q

-- The part q was split at p: p's component has its label, the parts f and f + 1 are new.
pub record Split (g : Graph) (b p q f : ℕ) (w w' : List ℕ) : Type 0 where
  pub owned : Owned g (col b w') (f + 2)
  pub ours : (v : ℕ) → v < g.n → col b w v ≡ q → (col b w' v ≡ q) ⊎ ((col b w' v < g.n) ⊎ (f ≤ col b w' v))
  pub pivot : col b w' p < g.n
  pub one : (v : ℕ) → v < g.n → col b w' v < g.n → (col b w' v ≡ col b w v) ⊎ (col b w' v ≡ col b w' p)
  pub method : ForwardBackward g p q f (col b w) (col b w')
  pub kept : Framed b (b + g.n + g.n) w w'
