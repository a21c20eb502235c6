-- One pivot by either method: method 0 splits its part, method 1 (slicing is 1) slices what it reaches.
use Rattle.std.specs.Prelude.{ℕ, ◌+◌, ◌≤◌, ◌<◌, ◌≡◌, List, ◌⊎◌}
use Rattle.graph.specs.Graph.{Graph}
use Rattle.memory.specs.Decomposer.{col, Inside}
use Rattle.split.specs.State.{Owned, Stage}
use Rattle.split.specs.Split.{Split}
use Rattle.slices.specs.Slice.{Uncut, Sliced}

-- A pivot may be taken in the part q.
pub record Ready (g : Graph) (slicing b q top : ℕ) (w : List ℕ) : Type 0 where
  pub stage : Stage g b top w
  pub part : g.n ≤ q
  pub known : q < top
  pub uncut : slicing ≡ 1 → Uncut g b q top w

pub record TakeAsk (g : Graph) (slicing b p q top : ℕ) (w : List ℕ) : Type 0 where
  pub ready : Ready g slicing b q top w
  pub start : p < g.n
  pub live : col b w p ≡ q

-- The pivot p was taken in the part q: what has left the part has its label or a new colour, and p has left it.
pub record Taken (g : Graph) (slicing b p q top : ℕ) (w w' : List ℕ) (top' : ℕ) : Type 0 where
  pub owned : Owned g (col b w') top'
  pub others : (v : ℕ) → v < g.n → (col b w v ≡ q → ⊥) → col b w' v ≡ col b w v
  pub ours : (v : ℕ) → v < g.n → col b w v ≡ q → (col b w' v ≡ q) ⊎ ((col b w' v < g.n) ⊎ (top ≤ col b w' v))
  pub pivot : col b w' p ≡ q → ⊥
  pub least : top ≤ top'
  pub inside : Inside g.n b w w'
  pub how : ((slicing ≡ 1 → ⊥) × (top' ≡ top + 2) × Split g b p q top w w') ⊎ ((slicing ≡ 1) × Sliced g b p q top w w' top')
