-- The order in which a sweep takes its pivots: the vertices of the caller's list first, then the others rising.
use Rattle.std.specs.Prelude.{◌≡◌, ℕ, ◌+◌, ◌<◌, ◌≤◌, Bool, T, List, length, slice_index}
use Rattle.graph.specs.Numbers.{least}
use Rattle.graph.specs.Pivot.{listed}
use Rattle.memory.specs.Decomposer.{order_at, ord}

-- ord 0, .. ord (n - 1) are the vertices, each once; the first whose test holds is the pivot that the list gives
pub record Arranged (n : ℕ) (list : List ℕ) (ord : ℕ → ℕ) : Type 0 where
  pub low : (i : ℕ) → i < n → ord i < n
  pub one : (i j : ℕ) → i < n → j < n → ord i ≡ ord j → i ≡ j
  pub all : (v : ℕ) → v < n → (i : ℕ) × (i < n) × (ord i ≡ v)
  pub exact : (p : ℕ → Bool) (v : ℕ) → v < n → T (p v) → ord (least n (λ i. p (ord i))) ≡ listed n p list

-- only the colours at b and the order may have changed
pub record Beside (n b : ℕ) (w w' : List ℕ) : Type 0 where
  pub long : length w' ≡ length w
  pub low : (j : ℕ) → j < b → slice_index w' j ≡ slice_index w j
  pub between : (j : ℕ) → b + n ≤ j → j < order_at n b → slice_index w' j ≡ slice_index w j
  pub high : (j : ℕ) → order_at n b + n ≤ j → slice_index w' j ≡ slice_index w j

pub record Ordered (n : ℕ) (list : List ℕ) (b : ℕ) (w w' : List ℕ) : Type 0 where
  pub order : Arranged n list (ord n b w')
  pub beside : Beside n b w w'
