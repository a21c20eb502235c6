-- How the order is filled: a vertex is marked when it takes its place.
use Rattle.std.specs.Prelude.{◌≡◌, ℕ, ◌+◌, ◌<◌, ◌≤◌, Bool, T, List, length, ◌≢◌, nat_eq, slice_index, slice_set}
use Rattle.graph.specs.Limits.{most_vertices}
use Rattle.graph.specs.Numbers.{least, many}
use Rattle.graph.specs.Pivot.{listed}
use Rattle.memory.specs.Decomposer.{order_at, ord}
use Rattle.pivot.specs.Order.{Arranged, Beside}

-- v's mark: 1 once it has its place
abbrev pub marked : ℕ → List ℕ → ℕ → ℕ
marked b w v = slice_index w (b + v)

pub record Room (n b : ℕ) (w : List ℕ) : Type 0 where
  pub small : n ≤ most_vertices
  pub fits : order_at n b + n ≤ length w

-- there is room for v, if it has still to be placed
pub record Place (n b k v : ℕ) (w : List ℕ) : Type 0 where
  pub room : Room n b w
  pub free : v < n → marked b w v ≡ 0 → k < n

-- v takes place k if it is a vertex and not marked
pub data Placed (n b k v : ℕ) (w : List ℕ) : List ℕ → ℕ → Type 0 where
  outside : n ≤ v → Placed n b k v w w k
  again : v < n → (marked b w v ≢ 0) → Placed n b k v w w k
  placed : v < n → marked b w v ≡ 0 → Placed n b k v w (slice_set (slice_set w (b + v) 1) (order_at n b + k) v) (k + 1)

-- the first k places hold the marked vertices, each once
pub record Filling (n k : ℕ) (mark ord : ℕ → ℕ) : Type 0 where
  pub low : (i : ℕ) → i < k → ord i < n
  pub one : (i j : ℕ) → i < k → j < k → ord i ≡ ord j → i ≡ j
  pub inside : (i : ℕ) → i < k → mark (ord i) ≡ 1
  pub out : (v : ℕ) → v < n → mark v ≡ 1 → (i : ℕ) × (i < k) × (ord i ≡ v)
  pub binary : (v : ℕ) → v < n → mark v ≤ 1
  pub size : many (λ v. nat_eq (mark v) 1) n ≡ k

-- the first of the k places that passes is the list's pivot; if none passes, the pivot is rest's
pub record Leads (n : ℕ) (list : List ℕ) (k : ℕ) (ord : ℕ → ℕ) (rest : (ℕ → Bool) → ℕ) : Type 0 where
  pub hit : (p : ℕ → Bool) (i : ℕ) → i < k → T (p (ord i)) → ((j : ℕ) → j < i → T (p (ord j)) → ⊥) → ord i ≡ listed n p list
  pub miss : (p : ℕ → Bool) → ((j : ℕ) → j < k → T (p (ord j)) → ⊥) → rest p ≡ listed n p list

pub record Begun (n b : ℕ) (w : List ℕ) : Type 0 where
  pub room : Room n b w
  pub zero : (v : ℕ) → v < n → marked b w v ≡ 0

-- the vertices of the list are placed
pub record Listing (n b : ℕ) (list w w' : List ℕ) (k : ℕ) : Type 0 where
  pub beside : Beside n b w w'
  pub filling : Filling n k (marked b w') (ord n b w')
  pub leads : Leads n list k (ord n b w') (least n)

pub record Rest (n b k : ℕ) (w : List ℕ) : Type 0 where
  pub room : Room n b w
  pub filling : Filling n k (marked b w) (ord n b w)

-- all are placed, after whatever list led here
pub record AllPlaced (n b k : ℕ) (w w' : List ℕ) : Type 0 where
  pub beside : Beside n b w w'
  pub order : (list : List ℕ) → Leads n list k (ord n b w) (least n) → Arranged n list (ord n b w')
