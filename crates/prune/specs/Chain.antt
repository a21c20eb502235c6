-- A part is a colour, and a chain of places: those of its vertices in an order of all vertices, rising from the first.
use Rattle.std.specs.Prelude.{ℕ, ◌≤◌, ◌<◌, ◌≡◌, List}
use Rattle.memory.specs.Decomposer.{ord, own, nxt}

-- The order has vertices only, and each of them.
pub record Placed (n b : ℕ) (w : List ℕ) : Type 0 where
  pub low : (i : ℕ) → i < n → ord n b w i < n
  pub all : (v : ℕ) → v < n → (i : ℕ) × (i < n) × (ord n b w i ≡ v)

-- h is the first place of the colour q, or n if there is none
pub record Head (n : ℕ) (own : ℕ → ℕ) (q h : ℕ) : Type 0 where
  pub most : h ≤ n
  pub here : h < n → own h ≡ q
  pub none : (u : ℕ) → u < h → own u ≡ q → ⊥

-- y is the next place after i of its colour, or n if there is none
pub record Follows (n : ℕ) (own : ℕ → ℕ) (i y : ℕ) : Type 0 where
  pub more : i < y
  pub most : y ≤ n
  pub same : y < n → own y ≡ own i
  pub none : (u : ℕ) → i < u → u < y → own u ≡ own i → ⊥

-- the chain of places goes from h through all places of the colour q
pub record Chained (n b q h : ℕ) (w : List ℕ) : Type 0 where
  pub placed : Placed n b w
  pub head : Head n (own n b w) q h
  pub next : (i : ℕ) → i < n → own n b w i ≡ q → Follows n (own n b w) i (nxt n b w i)
