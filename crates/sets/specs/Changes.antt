-- What becomes of a set, bit by bit.
use Rattle.std.specs.Prelude.{ℕ, ◌≤◌, ◌<◌, min, max, ◌≡◌, List, length}
use Rattle.graph.specs.Sets.{bit}

-- w' is w with v added
pub record Added (v : ℕ) (w w' : List ℕ) : Type 0 where
  pub long : length w' ≡ length w
  pub here : bit w' v ≡ 1
  pub else : (u : ℕ) → (u ≡ v → ⊥) → bit w' u ≡ bit w u

-- w' is w with v taken out
pub record Removed (v : ℕ) (w w' : List ℕ) : Type 0 where
  pub long : length w' ≡ length w
  pub here : bit w' v ≡ 0
  pub else : (u : ℕ) → (u ≡ v → ⊥) → bit w' u ≡ bit w u

-- each bit of w' is f of those of w and x
pub record Combined (f : ℕ → ℕ → ℕ) (w x w' : List ℕ) : Type 0 where
  pub long : length w' ≡ length w
  pub bits : (v : ℕ) → bit w' v ≡ f (bit w v) (bit x v)

-- w' is the join of w and x, or what they share
abbrev pub Joined : List ℕ → List ℕ → List ℕ → Type 0
Joined = Combined max

abbrev pub Shared : List ℕ → List ℕ → List ℕ → Type 0
Shared = Combined min

-- w' is w with the bits at n and above zero
pub record Clipped (n : ℕ) (w w' : List ℕ) : Type 0 where
  pub long : length w' ≡ length w
  pub below : (v : ℕ) → v < n → bit w' v ≡ bit w v
  pub above : (v : ℕ) → n ≤ v → bit w' v ≡ 0
