-- The loop that finds a component's lowest vertex.
use Prim.Native.Nat.{ℕ, ◌+◌, ◌≤◌, ◌<◌, min}
use native.Mathlib.Omega.{arith}
use native.Mathlib.Decide.{ℕ_discrete, dec_lt}
use mathlib.Core.Path.{◌≡◌, refl}
use mathlib.Core.Logic.{◌⊎◌, inl, inr, ⊎_elim}
use mathlib.Core.List.{List}
use Rattle.memory.specs.Decomposer.{col, que}
use Rattle.split.specs.Split.{Lowest}

-- the next of the queue has another colour, or is taken where it is lower
module _ {n b : ℕ} {w : List ℕ} {i d l : ℕ} (z : Lowest n b w i d l) where
  pub lowest_skip : (col b w (que n b w i) ≡ d → ⊥) → Lowest n b w (i + 1) d l
  lowest_skip o = record {
    least = λ j h e. elim (ℕ_discrete j i) as (λ _. l ≤ que n b w j) [ yes q ↦ absurd (o (rw q at e)) | no q ↦ z.least j (omega arith) e ];
    found = ⊎_elim inl (λ t. inr (t.0, omega (arith, t.1), t.2, t.3)) z.found;
  }

  pub lowest_take : col b w (que n b w i) ≡ d → Lowest n b w (i + 1) d (min l (que n b w i))
  lowest_take c = record {
    least = λ j t e. elim (ℕ_discrete j i) as (λ _. min l (que n b w i) ≤ que n b w j) [ yes q ↦ rw q (omega arith) | no q ↦ omega (arith, z.least j (omega arith) e) ];
    found = elim (dec_lt (que n b w i) l) as (λ _. (min l (que n b w i) ≡ n) ⊎ ((j : ℕ) × (j < i + 1) × (que n b w j ≡ min l (que n b w i)) × (col b w (min l (que n b w i)) ≡ d))) [
      | yes h ↦ (let e : min l (que n b w i) ≡ que n b w i = omega arith in rw e (inr (i, omega arith, refl, c)))
      | no h ↦ (let e : min l (que n b w i) ≡ l = omega arith in rw e (⊎_elim inl (λ t. inr (t.0, omega (arith, t.1), t.2, t.3)) z.found))
    ];
  }
