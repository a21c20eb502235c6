-- Going round over n places.
use Prim.Native.Nat.{ℕ, ◌+◌, ◌-◌, ◌≤◌, ◌<◌}
use native.Mathlib.Omega.{arith}
use native.Mathlib.Decide.{dec_lt}
use mathlib.Core.Path.{◌≡◌}
use mathlib.Core.Logic.{◌⊎◌, inl, inr}
use borrow.Author.Tests.{lt-ltb, le-ltb}
use Rattle.machine.specs.Aim.{wrapped}

abbrev Is : ℕ → ℕ → Type 0
Is n x = ((x < n) × (wrapped n x ≡ x)) ⊎ ((n ≤ x) × (wrapped n x ≡ x - n))

wrapped_is : (n x : ℕ) → Is n x
unfolding wrapped
wrapped_is n x = elim (dec_lt x n) as (λ _. Is n x) [
  | yes h ↦ inl (h, rw (lt-ltb x n h))
  | no h ↦ inr (omega arith, rw (le-ltb x n (omega arith)))
]

pub wrapped_low : (n x : ℕ) → x < n + n → wrapped n x < n
wrapped_low n x l = go (wrapped_is n x)
  where
    go : Is n x → wrapped n x < n
    go (inl (h, e)) = omega arith
    go (inr (h, e)) = omega arith

pub wrapped_same : (n x : ℕ) → x < n → wrapped n x ≡ x
wrapped_same n x l = go (wrapped_is n x)
  where
    go : Is n x → wrapped n x ≡ x
    go (inl (h, e)) = e
    go (inr (h, e)) = absurd (omega arith)

-- different places are different
pub wrapped_one : (n o i j : ℕ) → o < n → i < n → j < n → wrapped n (o + i) ≡ wrapped n (o + j) → i ≡ j
wrapped_one n o i j l a b q = go (wrapped_is n (o + i)) (wrapped_is n (o + j))
  where
    go : Is n (o + i) → Is n (o + j) → i ≡ j
    go (inl (h, e)) (inl (k, f)) = omega arith
    go (inl (h, e)) (inr (k, f)) = omega arith
    go (inr (h, e)) (inl (k, f)) = omega arith
    go (inr (h, e)) (inr (k, f)) = omega arith

-- the round that begins one place further
pub wrapped_next : (n o i : ℕ) → o < n → i < n → wrapped n (wrapped n (o + 1) + i) ≡ wrapped n (o + (i + 1))
wrapped_next n o i l a = go (wrapped_is n (o + 1)) (wrapped_is n (wrapped n (o + 1) + i)) (wrapped_is n (o + (i + 1)))
  where
    go : Is n (o + 1) → Is n (wrapped n (o + 1) + i) → Is n (o + (i + 1)) → wrapped n (wrapped n (o + 1) + i) ≡ wrapped n (o + (i + 1))
    go (inl (h, e)) (inl (k, f)) (inl (m, d)) = omega arith
    go (inl (h, e)) (inl (k, f)) (inr (m, d)) = omega arith
    go (inl (h, e)) (inr (k, f)) (inl (m, d)) = omega arith
    go (inl (h, e)) (inr (k, f)) (inr (m, d)) = omega arith
    go (inr (h, e)) (inl (k, f)) (inl (m, d)) = omega arith
    go (inr (h, e)) (inl (k, f)) (inr (m, d)) = omega arith
    go (inr (h, e)) (inr (k, f)) (inl (m, d)) = omega arith
    go (inr (h, e)) (inr (k, f)) (inr (m, d)) = omega arith
