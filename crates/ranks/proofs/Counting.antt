-- Exact counts: equal tests, one that drops out, none and all.
use Prim.Native.Nat.{ℕ, zero, suc, ◌+◌, ◌<◌}
use native.Mathlib.Omega.{arith}
use native.Mathlib.Decide.{ℕ_discrete}
use mathlib.Core.Path.{◌≡◌, refl}
use mathlib.Core.Logic.{by_cases}
use mathlib.Core.Bool.{Bool, true, false, cond}
use Rattle.graph.specs.Numbers.{many}
use Rattle.graph.proofs.Counts.{many_le}
use Rattle.graph.proofs.Ranges.{many_ext}

-- f is h and j besides
pub many_drop : (f h : ℕ → Bool) (n j : ℕ) → j < n → f j ≡ true → h j ≡ false → ((i : ℕ) → i < n → (i ≡ j → ⊥) → f i ≡ h i) → many f n ≡ many h n + 1
unfolding many
many_drop f h zero j l p q e = absurd (omega arith)
many_drop f h (suc n) j l p q e = by_cases (ℕ_discrete j n)
    (λ z.
    let fn : f n ≡ true = rw z at p in
    let hn : h n ≡ false = rw z at q in
    let s : many f n ≡ many h n = many_ext f h n (λ i k. e i (omega arith) (λ y. omega arith)) in
    rw (fn, hn) (omega arith))
    (λ o.
    let s : many f n ≡ many h n + 1 = many_drop f h n j (omega arith) p q (λ i k y. e i (omega arith) y) in
    let t : f n ≡ h n = e n (omega arith) (λ y. omega arith) in
    rw t (omega arith))

pub many_all : (f : ℕ → Bool) (n : ℕ) → many f n ≡ n → (i : ℕ) → i < n → f i ≡ true
unfolding many
many_all f zero q i l = absurd (omega arith)
many_all f (suc n) q i l = by_cases (ℕ_discrete i n) (λ z. rw z (go (f n) q)) (λ o. many_all f n (full (f n) q) i (omega arith))
  where
    go : (b : Bool) → cond b 1 0 + many f n ≡ suc n → b ≡ true
    go true q = refl
    go false q = absurd (omega (arith, many_le f n))

    full : (b : Bool) → cond b 1 0 + many f n ≡ suc n → many f n ≡ n
    full true q = omega arith
    full false q = absurd (omega (arith, many_le f n))

pub many_short : (f : ℕ → Bool) (n : ℕ) → many f n < n → (i : ℕ) × (i < n) × (f i ≡ false)
unfolding many
many_short f zero q = absurd (omega arith)
many_short f (suc n) q = go (f n) refl q (many_short f n)
  where
    go : (b : Bool) → f n ≡ b → cond b 1 0 + many f n < suc n → (many f n < n → (i : ℕ) × (i < n) × (f i ≡ false)) → (i : ℕ) × (i < suc n) × (f i ≡ false)
    go true z q ih = let (i, l, e) = ih (omega arith) in (i, omega arith, e)
    go false z q ih = (n, omega arith, z)

pub many_some : (f : ℕ → Bool) (n : ℕ) → (many f n ≡ 0 → ⊥) → (i : ℕ) × (i < n) × (f i ≡ true)
unfolding many
many_some f zero o = absurd (o refl)
many_some f (suc n) o = go (f n) refl o (many_some f n)
  where
    go : (b : Bool) → f n ≡ b → (cond b 1 0 + many f n ≡ 0 → ⊥) → ((many f n ≡ 0 → ⊥) → (i : ℕ) × (i < n) × (f i ≡ true)) → (i : ℕ) × (i < suc n) × (f i ≡ true)
    go true z o ih = (n, omega arith, z)
    go false z o ih = let (i, l, e) = ih (λ q. o (omega arith)) in (i, omega arith, e)
