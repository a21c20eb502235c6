-- Numbers in decimal.
use Prim.Native.Nat.{ℕ, zero, suc, ◌+◌, ◌*◌, ◌-◌, ◌^◌, ◌≤◌, ◌<◌}
use native.Mathlib.Nat.{pow-suc, pow-le-pow_right, lt_of_not-le}
use native.Mathlib.Numerals.{add-one}
use native.Mathlib.Decide.{dec_lt}
use native.Mathlib.Omega.{arith}
use mathlib.Core.Path.{◌≡◌, refl, ap}
use mathlib.Core.Bool.{Bool}
use lib.Dec.{ltb, ltb→lt, lt→ltb}
use lib.ListN.{length}
use Rattle.graph.specs.Numbers.{least}
use Rattle.graph.proofs.Tests.{least_passes, least_first}
use Rattle.labels.specs.File.{width, digits, decimal}
use Rattle.labels.specs.Steps.{most_number, Measured}

-- the smallest power above x gives its width
width_is : (x d : ℕ) → x < 10 ^ (d + 1) → d < 19 → ((j : ℕ) → j < d → 10 ^ (j + 1) ≤ x) → width x ≡ 1 + d
unfolding width
width_is x d h l low =
    let f : ℕ → Bool = λ k. ltb x (10 ^ (k + 1)) in
    let a = least_first 19 f d l (lt→ltb x (10 ^ (d + 1)) h) in
    let b = lt_of_not-le (λ (s : suc (least 19 f) ≤ d). omega (arith, low (least 19 f) s, ltb→lt x (10 ^ (least 19 f + 1)) (least_passes 19 f (omega arith)))) in
    omega arith

pub digits_length : (k x : ℕ) → length (digits k x) ≡ k
unfolding digits
digits_length zero x = refl
digits_length (suc k) x = ap suc (digits_length k x)

pub decimal_length : (x : ℕ) → length (decimal x) ≡ width x
unfolding decimal
decimal_length x = digits_length (width x) x

-- the power grows past x
pub record Growing (x d power : ℕ) : Type 0 where
  pub some : 1 ≤ d
  pub few : d ≤ 10
  pub positive : 1 ≤ power
  pub is : power ≡ 10 ^ d
  pub low : (j : ℕ) → j + 1 < d → 10 ^ (j + 1) ≤ x

pub grow_none : (x : ℕ) → Growing x 1 10
grow_none x = record { some = omega arith; few = omega arith; positive = omega arith; is = refl; low = λ j h. absurd (omega arith) }

module _ (x d power : ℕ) (g : Growing x d power) where
  pub grow_step : x ≤ most_number → power ≤ x → Growing x (d + 1) (power * 10)
  grow_step m h =
      record {
        some = omega arith;
        few = omega (arith, small);
        positive = omega (arith, g.positive);
        is = rw (add-one d, pow-suc 10 d) (ap (λ (p : ℕ). p * 10) g.is);
        low = λ j s. go j s (dec_lt (j + 1) d);
      }
    where
      small : d < 10
      small = lt_of_not-le (λ (s : 10 ≤ d). let p : 10 ^ 10 ≤ 10 ^ d = pow-le-pow_right (omega arith) s in omega (arith, g.is))

      go : (j : ℕ) → j + 1 < d + 1 → Dec (j + 1 < d) → 10 ^ (j + 1) ≤ x
      go j s (yes l) = g.low j l
      go j s (no l) = let e : j + 1 ≡ d = omega arith in rw e (omega (arith, g.is))

  pub grow_end : x < power → Measured x d power
  grow_end h =
      let e : d - 1 + 1 ≡ d = omega (arith, g.some) in
      let w = width_is x (d - 1) (rw e (omega (arith, g.is))) (omega (arith, g.few)) (λ j l. g.low j (omega arith)) in
      record { exact = omega (arith, g.some); above = g.is; few = g.few }
