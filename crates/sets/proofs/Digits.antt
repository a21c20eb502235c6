-- The digits of a word after a shift, a mask or a complement.
use mathlib.Core.Path.{◌≡◌, sym, ap, ◌∙◌}
use Prim.Native.Nat.{ℕ, zero, suc, ◌<◌, ◌≤◌, ◌+◌, ◌-◌, ◌*◌, ◌/◌, ◌%◌, ◌^◌, min, max}
use native.Mathlib.Omega.{arith}
use native.Mathlib.Nat.{one-mul, pow-suc, div-eq_of_lt, div-one, not-suc-le-zero}
use native.Mathlib.Numerals.{one-add}
use native.Mathlib.Decide.{dec_lt}
use lib.Dec.{lit<}
use lib.Bits.{bit_and, bit_or, and_step, or_step, and_shr, or_shr, and_mask, mask_lt}
use lib.Pow.{pow-add, pow_pos, pow_mono, shl-shr, shl_exact, shr-shr, field, mod-mod-pow}

pub or_digit : (a b : ℕ) → bit_or a b % 2 ≡ max (a % 2) (b % 2)
or_digit a b = omega (arith, or_step a b)

pub and_digit : (a b : ℕ) → bit_and a b % 2 ≡ min (a % 2) (b % 2)
and_digit a b = omega (arith, and_step a b)

-- the digit at j of a join, and of a meet
pub or_at : (a b j : ℕ) → bit_or a b / 2 ^ j % 2 ≡ max (a / 2 ^ j % 2) (b / 2 ^ j % 2)
or_at a b j = rw or_shr (or_digit (a / 2 ^ j) (b / 2 ^ j))

pub and_at : (a b j : ℕ) → bit_and a b / 2 ^ j % 2 ≡ min (a / 2 ^ j % 2) (b / 2 ^ j % 2)
and_at a b j = rw and_shr (and_digit (a / 2 ^ j) (b / 2 ^ j))

-- halving first, or one place further
pub half_at : (x j : ℕ) → x / 2 / 2 ^ j % 2 ≡ x / 2 ^ suc j % 2
half_at x j = rw (shr-shr x 1 j, one-add)

-- the digits of 1 << k
pub one_at : (k : ℕ) → (1 * 2 ^ k) / 2 ^ k % 2 ≡ 1
one_at k = rw shl-shr

even : (d : ℕ) → 2 ^ suc d % 2 ≡ 0
even d = rw pow-suc (omega arith)

above : (j k : ℕ) → j < k → (1 * 2 ^ k) / 2 ^ j % 2 ≡ 0
above j k h =
    let e : k ≡ suc (k - suc j) + j = omega arith in
    let p : 1 * 2 ^ k ≡ 2 ^ suc (k - suc j) * 2 ^ j = one-mul (2 ^ k) ∙ ap (λ (x : ℕ). 2 ^ x) e ∙ pow-add 2 (suc (k - suc j)) j in
    ap (λ (x : ℕ). x / 2 ^ j % 2) p ∙ ap (λ (x : ℕ). x % 2) (shl-shr (2 ^ suc (k - suc j)) j) ∙ even (k - suc j)

-- a number below 2 ^ k has no digit at k and above
pub small_at : (x k j : ℕ) → x < 2 ^ k → k ≤ j → x / 2 ^ j % 2 ≡ 0
small_at x k j h l = ap (λ (y : ℕ). y % 2) (div-eq_of_lt (omega (arith, pow_mono l)))

pub one_else : (j k : ℕ) → (j ≡ k → ⊥) → (1 * 2 ^ k) / 2 ^ j % 2 ≡ 0
one_else j k ne = elim (dec_lt j k) as (λ _. (1 * 2 ^ k) / 2 ^ j % 2 ≡ 0) [
  | yes h ↦ above j k h
  | no h ↦ small_at (1 * 2 ^ k) (suc k) j (omega (arith, one-mul (2 ^ k), pow-suc 2 k, pow_pos k)) (omega arith)
]

-- 1 << k loses nothing if k is below 64
pub shifted : (k : ℕ) → k < 64 → (1 * 2 ^ k) % 2 ^ 64 ≡ 1 * 2 ^ k
shifted k h = shl_exact 1 k 64 (lit< tt) (omega arith)

-- the complement has the other digits
pub not_at : (k x j : ℕ) → x < 2 ^ k → j < k → ((2 ^ k - 1) - x) / 2 ^ j % 2 ≡ 1 - x / 2 ^ j % 2
not_at zero x j h l = absurd (not-suc-le-zero l)
not_at (suc k) x zero h l = omega (arith, pow-suc 2 k, div-one ((2 ^ suc k - 1) - x), div-one x)
not_at (suc k) x (suc j) h l =
    let e : ((2 ^ suc k - 1) - x) / 2 ≡ (2 ^ k - 1) - x / 2 = omega (arith, pow-suc 2 k, pow_pos k) in
    sym (half_at ((2 ^ suc k - 1) - x) j) ∙ ap (λ (y : ℕ). y / 2 ^ j % 2) e
    ∙ not_at k (x / 2) j (omega (arith, pow-suc 2 k)) (omega arith) ∙ ap (λ (y : ℕ). 1 - y) (half_at x j)

-- a mask of the k lowest digits keeps those, and no others
pub mask_low : (x k j : ℕ) → j < k → bit_and x (2 ^ k - 1) / 2 ^ j % 2 ≡ x / 2 ^ j % 2
mask_low x k j l =
    let e : k ≡ suc (k - suc j) + j = omega arith in
    let d : suc (k - suc j) ≡ (k - suc j) + 1 = omega arith in
    ap (λ (y : ℕ). y / 2 ^ j % 2) (and_mask x k ∙ ap (λ (i : ℕ). x % 2 ^ i) e)
    ∙ ap (λ (y : ℕ). y % 2) (field x (suc (k - suc j)) j ∙ ap (λ (i : ℕ). x / 2 ^ j % 2 ^ i) d)
    ∙ mod-mod-pow (x / 2 ^ j) (k - suc j) 1

pub mask_high : (x k j : ℕ) → k ≤ j → bit_and x (2 ^ k - 1) / 2 ^ j % 2 ≡ 0
mask_high x k j l = small_at (bit_and x (2 ^ k - 1)) k j (mask_lt x k) l
