-- One law for every width: the product of two numbers of k bits has at most k + k.
use mathlib.Core.Path.{subst⁻¹}
use Rattle.std.proofs.Common.{ℕ, ◌+◌, ◌*◌, ◌^◌, ◌<◌, lt_of_le_of_lt, le_of_lt, mul-le-mul_left, mul-lt-mul_of_pos_right, pow_pos, pow-add}

pub below : (k : ℕ) {a b : ℕ} → a < 2 ^ k → b < 2 ^ k → a * b < 2 ^ (k + k)
below k {a} {b} ha hb =
    subst⁻¹ (λ (n : ℕ). a * b < n) (pow-add 2 k k)
    (lt_of_le_of_lt (mul-le-mul_left a (le_of_lt hb)) (mul-lt-mul_of_pos_right ha (pow_pos k)))
