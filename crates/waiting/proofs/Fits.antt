-- The bytes of a list of records.
use Prim.Native.Nat.{ℕ, ◌<◌, ◌*◌, ◌^◌}
use native.Mathlib.Omega.{arith}

-- the index times the size of a record fits
pub fits_at : (i n : ℕ) → i < n → n * 8 < 2 ^ 63 → i * 8 < 2 ^ 64
fits_at i n l r = omega arith
