-- Words and numbers.
use Prim.Native.Nat.{ℕ, ◌+◌, ◌*◌, ◌-◌, ◌^◌, ◌≤◌, ◌<◌}
use native.Mathlib.Nat.{pow-le-pow_right, pow-suc}
use native.Mathlib.Numerals.{add-one}
use native.Mathlib.Omega.{arith}
use mathlib.Core.Path.{◌≡◌, refl, ◌∙◌}
use mathlib.Core.Bool.{Bool, true, false, ◌&&◌}
use mathlib.Core.List.{List}
use lib.ListN.{length, get_or, drop, drop_of_length-le}
use lib.Seq.{drop-cons}
use lib.Dec.{eqb}
use borrow.Author.Tests.{le-leb, lt-leb, eqb-true, eqb-false}
use Rattle.std.proofs.Common.{Some, None}
use Rattle.lines.specs.Numbers.{most_digits, digits_only, value_from, number_of}

pub and_no : (t : Bool) → (t && false) ≡ false
and_no true = refl
and_no false = refl

module _ (w : List ℕ) where
  pub number_none : eqb (length w) 0 ≡ true → None ≡ number_of w
  unfolding number_of
  number_none e = let h : length w < 1 = omega (arith, eqb-true (length w) 0 e) in simp (lt-leb _ _ h)

  pub number_long : most_digits < length w → None ≡ number_of w
  unfolding number_of
  number_long h = simp (lt-leb _ _ h, and_no)

  number_bad : digits_only w ≡ false → None ≡ number_of w
  unfolding number_of
  number_bad h = simp (h, and_no)

-- the word is read up to i, with the value v
pub record Digits (w : List ℕ) (v i : ℕ) : Type 0 where
  pub within : i ≤ length w
  pub small : v < 10 ^ i
  pub digits : digits_only w ≡ digits_only (drop i w)
  pub value : value_from 0 w ≡ value_from v (drop i w)

pub digits_none : (w : List ℕ) → Digits w 0 0
digits_none w = record { within = omega arith; small = omega arith; digits = refl; value = refl }

module _ (w : List ℕ) (v i : ℕ) (r : Digits w v i) where
  pub digits_end : eqb (length w) 0 ≡ false → length w ≤ most_digits → length w ≤ i → Some v ≡ number_of w
  unfolding number_of digits_only value_from
  digits_end a b h = let some : 1 ≤ length w = omega (arith, eqb-false (length w) 0 a) in simp (le-leb _ _ some, le-leb _ _ b, r.digits, r.value, drop_of_length-le w h)

  module _ (h : i < length w) where
    -- a value of at most 9 digits fits
    pub digits_room : length w ≤ most_digits → v < 100000000
    digits_room l = let k : i ≤ 8 = omega arith in let p : 10 ^ i ≤ 10 ^ 8 = pow-le-pow_right (omega arith) k in omega (arith, r.small)

    pub digits_low : get_or w i 0 < 48 → None ≡ number_of w
    unfolding digits_only
    digits_low a = number_bad w (r.digits ∙ rw (drop-cons w i 0) (simp (lt-leb _ _ a)))

    pub digits_high : 57 < get_or w i 0 → None ≡ number_of w
    unfolding digits_only
    digits_high a = number_bad w (r.digits ∙ rw (drop-cons w i 0) (simp (lt-leb _ _ a, and_no)))

    pub digits_step : 48 ≤ get_or w i 0 → get_or w i 0 ≤ 57 → Digits w (v * 10 + (get_or w i 0 - 48)) (i + 1)
    unfolding digits_only value_from
    digits_step a b =
        record {
          within = omega arith;
          small = rw add-one (omega (arith, pow-suc 10 i, r.small));
          digits = r.digits ∙ rw (add-one, drop-cons w i 0) (simp (le-leb _ _ a, le-leb _ _ b));
          value = r.value ∙ rw (add-one, drop-cons w i 0);
        }
