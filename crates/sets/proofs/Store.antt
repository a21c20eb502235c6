-- One word of a set is stored: the bits of that word are the new ones, all others as they were.
use mathlib.Core.Path.{◌≡◌, refl, sym, ap, ◌∙◌}
use mathlib.Core.List.{List}
use Prim.Native.Nat.{ℕ, ◌<◌, ◌≤◌, ◌-◌, ◌*◌, ◌/◌, ◌%◌, ◌^◌}
use native.Mathlib.Omega.{arith}
use native.Mathlib.Nat.{one-mul}
use native.Mathlib.Decide.{ℕ_discrete, dec_lt}
use lib.ListN.{length, get_or, set, length-set, get_or-eq_default}
use lib.Seq.{get_or-set_same, get_or-set_other}
use lib.Bits.{bit_and, bit_or}
use lib.Pow.{pow-lt}
use lib.Dec.{eqb}
use mir.Val.{bool_byte}
use borrow.Author.Tests.{ne_eqb}
use Rattle.graph.specs.Limits.{words_of}
use Rattle.graph.specs.Sets.{bit}
use Rattle.memory.specs.Memory.{Zeroed}
use Rattle.sets.specs.Changes.{Added, Removed, Clipped}
use Rattle.sets.proofs.Digits.{or_at, and_at, one_at, one_else, not_at, shifted, small_at, mask_low, mask_high}

pub bit_lt : (w : List ℕ) (v : ℕ) → bit w v < 2
unfolding bit
bit_lt w v = omega arith

-- a bit is 1 or 0 as its test says
pub bit_byte : (w : List ℕ) (v : ℕ) → bool_byte (eqb (bit w v) 1) ≡ bit w v
bit_byte w v = elim (ℕ_discrete (bit w v) 1) as (λ _. bool_byte (eqb (bit w v) 1) ≡ bit w v) [
  | yes e ↦ rw e
  | no q ↦ rw (ne_eqb (bit w v) 1 q) (omega (arith, bit_lt w v))
]

-- two lists of words with the same words below words_of n have the same vertices
pub bit_same : (n : ℕ) (ws ws' : List ℕ) → ((j : ℕ) → j < words_of n → get_or ws' j 0 ≡ get_or ws j 0) → (v : ℕ) → v < n → bit ws' v ≡ bit ws v
unfolding bit
bit_same n ws ws' s v l = rw (s (v / 64) (omega arith)) refl

-- a word that is zero has no bit
pub zero_bit : (w : List ℕ) (v : ℕ) → get_or w (v / 64) 0 ≡ 0 → bit w v ≡ 0
unfolding bit
zero_bit w v e = ap (λ (x : ℕ). x / 2 ^ (v % 64) % 2) e ∙ small_at 0 0 (v % 64) (omega arith) (omega arith)

-- past the words there is no bit
pub bit_past : (w : List ℕ) (v : ℕ) → length w * 64 ≤ v → bit w v ≡ 0
bit_past w v h = zero_bit w v (get_or-eq_default w 0 (omega arith))

-- a set whose words are zero has no bit
pub empty_bit : (k : ℕ) (r r' : List ℕ) → length r ≤ k → Zeroed k r r' → (v : ℕ) → bit r' v ≡ 0
empty_bit k r r' l z v = elim (dec_lt (v / 64) k) as (λ _. bit r' v ≡ 0) [
  | yes h ↦ zero_bit r' v (z.front (v / 64) h)
  | no h ↦ bit_past r' v (omega (arith, z.long))
]

module _ (w : List ℕ) (i x : ℕ) where
  store_in : i < length w → (u : ℕ) → u / 64 ≡ i → bit (set w i x) u ≡ x / 2 ^ (u % 64) % 2
  unfolding bit
  store_in h u e = rw e (ap (λ (y : ℕ). y / 2 ^ (u % 64) % 2) (get_or-set_same w i x 0 h))

  store_out : (u : ℕ) → (u / 64 ≡ i → ⊥) → bit (set w i x) u ≡ bit w u
  unfolding bit
  store_out u ne = ap (λ (y : ℕ). y / 2 ^ (u % 64) % 2) (get_or-set_other w i (u / 64) x 0 ne)

  bit_at : (u : ℕ) → u / 64 ≡ i → bit w u ≡ get_or w i 0 / 2 ^ (u % 64) % 2
  unfolding bit
  bit_at u e = rw e

-- a word that agrees with the old one in every other digit
module _ (w : List ℕ) (v x : ℕ) (h : v / 64 < length w) where
  store_else : ((j : ℕ) → j < 64 → (j ≡ v % 64 → ⊥) → x / 2 ^ j % 2 ≡ get_or w (v / 64) 0 / 2 ^ j % 2) → (u : ℕ) → (u ≡ v → ⊥) → bit (set w (v / 64) x) u ≡ bit w u
  store_else s u ne = elim (ℕ_discrete (u / 64) (v / 64)) as (λ _. bit (set w (v / 64) x) u ≡ bit w u) [
    | yes e ↦ store_in w (v / 64) x h u e ∙ s (u % 64) (omega arith) (λ q. ne (omega arith)) ∙ sym (bit_at w (v / 64) x u e)
    | no q ↦ store_out w (v / 64) x u q
  ]

pow64 : (k : ℕ) → k < 64 → 2 ^ k < 2 ^ 64
pow64 k h = pow-lt h

module _ (w : List ℕ) (v : ℕ) (h : v / 64 < length w) where
  pub added : Added v w (set w (v / 64) (bit_or (get_or w (v / 64) 0) ((1 * 2 ^ (v % 64)) % 2 ^ 64)))
  added = rw (shifted (v % 64) (omega arith)) (record {
    long = length-set w (v / 64) _;
    here = store_in w (v / 64) _ h v refl ∙ or_at (get_or w (v / 64) 0) (1 * 2 ^ (v % 64)) (v % 64) ∙ omega (arith, one_at (v % 64));
    else = store_else w v _ h (λ j l ne. or_at (get_or w (v / 64) 0) (1 * 2 ^ (v % 64)) j ∙ omega (arith, one_else j (v % 64) ne));
  })

  pub removed : Removed v w (set w (v / 64) (bit_and (get_or w (v / 64) 0) ((2 ^ 64 - 1) - (1 * 2 ^ (v % 64)) % 2 ^ 64)))
  removed =
      let s : 1 * 2 ^ (v % 64) < 2 ^ 64 = omega (arith, one-mul (2 ^ (v % 64)), pow64 (v % 64) (omega arith)) in
      rw (shifted (v % 64) (omega arith)) (record {
        long = length-set w (v / 64) _;
        here = store_in w (v / 64) _ h v refl ∙ and_at (get_or w (v / 64) 0) _ (v % 64) ∙ omega (arith, one_at (v % 64), not_at 64 (1 * 2 ^ (v % 64)) (v % 64) s (omega arith));
        else = store_else w v _ h (λ j l ne. and_at (get_or w (v / 64) 0) _ j ∙ omega (arith, one_else j (v % 64) ne, not_at 64 (1 * 2 ^ (v % 64)) j s l));
      })

module _ (w : List ℕ) (n : ℕ) (e : length w ≡ words_of n) where
  -- the words end at n
  pub clip_none : length w ≤ n / 64 → Clipped n w w
  clip_none h = record { long = refl; below = λ v l. refl; above = λ v l. bit_past w v (omega arith) }

  pub clipped : n / 64 < length w → Clipped n w (set w (n / 64) (bit_and (get_or w (n / 64) 0) ((1 * 2 ^ (n % 64)) % 2 ^ 64 - 1)))
  clipped h = rw (shifted (n % 64) (omega arith), one-mul (2 ^ (n % 64))) (record {
    long = length-set w (n / 64) _;
    below = λ v l. elim (ℕ_discrete (v / 64) (n / 64)) as (λ _. bit (set w (n / 64) (bit_and (get_or w (n / 64) 0) (2 ^ (n % 64) - 1))) v ≡ bit w v) [
      | yes q ↦ store_in w (n / 64) _ h v q ∙ mask_low (get_or w (n / 64) 0) (n % 64) (v % 64) (omega arith) ∙ sym (bit_at w (n / 64) 0 v q)
      | no q ↦ store_out w (n / 64) _ v q
    ];
    above = λ v l. elim (ℕ_discrete (v / 64) (n / 64)) as (λ _. bit (set w (n / 64) (bit_and (get_or w (n / 64) 0) (2 ^ (n % 64) - 1))) v ≡ 0) [
      | yes q ↦ store_in w (n / 64) _ h v q ∙ mask_high (get_or w (n / 64) 0) (n % 64) (v % 64) (omega arith)
      | no q ↦ store_out w (n / 64) _ v q ∙ bit_past w v (omega arith)
    ];
  })
