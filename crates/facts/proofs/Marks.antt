-- The word of a list of marks, as a set.
use Prim.Native.Nat.{ℕ, zero, suc, ◌+◌, ◌*◌, ◌/◌, ◌%◌, ◌^◌, ◌≤◌, ◌<◌}
use native.Mathlib.Omega.{arith}
use native.Mathlib.Nat.{div-one, div-eq_of_lt}
use native.Mathlib.Numerals.{one-add}
use native.Mathlib.Decide.{dec_lt}
use mathlib.Core.Path.{◌≡◌, refl, sym, ◌∙◌, ap, ap₂}
use mathlib.Core.Logic.{◌↔◌}
use mathlib.Core.Bool.{Bool, true, false, cond}
use mathlib.Core.List.{List, [], ◌∷◌}
use lib.Dec.{T}
use lib.ListN.{length, get_or, get_or-eq_default}
use lib.Pow.{pow_pos, shr-shr}
use Rattle.graph.specs.Numbers.{mark}
use Rattle.graph.specs.Sets.{bit, word}

-- a mark as a digit
abbrev digit : Bool → ℕ
digit b = cond b 1 0

none_at : (v : ℕ) → 0 / 2 ^ v % 2 ≡ 0
none_at v = ap (λ (x : ℕ). x % 2) (div-eq_of_lt (pow_pos v))

last : (b : Bool) (x : ℕ) → (digit b + 2 * x) % 2 ≡ digit b
last true x = omega arith
last false x = omega arith

others : (b : Bool) (x : ℕ) → (digit b + 2 * x) / 2 ≡ x
others true x = omega arith
others false x = omega arith

word_digit : (l : List Bool) (v : ℕ) → word l / 2 ^ v % 2 ≡ digit (mark l v)
unfolding word
word_digit [] v = none_at v
word_digit (b ∷ l) zero = ap (λ (x : ℕ). x % 2) (div-one (digit b + 2 * word l)) ∙ last b (word l)
word_digit (b ∷ l) (suc v) =
    let h : (digit b + 2 * word l) / 2 ^ suc v ≡ (digit b + 2 * word l) / 2 / 2 ^ v = rw (shr-shr (digit b + 2 * word l) 1 v, one-add) in
    ap (λ (x : ℕ). x % 2) (h ∙ ap (λ (x : ℕ). x / 2 ^ v) (others b (word l))) ∙ word_digit l v

word_bit : (l : List Bool) → length l ≤ 64 → (v : ℕ) → bit (word l ∷ []) v ≡ digit (mark l v)
unfolding bit
word_bit l few v = elim (dec_lt v 64) as (λ _. bit (word l ∷ []) v ≡ digit (mark l v)) [
  | yes h ↦ ap₂ (λ (i j : ℕ). get_or (word l ∷ []) i 0 / 2 ^ j % 2) (low h) (same h) ∙ word_digit l v
  | no h ↦ ap (λ (x : ℕ). x / 2 ^ (v % 64) % 2) (get_or-eq_default (word l ∷ []) 0 (high h)) ∙ none_at (v % 64) ∙ sym (ap digit (get_or-eq_default l false (past h)))
]
  where
    low : v < 64 → v / 64 ≡ 0
    low h = omega arith

    same : v < 64 → v % 64 ≡ v
    same h = omega arith

    high : (v < 64 → ⊥) → 1 ≤ v / 64
    high h = omega arith

    past : (v < 64 → ⊥) → length l ≤ v
    past h = omega arith

marked : (b : Bool) → (digit b ≡ 1) ↔ T b
marked true = (λ e. tt, λ t. refl)
marked false = (λ e. absurd (omega arith), λ t. absurd t)

-- the word has the bits of the marks
pub word_marks : (l : List Bool) → length l ≤ 64 → (v : ℕ) → (bit (word l ∷ []) v ≡ 1) ↔ T (mark l v)
word_marks l few v = rw (word_bit l few v) (marked (mark l v))
