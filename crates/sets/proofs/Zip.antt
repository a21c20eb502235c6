-- Each word of a list became f of itself and of another list's word: bit by bit it became what f does to digits.
use mathlib.Core.Path.{◌≡◌, sym, ap, ap₂, ◌∙◌}
use mathlib.Core.List.{List}
use Prim.Native.Nat.{ℕ, ◌<◌, ◌/◌, ◌%◌, ◌^◌}
use native.Mathlib.Omega.{arith}
use native.Mathlib.Decide.{dec_lt}
use lib.ListN.{length, get_or, get_or-eq_default}
use Rattle.graph.specs.Sets.{bit}
use Rattle.sets.specs.Changes.{Combined}

-- op is what f does to a digit
pub zip_all : (f op : ℕ → ℕ → ℕ) {ws vs xs : List ℕ} → f 0 0 ≡ 0 → ((a b j : ℕ) → f a b / 2 ^ j % 2 ≡ op (a / 2 ^ j % 2) (b / 2 ^ j % 2)) → length ws ≡ length vs → length xs ≡ length ws
    → ((i : ℕ) → i < length ws → get_or xs i 0 ≡ f (get_or ws i 0) (get_or vs i 0)) → Combined op ws vs xs
unfolding bit
zip_all f op {ws} {vs} {xs} none digit e long each = record { long = long; bits = λ v. ap (λ (x : ℕ). x / 2 ^ (v % 64) % 2) (word (v / 64)) ∙ digit _ _ (v % 64) }
  where
    word : (j : ℕ) → get_or xs j 0 ≡ f (get_or ws j 0) (get_or vs j 0)
    word j = elim (dec_lt j (length ws)) as (λ _. get_or xs j 0 ≡ f (get_or ws j 0) (get_or vs j 0)) [
      | yes q ↦ each j q
      | no q ↦ get_or-eq_default xs 0 (omega (arith, long)) ∙ sym none ∙ ap₂ f (sym (get_or-eq_default ws 0 (omega arith))) (sym (get_or-eq_default vs 0 (omega arith)))
    ]
