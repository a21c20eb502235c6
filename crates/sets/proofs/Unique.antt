-- Sets of the same length with the same bits are the same words.
use mathlib.Core.Path.{◌≡◌, sym, ap₂, ◌∙◌}
use mathlib.Core.List.{List}
use Prim.Native.Nat.{ℕ, zero, suc, ◌<◌, ◌+◌, ◌*◌, ◌/◌, ◌%◌, ◌^◌}
use native.Mathlib.Omega.{arith}
use native.Mathlib.Nat.{pow-suc, div-one}
use lib.Arith.{lt-one}
use lib.ListN.{length, get_or}
use lib.Seq.{ext_get_or}
use Rattle.graph.specs.Sets.{bit}
use Rattle.sets.specs.Sizes.{Words}
use Rattle.sets.proofs.Digits.{half_at}

-- two words of k digits with the same digits are equal
word_same : (k x y : ℕ) → x < 2 ^ k → y < 2 ^ k → ((j : ℕ) → j < k → x / 2 ^ j % 2 ≡ y / 2 ^ j % 2) → x ≡ y
word_same zero x y hx hy h = lt-one hx ∙ sym (lt-one hy)
word_same (suc k) x y hx hy h =
    let i : x / 2 ≡ y / 2 = word_same k (x / 2) (y / 2) (omega (arith, pow-suc 2 k)) (omega (arith, pow-suc 2 k)) (λ j q. half_at x j ∙ h (suc j) (omega arith) ∙ sym (half_at y j)) in
    omega (arith, h 0 (omega arith), div-one x, div-one y)

pub set_one : (w x : List ℕ) → Words w → Words x → length w ≡ length x → ((v : ℕ) → bit w v ≡ bit x v) → w ≡ x
unfolding bit
set_one w x f f' e h = ext_get_or 0 w x e (λ i _. word_same 64 (get_or w i 0) (get_or x i 0) (f i) (f' i) (λ j q.
    let a : (i * 64 + j) / 64 ≡ i = omega arith in
    let b : (i * 64 + j) % 64 ≡ j = omega arith in
    ap₂ (λ (p q : ℕ). get_or w p 0 / 2 ^ q % 2) (sym a) (sym b) ∙ h (i * 64 + j) ∙ ap₂ (λ (p q : ℕ). get_or x p 0 / 2 ^ q % 2) a b))
