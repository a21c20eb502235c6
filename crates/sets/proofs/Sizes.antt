-- The size of a set: the ones of its words are the sum of its bits, and the number of its vertices.
use mathlib.Core.Path.{◌≡◌, refl, sym, ap, ap₂, ◌∙◌}
use mathlib.Core.Bool.{false, cond}
use mathlib.Core.List.{List}
use Prim.Native.Nat.{ℕ, zero, suc, ◌<◌, ◌≤◌, ◌+◌, ◌-◌, ◌*◌, ◌/◌, ◌%◌, ◌^◌}
use native.Mathlib.Omega.{arith}
use native.Mathlib.Nat.{div-one, pow-suc}
use native.Mathlib.Decide.{ℕ_discrete}
use lib.ListN.{length, get_or, take}
use Rattle.std.specs.List.{sum_by}
use lib.Seq.{take-length}
use Rattle.std.proofs.lemmas.List.Sums.{sum_by_more}
use lib.Arith.{lt-one}
use lib.Count.{ones, ones_step}
use lib.Dec.{T, eqb, ltb, eqb→eq, ltb→lt}
use borrow.Author.Tests.{lt-ltb, ne_eqb, eqb-true, not-false}
use Rattle.graph.specs.Limits.{words_of}
use Rattle.graph.specs.Numbers.{tally, many}
use Rattle.graph.specs.Sets.{bit, Members, members}
use Rattle.graph.proofs.Tests.{and_split, eq_t}
use Rattle.graph.proofs.Sums.{tally_ext, tally_front, tally_add, tally_none, many_tally}
use Rattle.sets.specs.Sizes.{ill_sized}
use Rattle.sets.proofs.Digits.{half_at}
use Rattle.sets.proofs.Store.{bit_lt}

pub sized : (n : ℕ) (ws : List ℕ) → ill_sized n ws ≡ false → length ws ≡ words_of n
sized n ws e = eqb-true (length ws) (words_of n) (not-false (eqb (length ws) (words_of n)) e)

-- the vertices of a set, as a set and as a test
pub members_in : (n : ℕ) (w : List ℕ) (v : ℕ) → Members n w v → T (members n w v)
members_in n w v (l, e) = rw (lt-ltb v n l) (eq_t (bit w v) 1 e)

pub members_out : (n : ℕ) (w : List ℕ) (v : ℕ) → T (members n w v) → Members n w v
members_out n w v t = let s = and_split (ltb v n) (eqb (bit w v) 1) t in (ltb→lt v n s.0, eqb→eq (bit w v) 1 s.1)

-- the ones of a word of k digits are the sum of its digits
ones_tally : (k x : ℕ) → x < 2 ^ k → ones x ≡ tally (λ j. x / 2 ^ j % 2) k
unfolding tally ones
ones_tally zero x h = ap ones (lt-one h)
ones_tally (suc k) x h = omega (arith, ones_step x, ones_tally k (x / 2) (omega (arith, pow-suc 2 k)), tally_ext (λ j. x / 2 / 2 ^ j % 2) (λ j. x / 2 ^ suc j % 2) k (λ j _. half_at x j), tally_front (λ j. x / 2 ^ j % 2) k, div-one x)

-- one more word of a set
pub word_tally : (w : List ℕ) (i : ℕ) → get_or w i 0 < 2 ^ 64 → tally (bit w) (i * 64) + ones (get_or w i 0) ≡ tally (bit w) ((i + 1) * 64)
unfolding bit
word_tally w i h =
    let e : (j : ℕ) → j < 64 → bit w (i * 64 + j) ≡ get_or w i 0 / 2 ^ j % 2 = λ j q. ap₂ (λ (a b : ℕ). get_or w a 0 / 2 ^ b % 2) (omega arith) (omega arith) in
    let a : tally (bit w) (i * 64 + 64) ≡ tally (bit w) (i * 64) + tally (λ j. bit w (i * 64 + j)) 64 = tally_add (bit w) (i * 64) 64 in
    let b : tally (λ j. bit w (i * 64 + j)) 64 ≡ tally (λ j. get_or w i 0 / 2 ^ j % 2) 64 = tally_ext _ _ 64 e in
    let d : (i + 1) * 64 ≡ i * 64 + 64 = omega arith in
    rw d (omega (arith, ones_tally 64 (get_or w i 0) h))

front_tally : (w : List ℕ) → ((i : ℕ) → get_or w i 0 < 2 ^ 64) → (k : ℕ) → k ≤ length w → sum_by ones (take k w) ≡ tally (bit w) (k * 64)
unfolding tally
front_tally w h zero l = refl
front_tally w h (suc k) l =
    let e : suc k ≡ k + 1 = omega arith in
    rw e (sum_by_more ones w k 0 (omega arith) ∙ omega (arith, front_tally w h k (omega arith), word_tally w k (h k)))

-- the ones of all words of a set
pub words_tally : (w : List ℕ) → ((i : ℕ) → get_or w i 0 < 2 ^ 64) → sum_by ones w ≡ tally (bit w) (length w * 64)
words_tally w h = ap (sum_by ones) (sym (take-length w)) ∙ front_tally w h (length w) (omega arith)

module _ (w : List ℕ) (n : ℕ) where
  -- bits at n and above add nothing if they are zero
  pub size_below : (k : ℕ) → n ≤ k → ((v : ℕ) → n ≤ v → bit w v ≡ 0) → tally (bit w) k ≡ tally (bit w) n
  size_below k l z =
      let e : k ≡ n + (k - n) = omega arith in
      ap (tally (bit w)) e ∙ tally_add (bit w) n (k - n) ∙ omega (arith, tally_none (λ i. bit w (n + i)) (k - n) (λ i _. z (n + i) (omega arith)))

  pub member_bit : (v : ℕ) → v < n → cond (members n w v) 1 0 ≡ bit w v
  member_bit v l = rw (lt-ltb v n l) (elim (ℕ_discrete (bit w v) 1) as (λ _. cond (eqb (bit w v) 1) 1 0 ≡ bit w v) [
    | yes e ↦ rw e
    | no q ↦ rw (ne_eqb (bit w v) 1 q) (omega (arith, bit_lt w v))
  ])

  -- the sum of the bits below n is the number of vertices
  pub bits_many : (k : ℕ) → k ≤ n → tally (bit w) k ≡ many (members n w) k
  bits_many k l = tally_ext (bit w) (λ v. cond (members n w v) 1 0) k (λ v h. sym (member_bit v (omega arith))) ∙ sym (many_tally (members n w) k)

  pub size_many : tally (bit w) n ≡ many (members n w) n
  size_many = bits_many n (omega arith)
