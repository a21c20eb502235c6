-- Where the machine reads, and when it stops.
use Prim.Native.Nat.{ℕ, ◌+◌, ◌-◌, ◌≤◌, ◌<◌}
use native.Mathlib.Omega.{arith}
use native.Mathlib.Decide.{dec_lt, ℕ_discrete}
use mathlib.Core.Path.{◌≡◌, sym, ap, subst, ◌∙◌}
use mathlib.Core.Bool.{Bool, cond}
use lib.Dec.{eqb}
use borrow.Author.Tests.{lt-ltb, le-ltb, eq-eqb, ne_eqb}
use Rattle.graph.specs.Apart.{next, other}
use Rattle.std.specs.declared.option.Option.{Option}
use Rattle.std.specs.declared.option.Option.TheVariants.{Some, None}
use Rattle.machine.specs.declared.Machine.{Machine}
use Rattle.machine.specs.Orders.{order_of}
use Rattle.machine.specs.Aim.{wrapped, ring, aim}
use Rattle.machine.specs.Machine.{dividing}
use Rattle.machine.proofs.Round.{wrapped_same, wrapped_next}
use Rattle.machine.proofs.Waiting.{Without, without_last, without_first}

-- what a turn does
pub data Mode (n : ℕ) (s : Machine) : Type 0 where
  clear : s.cleared < n → Mode n s
  hand : n ≤ s.cleared → s.given < s.pending → Mode n s
  take : n ≤ s.cleared → s.pending ≤ s.given → 0 < s.count → Mode n s
  stop : n ≤ s.cleared → s.pending ≤ s.given → s.count ≡ 0 → Mode n s

pub mode : (n : ℕ) (s : Machine) → Mode n s
mode n s = elim (dec_lt s.cleared n) as (λ _. Mode n s) [
  | yes a ↦ clear a
  | no a ↦ elim (dec_lt s.given s.pending) as (λ _. Mode n s) [
    | yes b ↦ hand (omega arith) b
    | no b ↦ elim (ℕ_discrete s.count 0) as (λ _. Mode n s) [
      | yes c ↦ stop (omega arith) (omega arith) c
      | no c ↦ take (omega arith) (omega arith) (omega arith)
    ]
  ]
]

module _ (n : ℕ) (s : Machine) where
  pub aim_clear : s.cleared < n → aim n s ≡ Some s.cleared
  unfolding aim
  aim_clear a = rw (lt-ltb s.cleared n a)

  pub aim_hand : n ≤ s.cleared → s.given < s.pending → aim n s ≡ Some (ring n s s.count)
  unfolding aim
  aim_hand a b = rw (le-ltb s.cleared n a, lt-ltb s.given s.pending b)

  aim_newest : n ≤ s.cleared → s.pending ≤ s.given → 0 < s.count → order_of s.order ≡ 0 → aim n s ≡ Some (ring n s (s.count - 1))
  unfolding aim
  aim_newest a b c d = rw (le-ltb s.cleared n a, le-ltb s.given s.pending b, ne_eqb s.count 0 (λ e. omega arith), eq-eqb (order_of s.order) 0 d)

  aim_oldest : n ≤ s.cleared → s.pending ≤ s.given → 0 < s.count → (order_of s.order ≡ 0 → ⊥) → aim n s ≡ Some s.oldest
  unfolding aim
  aim_oldest a b c d = rw (le-ltb s.cleared n a, le-ltb s.given s.pending b, ne_eqb s.count 0 (λ e. omega arith), ne_eqb (order_of s.order) 0 d)

  pub aim_stop : n ≤ s.cleared → s.pending ≤ s.given → s.count ≡ 0 → aim n s ≡ None
  unfolding aim
  aim_stop a b c = rw (le-ltb s.cleared n a, le-ltb s.given s.pending b, c)

-- two ways to say where the next turn reads
pub one_place : {o : Option ℕ} {i j : ℕ} → o ≡ Some i → o ≡ Some j → i ≡ j
one_place p q = cc

pub no_place : {o : Option ℕ} {i : ℕ} → o ≡ None → o ≡ Some i → ⊥
no_place p q = cc

-- it stops only when all is cleared and nothing waits
pub stopped : (n : ℕ) (s : Machine) → aim n s ≡ None → (n ≤ s.cleared) × (s.pending ≤ s.given) × (s.count ≡ 0)
stopped n s e = go (mode n s)
  where
    go : Mode n s → (n ≤ s.cleared) × (s.pending ≤ s.given) × (s.count ≡ 0)
    go (clear a) = absurd (no_place e (aim_clear n s a))
    go (hand a b) = absurd (no_place e (aim_hand n s a b))
    go (take a b c) = elim (ℕ_discrete (order_of s.order) 0) as (λ _. (n ≤ s.cleared) × (s.pending ≤ s.given) × (s.count ≡ 0)) [
      | yes d ↦ absurd (no_place e (aim_newest n s a b c d))
      | no d ↦ absurd (no_place e (aim_oldest n s a b c d))
    ]
    go (stop a b c) = (a, b, c)

-- the record that is taken is the t-th, and m gives the others
pub record Takes (n : ℕ) (s : Machine) (t : ℕ) (m : ℕ → ℕ) : Type 0 where
  pub low : t < s.count
  pub here : aim n s ≡ Some (ring n s t)
  pub without : Without s.count t m
  pub moved : (state k top children i : ℕ) → i + 1 < s.count → ring n (dividing n s state k top children) i ≡ ring n s (m i)

-- as the order says
pub takes : (n : ℕ) (s : Machine) → s.oldest < n → s.count ≤ n → n ≤ s.cleared → s.pending ≤ s.given → 0 < s.count → Takes n s (next (order_of s.order) s.count) (other (order_of s.order))
takes n s o f a b c = elim (ℕ_discrete (order_of s.order) 0) as (λ _. Takes n s (next (order_of s.order) s.count) (other (order_of s.order))) [
  | yes d ↦ subst (λ (q : Bool). Takes n s (cond q (s.count - 1) 0) (λ i. cond q i (i + 1))) (sym (eq-eqb (order_of s.order) 0 d)) (record {
    low = omega arith;
    here = aim_newest n s a b c d;
    without = without_last s.count c;
    moved = λ state k top ch i l. ap (λ (x : ℕ). wrapped n (x + i)) (newest d);
  })
  | no d ↦ subst (λ (q : Bool). Takes n s (cond q (s.count - 1) 0) (λ i. cond q i (i + 1))) (sym (ne_eqb (order_of s.order) 0 d)) (record {
    low = c;
    here = aim_oldest n s a b c d ∙ ap Some (omega (arith, wrapped_same n (s.oldest + 0) (omega arith)));
    without = without_first s.count;
    moved = λ state k top ch i l. ap (λ (x : ℕ). wrapped n (x + i)) (oldest d) ∙ wrapped_next n s.oldest i o (omega arith);
  })
]
  where
    newest : order_of s.order ≡ 0 → cond (eqb (order_of s.order) 0) s.oldest (wrapped n (s.oldest + 1)) ≡ s.oldest
    newest d = rw (eq-eqb (order_of s.order) 0 d)

    oldest : (order_of s.order ≡ 0 → ⊥) → cond (eqb (order_of s.order) 0) s.oldest (wrapped n (s.oldest + 1)) ≡ wrapped n (s.oldest + 1)
    oldest d = rw (ne_eqb (order_of s.order) 0 d)
