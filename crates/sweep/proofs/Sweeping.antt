-- Pivots, one after the other, and the sweep along a chain of places.
use Prim.Native.Nat.{ℕ, suc, ◌+◌, ◌≤◌, ◌<◌}
use native.Mathlib.Omega.{arith}
use native.Mathlib.Decide.{ℕ_discrete, dec_lt}
use mathlib.Core.Path.{◌≡◌, refl, sym, ap, ◌∙◌}
use mathlib.Core.Logic.{◌⊎◌, inl, inr, ⊎_elim}
use mathlib.Core.Bool.{Bool}
use mathlib.Core.List.{List}
use lib.Dec.{T, eqb, eqb→eq}
use borrow.Author.Tests.{ne_eqb}
use Rattle.graph.specs.Graph.{Graph}
use Rattle.graph.specs.Numbers.{least}
use Rattle.graph.specs.Pivot.{draws}
use Rattle.graph.proofs.Tests.{eq_t, least_passes, least_first}
use Rattle.memory.specs.Decomposer.{col, ord, own, nxt, chains_at, order_at, Inside}
use Rattle.memory.proofs.Memory.{touched_more, touched_none}
use Rattle.split.specs.State.{held, labelled, rings}
use Rattle.split.specs.Chain.{Follows}
use Rattle.sweep.specs.Taken.{Ready, TakeAsk}
use Rattle.sweep.specs.Sweep.{chosen, Sweeps, unswept, taken, Swept, SweepAsk, TurnAsk, Turned}
use Rattle.sweep.proofs.Taking.{taken_held, taken_labels, taken_alone, taken_rings, taken_ready}

-- the first number that passes
least_is : (n : ℕ) (f : ℕ → Bool) (i : ℕ) → i < n → T (f i) → ((j : ℕ) → j < i → T (f j) → ⊥) → i ≡ least n f
least_is n f i h t o =
    let m : least n f ≤ i = least_first n f i h t in
    elim (dec_lt (least n f) i) as (λ _. i ≡ least n f) [ yes l ↦ absurd (o (least n f) l (least_passes n f (omega arith))) | no l ↦ omega arith ]

-- SEVERAL PIVOTS
-- What k of them leave.
pub record SweptSoFar (g : Graph) (slicing b q top : ℕ) (w : List ℕ) (k t : ℕ) (w' : List ℕ) : Type 0 where
  pub ready : Ready g slicing b q t w'
  pub least : top ≤ t
  pub inside : Inside g.n b w w'
  pub others : (v : ℕ) → v < g.n → (col b w v ≡ q → ⊥) → col b w' v ≡ col b w v
  pub ours : (v : ℕ) → v < g.n → col b w v ≡ q → (col b w' v ≡ q) ⊎ ((col b w' v < g.n) ⊎ (top ≤ col b w' v))
  pub some : (v : ℕ) → col b w v ≡ q → (col b w' v ≡ q → ⊥) → 0 < k
  -- each leaves the part, and by method 0 labels a vertex
  pub left : k + held g.n b q w' ≤ held g.n b q w
  pub few : (slicing ≡ 1 → ⊥) → labelled g b w + k ≤ labelled g b w'
  pub many : rings g b w' ≤ rings g b w + k
  pub alone : slicing ≡ 1 → rings g b w' ≤ rings g b w

pub sweeps_so_far : {g : Graph} {slicing b q kind state top : ℕ} {w : List ℕ} → Ready g slicing b q top w
    → {k t : ℕ} {w' : List ℕ} → Sweeps g slicing b q kind state top w k t w' → SweptSoFar g slicing b q top w k t w'
sweeps_so_far {g} {b = b} {w = w} a unswept = record {
  ready = a;
  least = omega arith;
  inside = touched_none g.n b _ w;
  others = λ v h o. refl;
  ours = λ v h e. inl e;
  some = λ v e o. absurd (o e);
  left = omega arith;
  few = λ o. omega arith;
  many = omega arith;
  alone = λ o. omega arith;
}
sweeps_so_far {g} {slicing} {b} {q} a {w' = w'} (taken {k} {t} {w₁ = w₁} p s l e c z) =
    let x = sweeps_so_far a s in
    let y : TakeAsk g slicing b p q t w₁ = record { ready = x.ready; start = l; live = e } in
    record {
      ready = taken_ready y z;
      least = omega (arith, x.least, z.least);
      inside = touched_more x.inside z.inside;
      others = λ v h o. let f = x.others v h o in z.others v h (λ r. o (sym f ∙ r)) ∙ f;
      ours = λ v h r. ⊎_elim
          (λ m. ⊎_elim (λ f. inl f) (λ f. inr (⊎_elim (λ i. inl i) (λ i. inr (omega (arith, i, x.least))) f)) (z.ours v h m))
          (λ m. let f : col b w' v ≡ col b w₁ v = z.others v h (λ i. ⊎_elim (λ j. omega (arith, i, j, a.part)) (λ j. omega (arith, i, j, a.known)) m) in inr (rw f m))
          (x.ours v h r);
      some = λ v r o. omega arith;
      left = omega (arith, x.left, taken_held y z);
      few = λ o. omega (arith, x.few o, taken_labels y z o);
      many = omega (arith, x.many, taken_rings y z);
      alone = λ o. omega (arith, x.alone o, taken_alone y z o);
    }

-- Pivots of the kinds 0 and 2 do not depend on the state.
pub sweeps_kind : {g : Graph} {slicing b q kind state top : ℕ} {w : List ℕ} → (kind ≡ 1 → ⊥)
    → {k t : ℕ} {w' : List ℕ} → Sweeps g slicing b q 0 0 top w k t w' → Sweeps g slicing b q kind state top w k t w'
unfolding chosen
sweeps_kind o unswept = unswept
sweeps_kind {kind = kind} o (taken p s l e c z) = taken p (sweeps_kind o s) l e (rw (ne_eqb kind 1 o) c) z

-- THE LOOP, at place i
pub record Sweeping (g : Graph) (slicing b h q top : ℕ) (w₀ : List ℕ) (a : SweepAsk g slicing b h q top w₀) (i : ℕ) (w : List ℕ) (t : ℕ) : Type 0 where
  pub pivots : ℕ
  pub sweeps : Sweeps g slicing b q 0 0 top w₀ pivots t w
  pub gone : (j : ℕ) → j < i → own g.n b w j ≡ q → ⊥
  pub here : i < g.n → a.runs.past i ≡ q
  pub most : i ≤ g.n

module _ {g : Graph} {slicing b h q top : ℕ} {w₀ : List ℕ} (a : SweepAsk g slicing b h q top w₀) where
  pub sweep_none : Sweeping g slicing b h q top w₀ a h w₀ top
  sweep_none = record {
    pivots = 0;
    sweeps = unswept;
    gone = λ j l e. a.runs.first.none j l (a.runs.still j (omega (arith, a.runs.first.low)) e ∙ sym a.runs.live);
    here = λ t. a.runs.live;
    most = omega (arith, a.runs.first.low);
  }

  module _ {i : ℕ} {w : List ℕ} {t : ℕ} (z : Sweeping g slicing b h q top w₀ a i w t) where
    pub sweep_so_far : SweptSoFar g slicing b q top w₀ z.pivots t w
    sweep_so_far = sweeps_so_far a.ready z.sweeps

    ord_same : (j : ℕ) → ord g.n b w j ≡ ord g.n b w₀ j
    ord_same j = sweep_so_far.inside.high (order_at g.n b + j) (omega arith)

    low : (j : ℕ) → j < g.n → ord g.n b w j < g.n
    low = sweep_so_far.ready.stage.placed.low

    -- what has the colour q now had it when the chain was made
    was : (j : ℕ) → j < g.n → own g.n b w j ≡ q → a.runs.past j ≡ q
    was j l e = elim (ℕ_discrete (own g.n b w₀ j) q) as (λ _. a.runs.past j ≡ q) [
      | yes y ↦ a.runs.still j l y
      | no y ↦ absurd (y (sym (sweep_so_far.others (ord g.n b w₀ j) (a.ready.stage.placed.low j l) y) ∙ ap (col b w) (sym (ord_same j)) ∙ e))
    ]

    module _ (l : i < g.n) where
      pub next_is : Follows g.n a.runs.past i (nxt g.n b w i)
      next_is = rw (sweep_so_far.inside.mid (chains_at g.n b + i) (omega arith) (omega arith)) (a.runs.next i l (z.here l))

      pub sweep_turn : TurnAsk g slicing b i q t w
      sweep_turn = record { ready = sweep_so_far.ready; low = l }

      -- below the next place nothing of the colour q is left
      passed : (w' : List ℕ) → ((j : ℕ) → ord g.n b w' j ≡ ord g.n b w j) → ((u : ℕ) → u < g.n → (col b w u ≡ q → ⊥) → col b w' u ≡ col b w u)
          → (own g.n b w' i ≡ q → ⊥) → (j : ℕ) → j < nxt g.n b w i → own g.n b w' j ≡ q → ⊥
      passed w' s o x j m e = elim (ℕ_discrete j i) as (λ _. ⊥) [
        | yes r ↦ x (ap (own g.n b w') (sym r) ∙ e)
        | no r ↦
            let lj : j < g.n = omega (arith, next_is.most) in
            let n : own g.n b w j ≡ q → ⊥ = λ c. elim (dec_lt j i) as (λ _. ⊥) [
              | yes y ↦ z.gone j y c
              | no y ↦ next_is.none j (omega arith) m (was j lj c ∙ sym (z.here l))
            ] in
            n (sym (o (ord g.n b w j) (low j lj) n) ∙ ap (col b w') (sym (s j)) ∙ e)
      ]

      -- the vertex at place i is the one that the kinds 0 and 2 choose
      first_chosen : own g.n b w i ≡ q → (state : ℕ) → ord g.n b w i ≡ chosen g.n b w q 0 state
      unfolding chosen
      first_chosen e state = ap (ord g.n b w) (least_is g.n (λ j. eqb (own g.n b w j) q) i l (eq_t (own g.n b w i) q e)
          (λ j m y. z.gone j m (eqb→eq (own g.n b w j) q y)))

      pub sweep_step : {w' : List ℕ} {t' : ℕ} → Turned g slicing b i q t w w' t' → Sweeping g slicing b h q top w₀ a (nxt g.n b w i) w' t'
      sweep_step {w'} (inl (c, y)) =
          let same : (j : ℕ) → ord g.n b w' j ≡ ord g.n b w j = λ j. y.inside.high (order_at g.n b + j) (omega arith) in
          record {
            pivots = suc z.pivots;
            sweeps = taken (ord g.n b w i) z.sweeps (low i l) c (first_chosen c (draws z.pivots 0)) y;
            gone = passed w' same y.others (λ e. y.pivot (ap (col b w') (sym (same i)) ∙ e));
            here = λ m. next_is.same m ∙ z.here l;
            most = next_is.most;
          }
      sweep_step (inr (c, p, y)) = rw (p, y) (record {
        pivots = z.pivots;
        sweeps = z.sweeps;
        gone = passed w (λ j. refl) (λ u m o. refl) c;
        here = λ m. next_is.same m ∙ z.here l;
        most = next_is.most;
      })

    pub sweep_all : g.n ≤ i → Swept g slicing b q 0 0 top w₀ w t
    sweep_all e = record {
      pivots = z.pivots;
      sweeps = z.sweeps;
      gone = λ v l c. let y = a.ready.stage.placed.all v l in z.gone y.0 (omega (arith, y.1)) (ap (col b w) (ord_same y.0 ∙ y.2) ∙ c);
    }
