-- A sweep is a row of choices as document 01 says them: the order of the places is that of the caller's list.
use Prim.Native.Nat.{ℕ, ◌+◌, ◌≤◌, ◌<◌}
use native.Mathlib.Omega.{arith}
use native.Mathlib.Decide.{ℕ_discrete}
use mathlib.Core.Path.{◌≡◌, refl, sym, ap, ◌∙◌}
use mathlib.Core.Logic.{inl, inr, ⊎_elim}
use mathlib.Core.List.{List}
use borrow.Author.Tests.{ne_eqb}
use Rattle.graph.specs.Graph.{Graph}
use Rattle.graph.specs.Pivot.{draws, pivot, listed, list_of}
use Rattle.graph.specs.Apart.{has, Pivoted, Choices, unchosen, choice}
use Rattle.graph.proofs.Chains.{same_low}
use Rattle.graph.proofs.Tests.{eq_t}
use Rattle.pivot.specs.Order.{Arranged}
use Rattle.pivot.proofs.Places.{listed_end, arranged_same}
use Rattle.memory.specs.Decomposer.{col, ord, order_at}
use Rattle.paint.specs.Colours.{Whole}
use Rattle.split.specs.State.{Placed, Stage}
use Rattle.sweep.specs.Taken.{Taken}
use Rattle.sweep.specs.Sweep.{chosen, Sweeps, unswept, taken}

-- THE ORDER
pub arranged_placed : {n b : ℕ} {list w : List ℕ} → Arranged n list (ord n b w) → Placed n b w
arranged_placed a = record { low = a.low; one = a.one; all = a.all }

-- ONE CHOICE
-- what is chosen by the order is the pivot
pub chosen_pivot : (n b : ℕ) (w list : List ℕ) (q kind state v : ℕ) → Arranged n (list_of kind list) (ord n b w) → kind ≤ 2 → v < n → col b w v ≡ q
    → chosen n b w q kind state ≡ pivot n (has (col b w) q) kind state list
unfolding chosen pivot
chosen_pivot n b w list q kind state v a most l e = go (ℕ_discrete kind 0) (ℕ_discrete kind 1)
  where
    first : chosen n b w q 0 state ≡ listed n (has (col b w) q) (list_of kind list)
    first = a.exact (has (col b w) q) v l (eq_t (col b w v) q e)

    -- the caller's list counts for kind 2 only
    by : (k : ℕ) → kind ≡ k → list_of kind list ≡ list_of k list
    by k z = ap (λ (x : ℕ). list_of x list) z

    go : Dec (kind ≡ 0) → Dec (kind ≡ 1) → chosen n b w q kind state ≡ pivot n (has (col b w) q) kind state list
    go (yes z) d = rw z (first ∙ ap (listed n (has (col b w) q)) (by 0 z) ∙ listed_end n (has (col b w) q))
    go (no o) (yes z) = rw z refl
    go (no o) (no p) = rw (ne_eqb kind 0 o, ne_eqb kind 1 p) (first ∙ ap (listed n (has (col b w) q)) (by 2 (omega arith)))

-- SEVERAL CHOICES
-- what a pivot has done, by either method
pub taken_pivoted : {g : Graph} {slicing b p q top : ℕ} {w w' : List ℕ} {top' : ℕ} → Taken g slicing b p q top w w' top' → Pivoted g slicing p q top (col b w) (col b w') top'
taken_pivoted z = ⊎_elim (λ y. inl (y.0, y.1, y.2.method)) (λ y. inr (y.0, y.1.method)) z.how

module _ {g : Graph} {slicing b q kind state top : ℕ} {w : List ℕ} (st : Stage g b top w) where
  sweeps_whole : {k t : ℕ} {w' : List ℕ} → Sweeps g slicing b q kind state top w k t w' → Whole g b w'
  sweeps_whole unswept = st.owned.whole
  sweeps_whole (taken p s l e c z) = z.owned.whole

  sweeps_ord : {k t : ℕ} {w' : List ℕ} → Sweeps g slicing b q kind state top w k t w' → (i : ℕ) → ord g.n b w' i ≡ ord g.n b w i
  sweeps_ord unswept i = refl
  sweeps_ord (taken p s l e c z) i = z.inside.high (order_at g.n b + i) (omega arith) ∙ sweeps_ord s i

  pub sweeps_choices : (list : List ℕ) → Arranged g.n (list_of kind list) (ord g.n b w) → kind ≤ 2
      → {k t : ℕ} {w' : List ℕ} → Sweeps g slicing b q kind state top w k t w' → Choices g slicing q kind state list (col b w) top k (col b w') t
  sweeps_choices list a most unswept = unchosen
  sweeps_choices list a most (taken {k} {w₁ = w₁} p s l e c z) = choice p (sweeps_choices list a most s)
      (record {
        whole = λ u v y (h, d). (same_low st.tables.valid y h, sym (sweeps_whole s u v h y) ∙ d);
        member = (l, e);
        exact = c ∙ chosen_pivot g.n b w₁ list q kind (draws k state) p (arranged_same (sweeps_ord s) a) most l e;
      })
      (taken_pivoted z)
