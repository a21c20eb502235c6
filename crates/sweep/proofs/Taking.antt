-- One pivot by either method.
use Prim.Native.Nat.{ℕ, ◌+◌, ◌≤◌, ◌<◌}
use native.Mathlib.Omega.{arith}
use native.Mathlib.Decide.{ℕ_discrete}
use mathlib.Core.Path.{◌≡◌, refl, sym, ◌∙◌}
use mathlib.Core.Logic.{◌⊎◌, inl, inr, ⊎_elim}
use mathlib.Core.List.{List}
use lib.Dec.{T, ltb, ltb→lt, lt→ltb, eqb, eqb→eq}
use Rattle.graph.specs.Graph.{Graph}
use Rattle.graph.specs.Parts.{Alone}
use Rattle.graph.proofs.Counts.{many_more}
use Rattle.graph.proofs.Tests.{eq_t}
use Rattle.memory.specs.Decomposer.{col}
use Rattle.memory.proofs.Memory.{framed_inside}
use Rattle.split.specs.State.{held, labelled, rings}
use Rattle.split.specs.Split.{PivotAsk, Split}
use Rattle.split.proofs.Same.{top_le, stage_moved}
use Rattle.split.proofs.Rings.{rings_one, rings_alone}
use Rattle.slices.specs.Slice.{SliceAsk, Sliced}
use Rattle.sweep.specs.Taken.{Ready, TakeAsk, Taken}

module _ {g : Graph} {slicing b p q top : ℕ} {w : List ℕ} (a : TakeAsk g slicing b p q top w) where
  pub pivot_ask : PivotAsk g b p q top w
  pivot_ask = record { stage = a.ready.stage; start = a.start; live = a.live; part = a.ready.part }

  pub take_room : top ≤ 1000000
  take_room = omega (arith, top_le a.ready.stage, a.ready.stage.tables.small)

  pub slice_ask : slicing ≡ 1 → SliceAsk g b p q top w
  slice_ask o = record { ask = pivot_ask; untouched = (a.ready.uncut o).untouched }

  pub take_split : {w' : List ℕ} → (slicing ≡ 1 → ⊥) → Split g b p q top w w' → Taken g slicing b p q top w w' (top + 2)
  take_split o z = record {
    owned = z.owned;
    others = z.method.others;
    ours = z.ours;
    pivot = λ e. omega (arith, e, z.pivot, a.ready.part);
    least = omega arith;
    inside = framed_inside z.kept;
    how = inl (o, refl, z);
  }

  pub take_slice : {w' : List ℕ} {top' : ℕ} → slicing ≡ 1 → Sliced g b p q top w w' top' → Taken g slicing b p q top w w' top'
  take_slice o z = record {
    owned = z.owned;
    others = z.others;
    ours = λ v h e. ⊎_elim (λ t. inl t) (λ t. inr (⊎_elim (λ x. inl (omega (arith, x.0))) (λ x. inr x.0) t)) (z.ours v h e);
    pivot = z.pivot;
    least = z.least;
    inside = z.inside;
    how = inr (o, z);
  }

  module _ {w' : List ℕ} {top' : ℕ} (z : Taken g slicing b p q top w w' top') where
    -- p has left the part, and nothing has entered it
    pub taken_held : held g.n b q w' < held g.n b q w
    taken_held = many_more (λ v. eqb (col b w' v) q) (λ v. eqb (col b w v) q) g.n
        (λ v h t. elim (ℕ_discrete (col b w v) q) as (λ _. T (eqb (col b w v) q)) [
          | yes y ↦ eq_t (col b w v) q y
          | no y ↦ absurd (y (sym (z.others v h y) ∙ eqb→eq (col b w' v) q t))
        ])
        p a.start (λ t. z.pivot (eqb→eq (col b w' p) q t)) (eq_t (col b w p) q a.live)

    -- a pivot of method 0 has its label
    pub taken_labels : (slicing ≡ 1 → ⊥) → labelled g b w < labelled g b w'
    taken_labels o = many_more (λ v. ltb (col b w v) g.n) (λ v. ltb (col b w' v) g.n) g.n
        (λ v h t. rw (z.others v h (λ e. omega (arith, e, ltb→lt (col b w v) g.n t, a.ready.part))) t)
        p a.start (λ t. omega (arith, ltb→lt (col b w p) g.n t, a.live, a.ready.part))
        (lt→ltb (col b w' p) g.n (⊎_elim (λ y. y.2.pivot) (λ y. absurd (o y.0)) z.how))

    -- by method 1 components alone are finished, by method 0 at most one of two or more
    pub taken_alone : slicing ≡ 1 → rings g b w' ≤ rings g b w
    taken_alone o = rings_alone (col b w) (col b w') z.owned (λ v h t. elim (ℕ_discrete (col b w v) q) as (λ _. (col b w' v ≡ col b w v) ⊎ ((col b w' v ≡ v) × Alone g v)) [
      | yes e ↦ ⊎_elim (λ y. absurd (y.0 o)) (λ y. ⊎_elim
          (λ x. absurd (omega (arith, x, t, a.ready.part)))
          (λ x. ⊎_elim (λ i. inr i) (λ i. absurd (omega (arith, i.0, t, a.ready.part, a.ready.known))) x) (y.1.ours v h e)) z.how
      | no e ↦ inl (z.others v h e)
    ])

    pub taken_rings : rings g b w' ≤ rings g b w + 1
    taken_rings = ⊎_elim (λ y. rings_one g.n (col b w) (col b w') (col b w' p) y.2.one) (λ y. omega (arith, taken_alone y.0)) z.how

    pub taken_ready : Ready g slicing b q top' w'
    taken_ready = record {
      stage = stage_moved w' a.ready.stage z.inside.low z.inside.high z.inside.long z.owned (⊎_elim
          (λ y. omega (arith, y.1, a.ready.stage.room, taken_labels y.0))
          (λ y. omega (arith, y.1.room, (a.ready.uncut y.0).room)) z.how);
      part = a.ready.part;
      known = omega (arith, a.ready.known, z.least);
      uncut = λ o. ⊎_elim
          (λ y. absurd (y.0 o))
          (λ y. record { room = omega (arith, y.1.room, (a.ready.uncut o).room); untouched = y.1.untouched }) z.how;
    }
