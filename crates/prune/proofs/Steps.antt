-- Trimming goes on: step after step, and what the cursors of the vertices that are left stand at.
use Prim.Native.Nat.{ℕ, suc, ◌+◌, ◌≤◌, ◌<◌}
use native.Mathlib.Omega.{arith}
use mathlib.Core.Path.{◌≡◌, refl, sym, ap, ◌∙◌}
use mathlib.Core.Logic.{◌⊎◌, inl, inr, ⊎_elim}
use mathlib.Core.List.{List}
use lib.ListN.{get_or}
use Rattle.graph.specs.Graph.{Graph, Part, rev}
use Rattle.graph.proofs.Chains.{edge_rev}
use Rattle.index.specs.Index.{first}
use Rattle.index.proofs.Counts.{found}
use Rattle.memory.specs.Decomposer.{col}
use Rattle.memory.proofs.Memory.{touched_more, touched_none}
use Rattle.paint.specs.Paint.{other, Laid}
use Rattle.paint.proofs.Spreading.{laid_kept}
use Rattle.prune.specs.Trim.{rev_at, into_at, out_at}
use Rattle.prune.specs.Cursor.{cur, Clear, Rests}
use Rattle.prune.specs.Prune.{Pruning, Pruned, Each, Moved, Fresh, Sound, Off}
use Rattle.prune.proofs.Walks.{clear_kept, place_edge, rests_wider, rests_still}

-- the part only shrinks
pub shrink : {g : Graph} {b q k : ℕ} {w w' : List ℕ} {k' : ℕ} → Pruned g b q k w w' k' → (v : ℕ) → v < g.n → col b w' v ≡ q → col b w v ≡ q
shrink z v l p = ⊎_elim (λ s. sym s ∙ p) (λ s. s.0) (z.each v l)

-- ONE DIRECTION
module _ {g : Graph} {ix cb b q : ℕ} {w w' : List ℕ} (x : Laid g ix b w) (low : (j : ℕ) → j < b → get_or w' j 0 ≡ get_or w j 0)
    (less : (v : ℕ) → v < g.n → col b w' v ≡ q → col b w v ≡ q) (move : Moved g ix cb b q w w') {v : ℕ} (l : v < g.n) (p : col b w' v ≡ q) where
  pub clear_moved : Clear g ix b q w v (cur cb w v) → Clear g ix b q w' v (cur cb w' v)
  clear_moved z = ⊎_elim (λ e. rw e (clear_kept g ix b q w w' x low less v (cur cb w v) l z)) (λ f. f.clear) (move v l p)

  -- a cursor rests at an edge to In', if what was In is, and what was in the part
  pub rests_moved : {In In' : Part} → ((u : ℕ) → u < g.n → In u → In' u) → ((u : ℕ) → u < g.n → col b w u ≡ q → In' u)
      → Rests g ix cb b q In w v → Rests g ix cb b q In' w' v
  rests_moved f fresh r = let x' = laid_kept low x in ⊎_elim (λ e. rests_wider (rests_still x low less l e r) x' l f) (λ d. rests_wider d x' l fresh) (move v l p)

  pub moved_more : (w₀ : List ℕ) → ((v : ℕ) → v < g.n → col b w v ≡ q → col b w₀ v ≡ q) → Moved g ix cb b q w₀ w → (cur cb w' v ≡ cur cb w₀ v) ⊎ Fresh g ix cb b q w₀ w' v
  moved_more w₀ less₀ m =
      ⊎_elim
      (λ e. ⊎_elim (λ d. inl (d ∙ e)) (λ f. inr (rests_wider f (laid_kept low x) l less₀)) (move v l p))
      (λ f. inr (rests_moved (λ u h i. i) less₀ f))
      (m v l (less v l p))

-- if all that have an edge to u, which is not in the part, were examined, then no cursor rests at such an edge
pub fresh_off : (g : Graph) (ix cb b q rx : ℕ) (w w' : List ℕ) (u : ℕ) → (col b w u ≡ q → ⊥) → Laid g ix b w'
    → ((v : ℕ) → v < g.n → col b w' v ≡ q → Clear g ix b q w' v (cur cb w' v)) → Laid (rev g) rx b w
    → ((j : ℕ) → first (rev g) u ≤ j → j < first (rev g) (suc u) → col b w' (other w (rx + g.n + 1) j) ≡ q → Fresh g ix cb b q w w' (other w (rx + g.n + 1) j))
    → Off g ix cb b q u w'
fresh_off g ix cb b q rx w w' u o x' z x f v l p h e =
    let (c, d) = place_edge g ix b w' x' v (cur cb w' v) (z v l p).least h in
    let (j, m, t, y) = found (rev g) x.index c u v (edge_rev (rw e at d)) in
    let r : Fresh g ix cb b q w w' v = rw y at (f j m t (ap (col b w') y ∙ p)) in
    o (ap (col b w) (sym e) ∙ r.inside)

-- STEP AFTER STEP
pub pruned_none : {g : Graph} {b q k : ℕ} {w : List ℕ} → Pruning g b q k w → Pruned g b q k w w k
pruned_none {g} {b} {q} {k} {w} s = record {
  state = s;
  more = omega arith;
  each = λ v l. inl refl;
  front = λ i l. refl;
  sum = refl;
  keeps = λ x t i. i;
  out = λ v l p. inl refl;
  into = λ v l p. inl refl;
  aside = touched_none g.n b _ w;
}

module _ {g : Graph} {b q k : ℕ} {w w' : List ℕ} {k' : ℕ} (s : Pruning g b q k w) (z : Pruned g b q k w w' k') where
  -- cursors that rested do so, in both directions
  module _ {v : ℕ} (l : v < g.n) (p : col b w' v ≡ q) {In In' : Part} (f : (u : ℕ) → u < g.n → In u → In' u) (fresh : (u : ℕ) → u < g.n → col b w u ≡ q → In' u) where
    pub out_moved : Rests g 0 (out_at g b) b q In w v → Rests g 0 (out_at g b) b q In' w' v
    out_moved = rests_moved s.walking.out z.aside.low (shrink z) z.out l p f fresh

    pub into_moved : Rests (rev g) (rev_at g) (into_at g b) b q In w v → Rests (rev g) (rev_at g) (into_at g b) b q In' w' v
    into_moved = rests_moved s.walking.into z.aside.low (shrink z) z.into l p f fresh

  -- what they have passed leads out of the part
  pub sound_kept : Sound g b q w → Sound g b q w'
  sound_kept c = record {
    out = λ v l p. clear_moved s.walking.out z.aside.low (shrink z) z.out l p (c.out v l (shrink z v l p));
    into = λ v l p. clear_moved s.walking.into z.aside.low (shrink z) z.into l p (c.into v l (shrink z v l p));
  }

module _ {g : Graph} {b q k : ℕ} {w w₁ w₂ : List ℕ} {k₁ k₂ : ℕ} (s : Pruned g b q k w w₁ k₁) (t : Pruned g b q k₁ w₁ w₂ k₂) where
  both : Each g.n b q k w w₂ k₂
  both v l =
      ⊎_elim
      (λ e. ⊎_elim
      (λ f. inl (f ∙ e))
      (λ (p, f, (i, m, n, c)). inr (sym e ∙ p, f, (i, omega (arith, s.more), n, c)))
      (t.each v l))
      (λ (p, e, (i, m, n, c)). ⊎_elim
      (λ f. inr (p, f ∙ e, (i, m, omega (arith, t.more), t.front i n ∙ c)))
      (λ f. absurd (omega (arith, f.0, e, s.state.walking.part)))
      (t.each v l))
      (s.each v l)

  pub pruned_more : Pruned g b q k w w₂ k₂
  pruned_more = record {
    state = t.state;
    more = omega (arith, s.more, t.more);
    each = both;
    front = λ i l. t.front i (omega (arith, s.more)) ∙ s.front i l;
    sum = t.sum ∙ s.sum;
    keeps = λ x h i. t.keeps x h (s.keeps x h i);
    out = λ v l p. moved_more s.state.walking.out t.aside.low (shrink t) t.out l p w (shrink s) s.out;
    into = λ v l p. moved_more s.state.walking.into t.aside.low (shrink t) t.into l p w (shrink s) s.into;
    aside = touched_more s.aside t.aside;
  }
