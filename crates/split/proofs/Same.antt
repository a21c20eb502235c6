-- What depends on colours, indexes and the order alone is as it was where they are.
use Prim.Native.Nat.{ℕ, ◌+◌, ◌*◌, ◌≤◌, ◌<◌}
use native.Mathlib.Omega.{arith}
use mathlib.Core.Path.{◌≡◌, sym, ap, ◌∙◌}
use mathlib.Core.Logic.{◌⊎◌, inl, ⊎_elim}
use mathlib.Core.List.{List}
use lib.ListN.{length, get_or}
use lib.Dec.{ltb}
use Rattle.graph.specs.Graph.{Graph, Valid, rev, edges}
use Rattle.graph.specs.Parts.{Alone}
use Rattle.graph.proofs.Chains.{same_low, same_sym}
use Rattle.graph.proofs.Counts.{many_le, many_mono}
use Rattle.graph.proofs.Method.{alone_label}
use Rattle.index.proofs.Moved.{held_kept}
use Rattle.memory.specs.Decomposer.{col, ord, order_at}
use Rattle.split.specs.State.{labelled, Tables, Owned, Stage}
use Rattle.split.specs.Chain.{Follows, First}

module _ {n : ℕ} {own own' : ℕ → ℕ} (s : (i : ℕ) → i < n → own' i ≡ own i) where
  pub follows_same : {i y : ℕ} → i < n → Follows n own i y → Follows n own' i y
  follows_same {i} {y} l f = record {
    more = f.more;
    most = f.most;
    same = λ t. s y t ∙ f.same t ∙ sym (s i l);
    none = λ u a b e. f.none u a b (sym (s u (omega (arith, f.most))) ∙ e ∙ s i l);
  }

  pub first_same : {h : ℕ} → First n own h → First n own' h
  first_same {h} f = record {
    low = f.low;
    part = omega (arith, f.part, s h f.low);
    none = λ u a e. f.none u a (sym (s u (omega (arith, f.low))) ∙ e ∙ s h f.low);
  }

-- THE STAGE
pub tables_kept : (g : Graph) (b : ℕ) (w w' : List ℕ) → ((j : ℕ) → j < b → get_or w' j 0 ≡ get_or w j 0) → Tables g b w → Tables g b w'
tables_kept g b w w' k t = record {
  valid = t.valid;
  few = t.few;
  small = t.small;
  below = t.below;
  fwd = held_kept g 0 w w' (λ j h l. k j (omega (arith, t.below))) t.fwd;
  bwd = held_kept (rev g) (g.n + 1 + edges g) w w' (λ j h l. k j (omega (arith, t.below))) t.bwd;
}

-- no part's colour is too large for its region
pub top_le : {g : Graph} {b top : ℕ} {w : List ℕ} → Stage g b top w → top ≤ 4 * g.n + 2
top_le {g} {b} {top} {w} s = omega (arith, s.room, many_le (λ v. ltb (col b w v) g.n) g.n)

pub labels_same : (g : Graph) (b : ℕ) (w w' : List ℕ) → ((v : ℕ) → v < g.n → col b w' v ≡ col b w v) → labelled g b w ≤ labelled g b w'
labels_same g b w w' c = many_mono (λ v. ltb (col b w v) g.n) (λ v. ltb (col b w' v) g.n) g.n (λ v h t. rw (c v h) t)

-- only components alone have got other colours, their labels
pub owned_alone : {g : Graph} (own own' : ℕ → ℕ) {top : ℕ} → Valid g → g.n ≤ top → Owned g own top
    → ((v : ℕ) → v < g.n → (own' v ≡ own v) ⊎ ((own' v ≡ v) × Alone g v)) → Owned g own' top
owned_alone own own' ok over o each = record {
  whole = λ u v h t. ⊎_elim
      (λ x. ⊎_elim (λ y. x ∙ o.whole u v h t ∙ sym y) (λ y. ap own' (sym (y.1 u (same_sym t)))) (each v (same_low ok t h)))
      (λ x. ap own' (x.1 v t)) (each u h);
  right = λ v h t. ⊎_elim (λ x. rw x (o.right v h (omega (arith, x, t)))) (λ x. rw x.0 (alone_label x.1)) (each v h);
  below = λ v h. ⊎_elim (λ x. omega (arith, x, o.below v h)) (λ x. omega (arith, x.0)) (each v h);
}

module _ {g : Graph} {b top : ℕ} {w : List ℕ} (w' : List ℕ) (s : Stage g b top w) (low : (j : ℕ) → j < b → get_or w' j 0 ≡ get_or w j 0)
    (high : (j : ℕ) → order_at g.n b ≤ j → get_or w' j 0 ≡ get_or w j 0) (long : length w' ≡ length w) where
  ords : (i : ℕ) → ord g.n b w' i ≡ ord g.n b w i
  ords i = high (order_at g.n b + i) (omega arith)

  -- new colours, for which there is room
  pub stage_moved : {top' : ℕ} → Owned g (col b w') top' → top' ≤ 2 * g.n + 2 + 2 * labelled g b w' → Stage g b top' w'
  stage_moved o r = record {
    tables = tables_kept g b w w' low s.tables;
    placed = record {
      low = λ i h. rw (ords i) (s.placed.low i h);
      one = λ i j h l e. s.placed.one i j h l (sym (ords i) ∙ e ∙ ords j);
      all = λ v h. let y = s.placed.all v h in (y.0, y.1, ords y.0 ∙ y.2);
    };
    owned = o;
    room = r;
    long = omega (arith, s.long, long);
  }

  pub stage_same : g.n ≤ top → ((v : ℕ) → v < g.n → col b w' v ≡ col b w v) → Stage g b top w'
  stage_same over c = stage_moved (owned_alone (col b w) (col b w') s.tables.valid over s.owned (λ v h. inl (c v h))) (omega (arith, s.room, labels_same g b w w' c))
