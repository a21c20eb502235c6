-- The loops that mark seeds: along the neighbours of one vertex, and along the queue.
use Prim.Native.Nat.{ℕ, suc, ◌+◌, ◌≤◌, ◌<◌}
use native.Mathlib.Omega.{arith}
use native.Mathlib.Decide.{dec_lt}
use mathlib.Core.Path.{◌≡◌, sym, ap, ◌∙◌}
use mathlib.Core.Logic.{◌⊎◌, ◌↔◌, inl, inr, ⊎_elim}
use mathlib.Core.List.{List}
use lib.ListN.{length, get_or}
use Rattle.graph.specs.Graph.{Graph, Part, edges}
use Rattle.graph.specs.Limits.{most_vertices, most_edges}
use Rattle.graph.proofs.Chains.{edge_to_low}
use Rattle.index.specs.Index.{first}
use Rattle.index.proofs.Counts.{start_mono, start_all, neighbour, found}
use Rattle.memory.specs.Decomposer.{que}
use Rattle.split.specs.State.{Tables}
use Rattle.split.proofs.Same.{tables_kept}
use Rattle.slices.specs.Seeds.{MarkAsk, Mark, Marked, Next, NextAsk, Behind, AllAsk}
use Rattle.slices.proofs.Marking.{marked_none, marked_more, mark_step, free_room}

-- what a turn along the neighbours of a vertex reads: the one at place i
pub record Turn (g : Graph) (i : ℕ) (w : List ℕ) : Type 0 where
  pub small : g.n + 1 + i ≤ most_vertices + 1 + most_edges
  pub here : g.n + 1 + i < length w
  pub low : get_or w (g.n + 1 + i) 0 < g.n

-- y stands in u's row before the place i
abbrev pub Seen : Graph → ℕ → List ℕ → ℕ → Part
Seen g u w i y = (j : ℕ) × (first g u ≤ j) × (j < i) × (get_or w (g.n + 1 + j) 0 ≡ y)

-- the neighbours of a vertex u in the forward index
module _ {g : Graph} {b : ℕ} {w : List ℕ} (t : Tables g b w) {u : ℕ} (l : u < g.n) where
  pub first_at : get_or w u 0 ≡ first g u
  first_at = ap (λ (j : ℕ). get_or w j 0) (omega arith) ∙ t.fwd.offs u (omega arith)

  pub end_at : get_or w (u + 1) 0 ≡ first g (suc u)
  end_at = ap (λ (j : ℕ). get_or w j 0) (omega arith) ∙ t.fwd.offs (suc u) l

  -- the code writes no 0 +
  same_place : (i : ℕ) → get_or w (g.n + 1 + i) 0 ≡ get_or w (0 + g.n + 1 + i) 0
  same_place i = ap (λ (j : ℕ). get_or w j 0) (omega arith)

  pub seen_none : (y : ℕ) → Seen g u w (get_or w u 0) y → ⊥
  seen_none y (j, p, q, _) = omega (arith, first_at)

  pub seen_more : {i : ℕ} → first g u ≤ i → (y : ℕ) → Seen g u w (i + 1) y ↔ (Seen g u w i y ⊎ (get_or w (g.n + 1 + i) 0 ≡ y))
  seen_more {i} h y = (
    λ (j, p, q, x). elim (dec_lt j i) as (λ _. Seen g u w i y ⊎ (get_or w (g.n + 1 + i) 0 ≡ y)) [
      | yes k ↦ inl (j, p, k, x)
      | no k ↦ let s : i ≡ j = omega arith in inr (ap (λ (j : ℕ). get_or w (g.n + 1 + j) 0) s ∙ x)
    ],
    λ d. ⊎_elim (λ (j, p, q, x). (j, p, omega arith, x)) (λ x. (i, h, omega arith, x)) d,
  )

  -- in its row stand the successors of u
  pub seen_next : {i : ℕ} → i ≤ first g (suc u) → (y : ℕ) → Seen g u w i y → Next g u y
  seen_next {i} h y (j, p, q, x) = let (a, d) = neighbour g t.fwd u j p (omega arith) in (a, rw (← x, same_place j) d)

  pub seen_all : {i : ℕ} → get_or w (u + 1) 0 ≤ i → (y : ℕ) → Next g u y → Seen g u w i y
  seen_all {i} h y (a, d) = let (j, p, q, x) = found g t.fwd a u y d in (j, p, omega (arith, end_at), same_place j ∙ x)

  module _ {i : ℕ} (h : first g u ≤ i) (k : i < get_or w (u + 1) 0) where
    pub row_below : g.n + 1 + i < b
    row_below = omega (arith, t.below, end_at, start_all g.counted g.src (edges g) (suc u))

    row_low : get_or w (g.n + 1 + i) 0 < g.n
    row_low = rw (same_place i) (edge_to_low t.valid (neighbour g t.fwd u i h (omega (arith, end_at))).1)

    -- the row stands as it stood
    pub row_turn : (w' : List ℕ) → ((j : ℕ) → j < b → get_or w' j 0 ≡ get_or w j 0) → b ≤ length w' → Turn g i w'
    row_turn w' low f = record {
      small = omega (arith, t.small, t.few, end_at, start_all g.counted g.src (edges g) (suc u));
      here = omega (arith, row_below, f);
      low = rw (low (g.n + 1 + i) row_below) row_low;
    }

-- the neighbours of v before place i are marked
pub record Going (g : Graph) (b r v e₀ : ℕ) (w₀ : List ℕ) (i : ℕ) (w : List ℕ) (e : ℕ) : Type 0 where
  pub after : first g v ≤ i
  pub before : i ≤ first g (suc v)
  pub marked : Marked g.n b r w₀ e₀ w e (Seen g v w₀ i)

module _ {g : Graph} {b r v e₀ : ℕ} {w₀ : List ℕ} (a : NextAsk g b r v e₀ w₀) where
  pub next_none : Going g b r v e₀ w₀ (get_or w₀ v 0) w₀ e₀
  next_none = let f = first_at a.tables a.low in record {
    after = omega (arith, f);
    before = omega (arith, f, start_mono g.counted g.src (edges g) v (suc v) (omega arith));
    marked = marked_none g.n b r w₀ e₀ _ (λ y h d. absurd (seen_none a.tables a.low y d));
  }

  module _ {i : ℕ} {w : List ℕ} {e : ℕ} (z : Going g b r v e₀ w₀ i w e) (l : i < get_or w₀ (v + 1) 0) where
    pub next_turn : Turn g i w
    next_turn = row_turn a.tables a.low z.after l w (λ j h. z.marked.low j (omega arith)) (omega (arith, a.long, z.marked.long))

    same : get_or w (g.n + 1 + i) 0 ≡ get_or w₀ (g.n + 1 + i) 0
    same = z.marked.low (g.n + 1 + i) (omega (arith, row_below a.tables a.low z.after l))

    pub next_ask : MarkAsk g.n b (get_or w (g.n + 1 + i) 0) r e w
    next_ask = record {
      low = next_turn.low;
      small = a.tables.small;
      long = omega (arith, a.long, z.marked.long);
      room = λ h k. omega (arith, a.room, z.marked.moved, free_room g.n b r w (get_or w (g.n + 1 + i) 0) next_turn.low h k);
    }

    pub next_step : {w' : List ℕ} {e' : ℕ} → Mark g.n b (get_or w (g.n + 1 + i) 0) r e w w' e' → Going g b r v e₀ w₀ (i + 1) w' e'
    next_step {w'} {e'} m = record {
      after = omega (arith, z.after);
      before = omega (arith, l, end_at a.tables a.low);
      marked = marked_more g.n b r w₀ w w' e₀ e e' (Seen g v w₀ i) (λ y. y ≡ get_or w (g.n + 1 + i) 0) (Seen g v w₀ (i + 1))
          (λ y. let (f, f') = seen_more a.tables a.low z.after y in (
            λ d. ⊎_elim (λ q. inl q) (λ q. inr (sym q ∙ sym same)) (f d),
            λ d. f' (⊎_elim (λ q. inl q) (λ q. inr (sym same ∙ sym q)) d),
          ))
          z.marked (mark_step g.n b r w e (get_or w (g.n + 1 + i) 0) next_ask w' e' m);
    }

  pub next_all : {i : ℕ} {w : List ℕ} {e : ℕ} → Going g b r v e₀ w₀ i w e → get_or w₀ (v + 1) 0 ≤ i → Marked g.n b r w₀ e₀ w e (Next g v)
  next_all {i} {w} {e} z l = let m = z.marked in record {
    more = m.more;
    front = m.front;
    fresh = m.fresh;
    each = m.each;
    keeps = m.keeps;
    done = λ y h d. m.done y h (seen_all a.tables a.low l y d);
    only = λ y h c o. seen_next a.tables a.low z.before y (m.only y h c o);
    marks = m.marks;
    moved = m.moved;
    low = m.low;
    high = m.high;
    long = m.long;
  }

-- along the queue
module _ {g : Graph} {b r k e₀ : ℕ} {w₀ : List ℕ} (a : AllAsk g b r k e₀ w₀) where
  module _ {i : ℕ} {w : List ℕ} {e : ℕ} (l : i < k) (z : Marked g.n b r w₀ e₀ w e (Behind g b w₀ i)) where
    same_queue : que g.n b w i ≡ que g.n b w₀ i
    same_queue = z.low (b + g.n + i) (omega (arith, a.few))

    pub all_ask : NextAsk g b r (que g.n b w i) e w
    all_ask = record {
      tables = tables_kept g b w₀ w (λ j h. z.low j (omega arith)) a.tables;
      long = omega (arith, a.long, z.long);
      low = rw same_queue (a.member i l);
      room = omega (arith, a.room, z.moved);
    }

    pub all_step : {w' : List ℕ} {e' : ℕ} → Marked g.n b r w e w' e' (Next g (que g.n b w i)) → Marked g.n b r w₀ e₀ w' e' (Behind g b w₀ (i + 1))
    all_step {w'} {e'} m = marked_more g.n b r w₀ w w' e₀ e e' (Behind g b w₀ i) (Next g (que g.n b w i)) (Behind g b w₀ (i + 1))
        (λ y. (
          λ (j, p, x). elim (dec_lt j i) as (λ _. Behind g b w₀ i y ⊎ Next g (que g.n b w i) y) [
            | yes q ↦ inl (j, q, x)
            | no q ↦ let s : i ≡ j = omega arith in inr (rw (same_queue, s) x)
          ],
          λ d. ⊎_elim (λ (j, p, x). (j, omega arith, x)) (λ x. (i, omega arith, rw same_queue at x)) d,
        ))
        z m
