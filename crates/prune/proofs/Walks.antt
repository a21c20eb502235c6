-- One direction: how a vertex is looked at, and what keeps the cursors right.
use Prim.Native.Nat.{ℕ, suc, ◌+◌, ◌≤◌, ◌<◌}
use native.Mathlib.Omega.{arith}
use native.Mathlib.Decide.{ℕ_discrete, dec_lt}
use mathlib.Core.Path.{◌≡◌, sym, ap, subst, ◌∙◌}
use mathlib.Core.List.{List}
use lib.ListN.{length, get_or, set}
use lib.Seq.{get_or-set_same, get_or-set_other}
use Rattle.graph.specs.Graph.{Graph, Part, Edge, edges}
use Rattle.graph.specs.Parts.{Left}
use Rattle.graph.proofs.Chains.{edge_to_low}
use Rattle.index.specs.Index.{first}
use Rattle.index.proofs.Counts.{start_mono, start_all, neighbour, found}
use Rattle.memory.specs.Decomposer.{col}
use Rattle.paint.specs.Paint.{other, Laid}
use Rattle.paint.proofs.Spreading.{laid_kept}
use Rattle.prune.specs.Cursor.{cur, ahead, Cursors, Clear, Rests, Stands, Side, Found, LookAsk, AdvanceAsk, Hued}

-- THE EDGES OF A VERTEX
module _ (g : Graph) (ix b : ℕ) (w : List ℕ) (x : Laid g ix b w) where
  pub last_le : (v : ℕ) → v < g.n → first g (suc v) ≤ edges g
  last_le v l = omega (arith, start_mono g.counted g.src (edges g) (suc v) g.n l, start_all g.counted g.src (edges g) g.n)

  -- at a place of v's stands an edge that leaves v
  pub place_edge : (v j : ℕ) → first g v ≤ j → j < first g (suc v) → (e : ℕ) × Edge g e v (other w (ix + g.n + 1) j)
  place_edge v j s t = neighbour g x.index v j s t

  pub other_low : (v j : ℕ) → v < g.n → first g v ≤ j → j < first g (suc v) → other w (ix + g.n + 1) j < g.n
  other_low v j l s t = edge_to_low x.valid (place_edge v j s t).1

  pub ends_at : (v : ℕ) → v < g.n → get_or w (ix + v + 1) 0 ≡ first g (suc v)
  ends_at v l = ap (λ (j : ℕ). get_or w j 0) (omega arith) ∙ x.index.offs (suc v) l

  module _ (w' : List ℕ) (low : (j : ℕ) → j < b → get_or w' j 0 ≡ get_or w j 0) where
    pub other_same : (j : ℕ) → j < edges g → other w' (ix + g.n + 1) j ≡ other w (ix + g.n + 1) j
    other_same j l = low (ix + g.n + 1 + j) (omega (arith, x.below))

    pub ahead_same : (cb v : ℕ) → v < g.n → cur cb w' v ≡ cur cb w v → cur cb w v < first g (suc v) → ahead g ix cb w' v ≡ ahead g ix cb w v
    ahead_same cb v l e h = ap (other w' (ix + g.n + 1)) e ∙ other_same (cur cb w v) (omega (arith, last_le v l))

-- what leads out of the part does so where the part only shrinks
pub clear_kept : (g : Graph) (ix b q : ℕ) (w w' : List ℕ) → Laid g ix b w → ((j : ℕ) → j < b → get_or w' j 0 ≡ get_or w j 0)
    → ((v : ℕ) → v < g.n → col b w' v ≡ q → col b w v ≡ q) → (v i : ℕ) → v < g.n → Clear g ix b q w v i → Clear g ix b q w' v i
clear_kept g ix b q w w' x low less v i l z = record {
  least = z.least;
  most = z.most;
  passed = λ j s t d.
      let m : j < first g (suc v) = omega (arith, z.most) in
      let o = other_same g ix b w x w' low j (omega (arith, last_le g ix b w x v l)) in
      z.passed j s t (less (other w (ix + g.n + 1) j) (other_low g ix b w x v j l s m) (ap (col b w') (sym o) ∙ d));
}

-- at the first edges nothing was passed
pub clear_first : (g : Graph) (ix b q : ℕ) (w : List ℕ) → Laid g ix b w → (v : ℕ) → v < g.n → Clear g ix b q w v (cur ix w v)
clear_first g ix b q w x v l =
    let e : cur ix w v ≡ first g v = x.index.offs v (omega arith) in
    record {
      least = omega (arith, e);
      most = omega (arith, e, start_mono g.counted g.src (edges g) v (suc v) (omega arith));
      passed = λ j s t. absurd (omega (arith, e));
    }

-- cursors are right, vertex by vertex
cursors_of : (g : Graph) (ix cb b q : ℕ) (w : List ℕ) → ((v : ℕ) → v < g.n → col b w v ≡ q → Clear g ix b q w v (cur cb w v)) → Cursors g ix cb b q w
cursors_of g ix cb b q w f = record { least = λ v l p. (f v l p).least; most = λ v l p. (f v l p).most; passed = λ v j l p. (f v l p).passed j }

of_cursors : (g : Graph) (ix cb b q : ℕ) (w : List ℕ) → Cursors g ix cb b q w → (v : ℕ) → v < g.n → col b w v ≡ q → Clear g ix b q w v (cur cb w v)
of_cursors g ix cb b q w z v l p = record { least = z.least v l p; most = z.most v l p; passed = λ j. z.passed v j l p }

pub side_kept : (g : Graph) (ix cb b q : ℕ) (w w' : List ℕ) → ((j : ℕ) → j < b → get_or w' j 0 ≡ get_or w j 0)
    → ((v : ℕ) → v < g.n → col b w' v ≡ q → (col b w v ≡ q) × (cur cb w' v ≡ cur cb w v))
    → Side g ix cb b q w → Side g ix cb b q w'
side_kept g ix cb b q w w' low same s = record {
  laid = laid_kept low s.laid;
  cursors = cursors_of g ix cb b q w' (λ v l p. let (o, e) = same v l p in
      rw e (clear_kept g ix b q w w' s.laid low (λ u h i. (same u h i).0) v (cur cb w v) l (of_cursors g ix cb b q w s.cursors v l o)));
}

-- a cursor that is not at the end of its vertex's edges stands at an edge to a vertex
pub ahead_low : (g : Graph) (ix cb b q : ℕ) (w : List ℕ) → Laid g ix b w → (v : ℕ) → v < g.n → Clear g ix b q w v (cur cb w v) → cur cb w v < first g (suc v)
    → ahead g ix cb w v < g.n
ahead_low g ix cb b q w x v l z h = other_low g ix b w x v (cur cb w v) l z.least h

-- A CURSOR RESTS
module _ {g : Graph} {ix cb b q : ℕ} {w : List ℕ} {v : ℕ} {In In' : Part} (r : Rests g ix cb b q In w v) where
  pub rests_in : (In (ahead g ix cb w v) → In' (ahead g ix cb w v)) → Rests g ix cb b q In' w v
  rests_in f = record { before = r.before; inside = f r.inside; clear = r.clear }

  pub rests_wider : Laid g ix b w → v < g.n → ((u : ℕ) → u < g.n → In u → In' u) → Rests g ix cb b q In' w v
  rests_wider x l f = rests_in (f (ahead g ix cb w v) (ahead_low g ix cb b q w x v l r.clear r.before))

-- it does so where it has not moved, nothing below the colours has changed and the part only shrinks
pub rests_still : {g : Graph} {ix cb b q : ℕ} {w w' : List ℕ} {v : ℕ} {In : Part} → Laid g ix b w → ((j : ℕ) → j < b → get_or w' j 0 ≡ get_or w j 0)
    → ((v : ℕ) → v < g.n → col b w' v ≡ q → col b w v ≡ q) → v < g.n → cur cb w' v ≡ cur cb w v → Rests g ix cb b q In w v → Rests g ix cb b q In w' v
rests_still {g} {ix} {cb} {b} {q} {w} {w'} {v} {In} x low less l e r = record {
  before = rw e r.before;
  inside = subst In (sym (ahead_same g ix b w x w' low cb v l e r.before)) r.inside;
  clear = rw e (clear_kept g ix b q w w' x low less v (cur cb w v) l r.clear);
}

-- v IS LOOKED AT, from place i on
module _ (g : Graph) (ix cb b q : ℕ) (w : List ℕ) (x : Laid g ix b w) (above : b + g.n ≤ cb) (fits : cb + g.n ≤ length w) (v : ℕ) (l : v < g.n) where
  pub look_ask : (sb : ℕ) → sb + v < length w → Clear g ix b q w v (cur sb w v) → LookAsk g.n ix cb sb b v w
  look_ask sb start z = record {
    find = record {
      order = omega (arith, ends_at g ix b w x v l, z.most);
      fits = omega (arith, ends_at g ix b w x v l, last_le g ix b w x v l, x.below);
      ends = λ j i t. omega (arith, above, fits, other_low g ix b w x v j l (omega (arith, z.least)) (omega (arith, ends_at g ix b w x v l)));
    };
    offset = omega (arith, x.below, above, fits);
    cursor = omega arith;
    start = start;
  }

  module _ (i : ℕ) (z : Clear g ix b q w v i) (r : ℕ) (f : Found (ix + g.n + 1) b q i (get_or w (ix + v + 1) 0) w r) where
    else : (j : ℕ) → (j ≡ cb + v → ⊥) → get_or (set w (cb + v) r) j 0 ≡ get_or w j 0
    else j o = get_or-set_other w (cb + v) j r 0 o

    low : (j : ℕ) → j < b → get_or (set w (cb + v) r) j 0 ≡ get_or w j 0
    low j h = else j (omega arith)

    same_col : (u : ℕ) → u < g.n → col b (set w (cb + v) r) u ≡ col b w u
    same_col u h = else (b + u) (omega arith)

    less : (u : ℕ) → u < g.n → col b (set w (cb + v) r) u ≡ q → col b w u ≡ q
    less u h p = sym (same_col u h) ∙ p

    here : cur cb (set w (cb + v) r) v ≡ r
    here = get_or-set_same w (cb + v) r 0 (omega arith)

    -- all places up to r lead out of the part
    behind : Clear g ix b q w v r
    behind = record {
      least = omega (arith, f.least, z.least);
      most = omega (arith, f.most, ends_at g ix b w x v l);
      passed = λ j m t e. elim (dec_lt j i) as (λ _. ⊥) [ yes h ↦ z.passed j m h e | no h ↦ f.passed j (omega arith) t e ];
    }

    pub look_clear : Clear g ix b q (set w (cb + v) r) v (cur cb (set w (cb + v) r) v)
    look_clear = rw here (clear_kept g ix b q w (set w (cb + v) r) x low less v r l behind)

    pub look_none : r ≡ get_or w (ix + v + 1) 0 → Left g (Hued g.n b q w) v → ⊥
    look_none h (e, y, d, c) =
        let (j, m, t, k) = found g x.index e v y c in
        behind.passed j m (omega (arith, ends_at g ix b w x v l)) (ap (col b w) k ∙ d.1)

    pub look_some : r < get_or w (ix + v + 1) 0 → Stands g ix cb b q (set w (cb + v) r) v
    look_some h =
        let t : r < first g (suc v) = omega (arith, ends_at g ix b w x v l, h) in
        record {
          before = rw here t;
          inside = ap (λ (j : ℕ). col b (set w (cb + v) r) (other (set w (cb + v) r) (ix + g.n + 1) j)) here
              ∙ ap (col b (set w (cb + v) r)) (other_same g ix b w x (set w (cb + v) r) low r (omega (arith, last_le g ix b w x v l)))
              ∙ same_col (other w (ix + g.n + 1) r) (other_low g ix b w x v r l behind.least t) ∙ f.stop h;
          clear = look_clear;
        }

-- v's CURSOR GOES ON
module _ (g : Graph) (ix cb b q : ℕ) (w : List ℕ) (s : Side g ix cb b q w) (above : b + g.n ≤ cb) (fits : cb + g.n ≤ length w) (v : ℕ) (l : v < g.n) (p : col b w v ≡ q) where
  z : Clear g ix b q w v (cur cb w v)
  z = of_cursors g ix cb b q w s.cursors v l p

  pub advance_ask : AdvanceAsk g.n ix cb b v w
  advance_ask = look_ask g ix cb b q w s.laid above fits v l cb (omega arith) z

  module _ (r : ℕ) (f : Found (ix + g.n + 1) b q (cur cb w v) (get_or w (ix + v + 1) 0) w r) where
    lower : (j : ℕ) → j < b → get_or (set w (cb + v) r) j 0 ≡ get_or w j 0
    lower j h = get_or-set_other w (cb + v) j r 0 (omega arith)

    was : (u : ℕ) → u < g.n → col b (set w (cb + v) r) u ≡ q → col b w u ≡ q
    was u h i = sym (get_or-set_other w (cb + v) (b + u) r 0 (omega arith)) ∙ i

    pub on_side : Side g ix cb b q (set w (cb + v) r)
    on_side = record {
      laid = laid_kept lower s.laid;
      cursors = cursors_of g ix cb b q (set w (cb + v) r)
          (λ u h i. elim (ℕ_discrete u v) as (λ _. Clear g ix b q (set w (cb + v) r) u (cur cb (set w (cb + v) r) u)) [
            | yes e ↦ rw e (look_clear g ix cb b q w s.laid above fits v l (cur cb w v) z r f)
            | no e ↦ rw (get_or-set_other w (cb + v) (cb + u) r 0 (omega arith)) (clear_kept g ix b q w (set w (cb + v) r) s.laid lower was u (cur cb w u) h
                (of_cursors g ix cb b q w s.cursors u h (was u h i)))
          ]);
    }

    pub on_none : r ≡ get_or w (ix + v + 1) 0 → Left g (Hued g.n b q w) v → ⊥
    on_none = look_none g ix cb b q w s.laid above fits v l (cur cb w v) z r f

-- a cursor that stands at an edge into the part shows an edge that leaves to it
pub stands_left : (g : Graph) (ix cb b q : ℕ) (w : List ℕ) → Laid g ix b w → (v : ℕ) → v < g.n → Stands g ix cb b q w v → Left g (Hued g.n b q w) v
stands_left g ix cb b q w x v l t =
    let (e, d) = place_edge g ix b w x v (cur cb w v) t.clear.least t.before in
    (e, ahead g ix cb w v, (ahead_low g ix cb b q w x v l t.clear t.before, t.inside), d)
