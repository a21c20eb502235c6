-- The edges of one vertex go, one after the other.
use Prim.Native.Nat.{ℕ, zero, suc, ◌+◌, ◌-◌, ◌≤◌, ◌<◌}
use native.Mathlib.Omega.{arith}
use native.Mathlib.Decide.{ℕ_discrete}
use mathlib.Core.Path.{◌≡◌, refl, sym, ap, ◌∙◌}
use mathlib.Core.Logic.{◌⊎◌, inl, inr, by_cases}
use mathlib.Core.Bool.{Bool, false}
use mathlib.Core.List.{List}
use lib.ListN.{get_or}
use lib.Dec.{T}
use Rattle.graph.specs.Graph.{Graph, IsEdge}
use Rattle.memory.specs.Writer.{in_edges}
use Rattle.ranks.specs.Ranks.{extend, extends}
use Rattle.ranks.specs.Peel.{SettleAsk, AfterSettle, row_of, ScanAsk, Scanned}
use Rattle.ranks.proofs.Peeling.{extend_other, extend_old, extend_here, extend_split}
use Rattle.ranks.proofs.Settling.{ground_kept, lead_ask, onward_none, onward_more}

module _ (done : ℕ → Bool) (row : ℕ → ℕ) where
  pub extends_old : (i x : ℕ) → T (done x) → T (extends done row i x)
  unfolding extends
  extends_old zero x t = t
  extends_old (suc i) x t = extend_old (extends done row i) (row i) x (extends_old i x t)

  pub extends_new : (i j : ℕ) → j < i → T (extends done row i (row j))
  unfolding extends
  extends_new zero j l = absurd (omega arith)
  extends_new (suc i) j l = by_cases (ℕ_discrete j i)
      (λ q. rw (extend_here (extends done row i) (row i) (row j) (ap row q)) tt)
      (λ o. extend_old (extends done row i) (row i) (row j) (extends_new i j (omega arith)))

  pub extends_split : (i x : ℕ) → T (extends done row i x) → T (done x) ⊎ ((j : ℕ) × (j < i) × (row j ≡ x))
  unfolding extends
  extends_split zero x t = inl t
  extends_split (suc i) x t = go (extend_split (extends done row i) (row i) x t) (extends_split i x)
    where
      go : T (extends done row i x) ⊎ (x ≡ row i) → (T (extends done row i x) → T (done x) ⊎ ((j : ℕ) × (j < i) × (row j ≡ x))) → T (done x) ⊎ ((j : ℕ) × (j < suc i) × (row j ≡ x))
      go (inr q) ih = inr (i, omega arith, sym q)
      go (inl t) ih = wider (ih t)
        where
          wider : T (done x) ⊎ ((j : ℕ) × (j < i) × (row j ≡ x)) → T (done x) ⊎ ((j : ℕ) × (j < suc i) × (row j ≡ x))
          wider (inl t) = inl t
          wider (inr (j, l, q)) = inr (j, omega arith, q)

  pub extends_fresh : (i x : ℕ) → done x ≡ false → ((j : ℕ) → j < i → row j ≡ x → ⊥) → extends done row i x ≡ false
  unfolding extends
  extends_fresh zero x q o = q
  extends_fresh (suc i) x q o = extend_other (extends done row i) (row i) x (λ z. o i (omega arith) (sym z)) ∙ extends_fresh i x q (λ j l. o j (omega arith))

  pub extends_suc : (i : ℕ) → extends done row (suc i) ≡ extend (extends done row i) (row i)
  unfolding extends
  extends_suc i = refl

module _ {g : Graph} {lab : List ℕ} {b u k₀ : ℕ} {w₀ : List ℕ} (a : ScanAsk g lab b u k₀ w₀) where
  abbrev row : ℕ → ℕ
  row = row_of g.n u w₀

  abbrev s : ℕ
  s = get_or w₀ u 0

  pub scan_none : Scanned g lab b u s k₀ w₀ w₀ k₀ a.course
  unfolding extends
  scan_none =
      let z : s - s ≡ 0 = omega arith in
      record { onward = onward_none g.n b k₀ w₀; peels = rw z a.course.peels }

  module _ {j k : ℕ} {w : List ℕ} (x : Scanned g lab b u j k₀ w₀ w k a.course) (l : s ≤ j) (h : j < get_or w₀ (u + 1) 0) where
    -- the edge read is the row's
    read_edge : get_or w (g.n + 1 + j) 0 ≡ get_or w₀ (g.n + 1 + j) 0
    read_edge = x.onward.frame.low (g.n + 1 + j) (omega (arith, a.below))

    is_edge : IsEdge g (get_or w (g.n + 1 + j) 0)
    is_edge = rw read_edge (a.row j l h).0

    pub scan_ask : SettleAsk g lab b u (get_or w (g.n + 1 + j) 0) k w
    scan_ask =
        let ground = ground_kept a.ground x.onward.frame.long in
        record {
          ground = ground;
          course =
              record {
                in_edge = a.course.in_edge;
                done = extends a.course.done row (j - s);
                top = a.course.top;
                holds = λ v m. x.onward.frame.mid (in_edges g.n b + v) (omega arith) (omega arith) ∙ a.course.holds v m;
                peels = x.peels;
                top_low = a.course.top_low;
              };
          asks = lead_ask ground u (get_or w (g.n + 1 + j) 0) a.vertex is_edge.0;
          edge = is_edge;
          leaves = rw read_edge (a.row j l h).1;
          fresh = rw read_edge (extends_fresh a.course.done row (j - s) (get_or w₀ (g.n + 1 + j) 0) (a.row j l h).2 (λ i m q. omega (arith, a.rising (s + i) j (omega arith) (omega arith) h)));
          source = (x.onward.still u a.vertex a.source).0;
          bound = omega (arith, a.bound, (x.onward.still u a.vertex a.source).1);
        }

    pub scan_step : {w' : List ℕ} {k' : ℕ} → AfterSettle g lab b u (get_or w (g.n + 1 + j) 0) k w w' k' → Scanned g lab b u (j + 1) k₀ w₀ w' k' a.course
    unfolding scan_ask extends
    scan_step f =
        let y = f scan_ask in
        let z : j + 1 - s ≡ suc (j - s) = omega arith in
        let p : s + (j - s) ≡ j = omega arith in
        let e : get_or w (g.n + 1 + j) 0 ≡ row (j - s) = rw p read_edge in
        record { onward = onward_more x.onward y.onward; peels = rw (z, extends_suc a.course.done row (j - s), ← e) y.peels }
