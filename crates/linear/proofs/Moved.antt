-- What the search knows moves to functions that agree where it looks.
use Prim.Native.Nat.{ℕ, suc, ◌≤◌, ◌<◌}
use native.Mathlib.Omega.{arith}
use mathlib.Core.Path.{◌≡◌, sym, ◌∙◌}
use mathlib.Core.Logic.{inl, inr, ⊎_elim}
use Rattle.graph.specs.Graph.{Graph, Edge, edges}
use Rattle.graph.proofs.Chains.{edge_from_low, edge_to_low}
use Rattle.index.proofs.Counts.{start_mono, start_all, neighbour, found}
use Rattle.linear.specs.Path.{Setting, Ahead, Between}

module _ {g : Graph} {off other : ℕ → ℕ} (z : Setting g off other) where
  -- places of the index are below the number of edges
  pub place_low : (v c : ℕ) → v < g.n → c < off (suc v) → c < edges g
  place_low v c l h = omega (arith, z.index.offs (suc v) l, start_all g.counted g.src (edges g) (suc v))

  pub offs_rise : (v : ℕ) → v < g.n → off v ≤ off (suc v)
  offs_rise v l = omega (arith, z.index.offs v (omega arith), z.index.offs (suc v) l, start_mono g.counted g.src (edges g) v (suc v) (omega arith))

  -- at place c of v's edges stands the target of one of them
  pub edge_here : (v c : ℕ) → v < g.n → off v ≤ c → c < off (suc v) → (e : ℕ) × Edge g e v (other c)
  edge_here v c l h m = neighbour g z.index v c (omega (arith, z.index.offs v (omega arith))) (omega (arith, z.index.offs (suc v) l))

  -- each of v's edges has its place
  pub place_of : (e v w : ℕ) → Edge g e v w → (c : ℕ) × (off v ≤ c) × (c < off (suc v)) × (other c ≡ w)
  place_of e v w y =
      let l = edge_from_low z.valid y in
      let (c, a, b, q) = found g z.index e v w y in
      (c, omega (arith, z.index.offs v (omega arith)), omega (arith, z.index.offs (suc v) l), q)

  pub other_low : (v c : ℕ) → v < g.n → off v ≤ c → c < off (suc v) → other c < g.n
  other_low v c l h m = edge_to_low z.valid (edge_here v c l h m).1

-- functions that agree where the search looks
pub record Agree (g : Graph) (s k p : ℕ) (off other col st fr pa cu off' other' col' st' fr' pa' cu' : ℕ → ℕ) : Type 0 where
  pub offs : (v : ℕ) → v ≤ g.n → off' v ≡ off v
  pub others : (c : ℕ) → c < edges g → other' c ≡ other c
  pub cols : (v : ℕ) → v < g.n → col' v ≡ col v
  pub sts : (i : ℕ) → i < s → st' i ≡ st i
  pub frs : (j : ℕ) → j < k → fr' j ≡ fr j
  pub pas : (q : ℕ) → q < p → pa' q ≡ pa q
  pub cus : (q : ℕ) → q < p → cu' q ≡ cu q

module _ {g : Graph} {s k p : ℕ} {off other col st fr pa cu off' other' col' st' fr' pa' cu' : ℕ → ℕ} (z : Setting g off other)
    (a : Agree g s k p off other col st fr pa cu off' other' col' st' fr' pa' cu') where
  ahead_moved : (v c : ℕ) → v < g.n → c < edges g → other c < g.n → Ahead g.n k col fr v (other c) → Ahead g.n k col' fr' v (other' c)
  ahead_moved v c lv l m (inl h) = rw (a.others c l) (inl (omega (arith, a.cols (other c) m)))
  ahead_moved v c lv l m (inr h) =
      rw (a.others c l) (inr (λ j q r. omega (arith, h j q (omega (arith, a.frs j q, a.cols v lv)), a.frs j q, a.cols (other c) m)))

  pub moved : Between g off other s k p col st fr pa cu → Between g off' other' s k p col' st' fr' pa' cu'
  moved x =
      record {
        done = λ v l h. rw (a.cols v l) (x.done v l (omega (arith, a.cols v l)));
        shut = λ e u v y h.
            let d = x.shut e u v y (omega (arith, a.cols u (edge_from_low z.valid y))) in
            omega (arith, a.cols v (edge_to_low z.valid y));
        vertex = λ i l. rw (a.sts i l) (x.vertex i l);
        place = λ i l. rw (a.sts i l, a.cols (st i) (x.vertex i l)) (x.place i l);
        whose = λ v l h. let (i, m, q) = x.whose v l (omega (arith, a.cols v l)) in (i, m, a.sts i m ∙ q);
        bottom = λ l. let (m, q) = x.bottom l in (m, a.frs 0 m ∙ q);
        rise = λ i j l m. omega (arith, a.frs i (omega arith), a.frs j m, x.rise i j l m);
        low = λ j l. omega (arith, a.frs j l, x.low j l);
        climb = λ i j l m.
            let li : i < p = omega arith in
            rw (a.pas i li, a.pas j m, a.cols (pa i) (x.inside i li).0, a.cols (pa j) (x.inside j m).0) (x.climb i j l m);
        inside = λ q l. rw (a.pas q l, a.cols (pa q) (x.inside q l).0) (x.inside q l);
        fronts = λ j l. let (q, m, e) = x.fronts j l in (q, m, front q j m l e);
        begun = λ q l. rw (a.pas q l, a.offs (pa q) (omega (arith, (x.inside q l).0)), a.cus q l) (x.begun q l);
        until = λ q l. rw (a.pas q l, a.offs (suc (pa q)) (x.inside q l).0, a.cus q l) (x.until q l);
        looked = λ q c l h m.
            let v = (x.inside q l).0 in
            let h' : off (pa q) ≤ c = rw (a.pas q l, a.offs (pa q) (omega arith)) at h in
            let m' : c < cu q = rw (a.cus q l) at m in
            let t : c < off (suc (pa q)) = omega (arith, x.until q l) in
            rw (a.pas q l) (ahead_moved (pa q) c v (place_low z (pa q) c v t) (other_low z (pa q) c v h' t) (x.looked q c l h' m'));
        ended = λ v l h. ⊎_elim
            (λ (q, m, e). inl (q, m, a.pas q m ∙ e))
            (λ f. inr (λ c b t. over v l f c (omega (arith, a.offs v (omega arith))) (omega (arith, a.offs (suc v) l))))
            (x.ended v l (omega (arith, a.cols v l)));
        on = λ u v l m h o. x.on u v l m (omega (arith, a.cols u l)) (omega (arith, a.cols u l, a.cols v m));
        back = λ u v l m h o f. x.back u v l m (omega (arith, a.cols u l)) (omega (arith, a.cols u l, a.cols v m))
            (λ b q r. omega (arith, a.frs b q, a.cols v m, f b q (omega (arith, a.frs b q, a.cols u l))));
      }
    where
      front : (q j : ℕ) → q < p → j < k → col (pa q) ≡ fr j → col' (pa' q) ≡ fr' j
      front q j m l e = rw (a.pas q m) (a.cols (pa q) (x.inside q m).0 ∙ e ∙ sym (a.frs j l))

      over : (v : ℕ) → v < g.n → ((c : ℕ) → off v ≤ c → c < off (suc v) → Ahead g.n k col fr v (other c))
          → (c : ℕ) → off v ≤ c → c < off (suc v) → Ahead g.n k col' fr' v (other' c)
      over v l f c b t = ahead_moved v c l (place_low z v c l t) (other_low z v c l b t) (f c b t)
