-- The vertices of the queue are taken, until none is left in it.
use Prim.Native.Nat.{ℕ, suc, ◌+◌, ◌-◌, ◌≤◌, ◌<◌}
use native.Mathlib.Omega.{arith}
use native.Mathlib.Numerals.{add-one}
use native.Mathlib.Decide.{ℕ_discrete}
use mathlib.Core.Path.{◌≡◌, sym, ap, ◌∙◌}
use mathlib.Core.Logic.{◌⊎◌, inl, inr, by_cases}
use mathlib.Core.Bool.{Bool, false, not, ◌&&◌}
use mathlib.Core.List.{List}
use lib.ListN.{get_or}
use lib.Dec.{T, eqb, eqb→eq, T_not}
use borrow.Author.Tests.{eqb-true, eqb-false}
use Rattle.graph.specs.Graph.{Graph, IsEdge, edges, from}
use Rattle.graph.proofs.Tests.{and_split, no_t}
use Rattle.graph.proofs.Counts.{many_le}
use Rattle.index.specs.Index.{Adjacent, first, numbered}
use Rattle.index.proofs.Counts.{start_mono, start_all}
use Rattle.index.proofs.Moved.{adjacent_same}
use Rattle.index.proofs.Numbers.{number_at, number_found, number_rises}
use Rattle.memory.specs.Memory.{region}
use Rattle.memory.specs.Writer.{queue_at, in_edges, ranks_at, counts_at}
use Rattle.ranks.specs.Ranks.{lead, rise, awaited, Peeling, extends, Peeled, Stuck}
use Rattle.ranks.specs.Peel.{Ranking, row_of, ScanAsk, AfterScan, PeelAsk, Taken, Ended}
use Rattle.ranks.proofs.Counting.{many_all, many_short, many_some}
use Rattle.ranks.proofs.Leads.{lead_counts}
use Rattle.ranks.proofs.Settling.{ground_kept, ranking_more}
use Rattle.ranks.proofs.Scanning.{extends_old, extends_new, extends_split}

peeling_top : {g : Graph} {lab : List ℕ} {in_edge : ℕ → ℕ} {done : ℕ → Bool} {count rank queue : ℕ → ℕ} {k top : ℕ}
    → Peeling g lab in_edge done count rank queue k top → (top' : ℕ) → top ≤ top' → Peeling g lab in_edge done count rank queue k top'
peeling_top p top' l =
    record {
      counts = p.counts;
      member = p.member;
      listed = p.listed;
      once = p.once;
      size = p.size;
      settled = p.settled;
      raised = p.raised;
      attained = p.attained;
      bounded = λ v m. omega (arith, p.bounded v m);
    }

module _ {g : Graph} {lab : List ℕ} {b k₀ : ℕ} {w₀ : List ℕ} (a : PeelAsk g lab b k₀ w₀) where
  pub take_none : Taken g lab b 0 w₀ k₀ a.in_edge
  take_none = record { done = λ x. false; peels = a.peels; gone = λ e m t. absurd t; all = λ e i m l. absurd (omega arith) }

  pub queue_few : {h k : ℕ} {w : List ℕ} → Taken g lab b h w k a.in_edge → k ≤ g.n
  queue_few {w = w} x = omega (arith, x.peels.size, many_le (λ v. eqb (region (counts_at g.n b) w v) 0) g.n)

  module _ {h k : ℕ} {w : List ℕ} (f : Ranking g.n b w₀ w) (x : Taken g lab b h w k a.in_edge) (l : h < k) where
    abbrev u : ℕ
    u = region (queue_at g.n b) w h

    abbrev row : ℕ → ℕ
    row = row_of g.n u w

    -- the edge numbers are where they were
    index_now : Adjacent (numbered g) (λ v. get_or w v 0) (λ i. get_or w (g.n + 1 + i) 0)
    index_now =
        adjacent_same (numbered g) (λ v. get_or w₀ (0 + v) 0) (λ i. get_or w₀ (0 + g.n + 1 + i) 0) (λ v. get_or w v 0) (λ i. get_or w (g.n + 1 + i) 0)
        (λ v m. let z : 0 + v ≡ v = omega arith in rw z (f.low v (omega (arith, a.below))))
        (λ i m. let z : 0 + g.n + 1 + i ≡ g.n + 1 + i = omega arith in rw z (f.low (g.n + 1 + i) (omega (arith, a.below))))
        a.index

    u_low : u < g.n
    u_low = (x.peels.member h l).0

    -- where the row of u begins and ends
    row_first : get_or w u 0 ≡ first g u
    row_first = index_now.offs u (omega (arith, u_low))

    row_last : get_or w (u + 1) 0 ≡ first g (suc u)
    row_last = rw (add-one u) (index_now.offs (suc u) u_low)

    row_at : (j : ℕ) → get_or w u 0 ≤ j → j < get_or w (u + 1) 0 → IsEdge g (get_or w (g.n + 1 + j) 0) × (from g (get_or w (g.n + 1 + j) 0) ≡ u)
    row_at j i m = let (e, q, _) = number_at g index_now u j (omega (arith, row_first)) (omega (arith, row_last)) in (e, q)

    fresh : (e : ℕ) → e < edges g → from g e ≡ u → x.done e ≡ false
    fresh e m q = no_t (x.done e) (λ t. let (i, j, y) = x.gone e m t in x.peels.once i h j l (y ∙ q))

    pub take_ask : ScanAsk g lab b u k w
    take_ask =
        record {
          ground = ground_kept a.ground f.long;
          course =
              record {
                in_edge = a.in_edge;
                done = x.done;
                top = suc h;
                holds = λ v m. f.mid (in_edges g.n b + v) (omega arith) (omega arith) ∙ a.holds v m;
                peels = peeling_top x.peels (suc h) (omega arith);
                top_low = omega (arith, queue_few x);
              };
          order = omega (arith, row_first, row_last, start_mono g.counted g.src (edges g) u (suc u) (omega arith));
          below = omega (arith, row_last, start_all g.counted g.src (edges g) (suc u), a.below);
          vertex = u_low;
          row = λ j i m. let (e, q) = row_at j i m in (e, q, fresh (get_or w (g.n + 1 + j) 0) e.0 q);
          rising = λ i j p q m. number_rises g index_now u i j (omega (arith, row_first)) q (omega (arith, row_last));
          source = (x.peels.member h l).1;
          bound = omega (arith, x.peels.bounded u u_low);
        }

    pub take_step : {w' : List ℕ} {k' : ℕ} → AfterScan g lab b u k w w' k' → Ranking g.n b w₀ w' × Taken g lab b (h + 1) w' k' a.in_edge × (k ≤ k')
    unfolding take_ask
    take_step {w'} after =
        let y = after take_ask in
        let z : h + 1 ≡ suc h = omega arith in (
          ranking_more f y.onward.frame,
          record {
            done = extends x.done row (get_or w (u + 1) 0 - get_or w u 0);
            peels = rw z y.peels;
            gone = λ e m t. found e m y.onward.front (extends_split x.done row (get_or w (u + 1) 0 - get_or w u 0) e t);
            all = λ e i m j q. sure e i m j (sym (y.onward.front i (omega arith)) ∙ q) (ℕ_discrete i h);
          },
          y.onward.more,
        )
      where
        found : (e : ℕ) → e < edges g → ((i : ℕ) → i < k → region (queue_at g.n b) w' i ≡ region (queue_at g.n b) w i)
            → T (x.done e) ⊎ ((j : ℕ) × (j < get_or w (u + 1) 0 - get_or w u 0) × (row j ≡ e)) → (i : ℕ) × (i < h + 1) × (region (queue_at g.n b) w' i ≡ from g e)
        found e m front (inl t) = let (i, j, q) = x.gone e m t in (i, omega arith, front i (omega arith) ∙ q)
        found e m front (inr (j, i, q)) =
            let s : from g (row j) ≡ u = (row_at (get_or w u 0 + j) (omega arith) (omega arith)).1 in
            (h, omega arith, front h l ∙ sym (rw q at s))

        sure : (e i : ℕ) → IsEdge g e → i < h + 1 → region (queue_at g.n b) w i ≡ from g e → Dec (i ≡ h) → T (extends x.done row (get_or w (u + 1) 0 - get_or w u 0) e)
        sure e i m j q (no o) = extends_old x.done row (get_or w (u + 1) 0 - get_or w u 0) e (x.all e i m (omega arith) q)
        sure e i m j q (yes y) =
            let s : from g e ≡ u = sym q ∙ ap (region (queue_at g.n b) w) y in
            let (p, c, d, r) = number_found g index_now e m in
            let c' : first g u ≤ p = rw s at c in
            let d' : p < first g (suc u) = rw s at d in
            let c'' : get_or w u 0 ≤ p = omega (arith, row_first) in
            let n : get_or w u 0 + (p - get_or w u 0) ≡ p = omega arith in
            let r' : row (p - get_or w u 0) ≡ e = rw n r in
            rw r' at (extends_new x.done row (get_or w (u + 1) 0 - get_or w u 0) (p - get_or w u 0) (omega (arith, row_last)))

  -- NOTHING IS LEFT IN THE QUEUE: all have gone, or some stay
  pub take_end : {h k : ℕ} {w : List ℕ} → Taken g lab b h w k a.in_edge → k ≤ h → Ended g lab b w k a.in_edge
  unfolding awaited
  take_end {h} {k} {w} x l = by_cases (ℕ_discrete k g.n) (λ q. inl (q, through q)) (λ o. inr (omega (arith, queue_few x), stopped (omega (arith, queue_few x))))
    where
      all_done : (e : ℕ) → IsEdge g e → region (counts_at g.n b) w (from g e) ≡ 0 → T (x.done e)
      all_done e m z = let (i, j, q) = x.peels.listed (from g e) (a.ground.valid.from_low e m.0) z in x.all e i m (omega arith) q

      through : k ≡ g.n → Peeled g lab a.in_edge (region (ranks_at g.n b) w)
      through q =
          record {
            raised = λ e m t. x.peels.raised e m (done_all e (m, lead_counts g lab a.in_edge e t)) t;
            attained = λ v m. wider v (x.peels.attained v m);
          }
        where
          done_all : (e : ℕ) → IsEdge g e → T (x.done e)
          done_all e m =
              all_done e m (eqb-true (region (counts_at g.n b) w (from g e)) 0
              (many_all (λ v. eqb (region (counts_at g.n b) w v) 0) g.n (sym x.peels.size ∙ q) (from g e) (a.ground.valid.from_low e m.0)))

          wider : (v : ℕ) → (region (ranks_at g.n b) w v ≡ 0)
              ⊎ ((e : ℕ) × (e < edges g) × T (x.done e) × (lead g lab a.in_edge e ≡ v) × (region (ranks_at g.n b) w v ≡ region (ranks_at g.n b) w (from g e) + rise g lab e))
              → (region (ranks_at g.n b) w v ≡ 0)
              ⊎ ((e : ℕ) × (e < edges g) × (lead g lab a.in_edge e ≡ v) × (region (ranks_at g.n b) w v ≡ region (ranks_at g.n b) w (from g e) + rise g lab e))
          wider v (inl z) = inl z
          wider v (inr (e, m, t, p, q)) = inr (e, m, p, q)

      stopped : k < g.n → Stuck g lab a.in_edge (region (counts_at g.n b) w)
      stopped m =
          let (v, s, q) = many_short (λ v. eqb (region (counts_at g.n b) w v) 0) g.n (omega (arith, x.peels.size)) in
          record {
            stays = (v, s, eqb-false (region (counts_at g.n b) w v) 0 q);
            waits = λ v s o.
                let (e, i, z) = many_some (λ e. eqb (lead g lab a.in_edge e) v && not (x.done e)) (edges g) (λ y. o (x.peels.counts v s ∙ y)) in
                let (p, r) = and_split (eqb (lead g lab a.in_edge e) v) (not (x.done e)) (rw z tt) in
                let t : lead g lab a.in_edge e ≡ v = eqb→eq (lead g lab a.in_edge e) v p in
                (e, i, t, λ y. T_not (x.done e) r (all_done e (i, lead_counts g lab a.in_edge e (omega arith)) y));
          }
