-- The loops that peel: along the neighbours of one vertex, along the queue, and along the list of seeds.
use Prim.Native.Nat.{ℕ, ◌+◌, ◌≤◌, ◌<◌}
use native.Mathlib.Omega.{arith}
use native.Mathlib.Decide.{ℕ_discrete, dec_lt}
use mathlib.Core.Path.{◌≡◌, sym, ap, ◌∙◌}
use mathlib.Core.Logic.{◌⊎◌, inl, inr, ⊎_elim}
use mathlib.Core.List.{List}
use lib.ListN.{get_or}
use lib.Dec.{eqb}
use Rattle.graph.specs.Graph.{Graph}
use Rattle.graph.specs.Parts.{only}
use Rattle.graph.proofs.Counts.{many_le}
use Rattle.index.specs.Index.{first}
use Rattle.memory.specs.Decomposer.{col, que, flag, seed}
use Rattle.slices.specs.Seeds.{Rest, Seeds, Listed, Next}
use Rattle.slices.specs.Peel.{remaining, Due, Peeled, Stays, Settled, Stuck, PeeledAll, PeelAsk, DrainAsk, PassAsk}
use Rattle.slices.proofs.Walking.{Turn, Seen, first_at, end_at, seen_none, seen_more, seen_next, seen_all, row_below, row_turn}
use Rattle.slices.proofs.Peeling.{due_from, stays_wider, rest_before, peeled_none, peeled_more, stays_on, marked_on, settled_none, settled_less, settled_more}

-- ALONG THE NEIGHBOURS OF A VERTEX
module _ {g : Graph} {b r u e₀ k₀ : ℕ} {w₀ : List ℕ} (a : PeelAsk g b r u e₀ k₀ w₀ (Next g u)) where
  pub settle_none : (first g u ≤ get_or w₀ u 0) × Settled g b r w₀ e₀ k₀ w₀ e₀ k₀ (Seen g u w₀ (get_or w₀ u 0))
  settle_none = (omega (arith, first_at a.standing.tables a.low), settled_none a.standing (λ y _. seen_none a.standing.tables a.low y))

  module _ {i : ℕ} {w : List ℕ} {e k : ℕ} (z : (first g u ≤ i) × Settled g b r w₀ e₀ k₀ w e k (Seen g u w₀ i)) (l : i < get_or w₀ (u + 1) 0) where
    pub settle_turn : Turn g i w
    settle_turn = row_turn a.standing.tables a.low z.0 l w z.1.peeled.inside.low (omega (arith, z.1.peeled.standing.long))

    same : get_or w (g.n + 1 + i) 0 ≡ get_or w₀ (g.n + 1 + i) 0
    same = z.1.peeled.inside.low (g.n + 1 + i) (row_below a.standing.tables a.low z.0 l)

    next : (y : ℕ) → get_or w₀ (g.n + 1 + i) 0 ≡ y → Next g u y
    next y q = seen_next a.standing.tables a.low {i = i + 1} (omega (arith, l, end_at a.standing.tables a.low)) y (i, z.0, omega arith, q)

    pub settle_ask : PeelAsk g b r (get_or w (g.n + 1 + i) 0) e k w (only (get_or w (g.n + 1 + i) 0))
    settle_ask = record {
      standing = z.1.peeled.standing;
      low = settle_turn.low;
      room = omega (arith, a.room, z.1.peeled.room);
      gone = omega (arith, a.gone, z.1.peeled.gone);
      seeds = λ y h q. marked_on z.1.peeled a.seeds y h (next y (sym same ∙ q));
    }

    pub settle_step : {w' : List ℕ} {e' k' : ℕ} → Settled g b r w e k w' e' k' (only (get_or w (g.n + 1 + i) 0)) → (first g u ≤ i + 1) × Settled g b r w₀ e₀ k₀ w' e' k' (Seen g u w₀ (i + 1))
    settle_step y = (
      omega (arith, z.0),
      settled_more (λ v d. ⊎_elim (λ q. inl q) (λ q. inr (same ∙ q)) ((seen_more a.standing.tables a.low z.0 v).0 d)) z.1 y,
    )

  pub settle_all : {i : ℕ} {w : List ℕ} {e k : ℕ} → Settled g b r w₀ e₀ k₀ w e k (Seen g u w₀ i) → get_or w₀ (u + 1) 0 ≤ i → Settled g b r w₀ e₀ k₀ w e k (Next g u)
  settle_all z l = settled_less (seen_all a.standing.tables a.low l) z

-- ALONG THE QUEUE
-- the successors of its first h places were looked at
pub record Draining (g : Graph) (b r : ℕ) (w : List ℕ) (e k h : ℕ) (w' : List ℕ) (e' k' : ℕ) : Type 0 where
  pub peeled : Peeled g b r w e k w' e' k'
  pub stays : (v : ℕ) → Seeds g.n b r w' v → Stays g b r w' h k' v

module _ {g : Graph} {b r e₀ k₀ : ℕ} {w₀ : List ℕ} (a : DrainAsk g b r e₀ k₀ w₀) where
  pub drain_none : Draining g b r w₀ e₀ k₀ 0 w₀ e₀ k₀
  drain_none = record { peeled = peeled_none a.standing; stays = a.stays }

  module _ {h : ℕ} {w : List ℕ} {e k : ℕ} (z : Draining g b r w₀ e₀ k₀ h w e k) where
    p : Peeled g b r w₀ e₀ k₀ w e k
    p = z.peeled

    pub drain_few : k ≤ g.n
    drain_few = omega (arith, a.gone, p.gone)

    due_marked : (v : ℕ) → Rest g.n b r w v → Due g b w 0 k v → flag g.n b w v ≡ 0 → ⊥
    due_marked v i d = ⊎_elim (λ t. marked_on p a.seeds v i t) (λ t. p.due v i.0 t i.1) (due_from g b w₀ w k₀ k p.line p.late 0 v d)

    module _ (l : h < k) where
      pub drain_ask : PeelAsk g b r (que g.n b w h) e k w (Next g (que g.n b w h))
      drain_ask = record {
        standing = p.standing;
        low = elim (dec_lt h k₀) as (λ _. que g.n b w h < g.n) [ yes q ↦ rw (p.line h q) (a.member h q) | no q ↦ p.behind h (omega arith) l ];
        room = omega (arith, a.room, p.room);
        gone = omega (arith, a.gone, p.gone);
        seeds = λ v i d. due_marked v i (h, omega arith, l, d);
      }

      module _ {w' : List ℕ} {e' k' : ℕ} (y : Settled g b r w e k w' e' k' (Next g (que g.n b w h))) where
        -- a seed that there was
        still : (v : ℕ) → Rest g.n b r w' v → Stays g b r w h k v → Stays g b r w' (h + 1) k' v
        still v i (inl d) = stays_on y.peeled (h + 1) v (omega (arith, l)) (inl d)
        still v i (inr (j, q, t, d)) = elim (ℕ_discrete j h) as (λ _. Stays g b r w' (h + 1) k' v) [
          | yes s ↦ stays_wider g b r w' k (h + 1) k' v (omega (arith, l)) (y.stays v i (rw s at d))
          | no s ↦ stays_on y.peeled (h + 1) v (omega (arith, l)) (inr (j, omega arith, t, d))
        ]

        pub drain_step : Draining g b r w₀ e₀ k₀ (h + 1) w' e' k'
        drain_step = record {
          peeled = peeled_more p y.peeled;
          stays = λ v (i, c, o). elim (ℕ_discrete (flag g.n b w v) 0) as (λ _. Stays g b r w' (h + 1) k' v) [
            | yes q ↦ stays_wider g b r w' k (h + 1) k' v (omega (arith, l)) (inr (y.peeled.only v i q o))
            | no q ↦ let s = rest_before y.peeled v (i, c) in still v (i, c) (z.stays v (i, s.1, q))
          ];
        }

    pub drain_all : k ≤ h → Peeled g b r w₀ e₀ k₀ w e k × Stuck g b r w
    drain_all l = (p, λ v s. ⊎_elim (λ t. t) (λ (i, q, t, _). absurd (omega (arith, q, t, l))) (z.stays v s))

-- ALONG THE LIST OF SEEDS
module _ {g : Graph} {b r l e₀ : ℕ} {w₀ : List ℕ} (a : PassAsk g b r l e₀ w₀) where
  pub pass_none : Settled g b r w₀ e₀ 0 w₀ e₀ 0 (Listed g.n b w₀ l l)
  pass_none = settled_none a.standing (λ v _ (j, p, q, _). omega arith)

  module _ {w : List ℕ} {e k : ℕ} where
    none_gone : Peeled g b r w₀ e₀ 0 w e k → k + remaining g.n b r w ≤ g.n
    none_gone p = omega (arith, p.gone, many_le (λ v. eqb (col b w₀ v) r) g.n)

    module _ {i : ℕ} (h : i < e₀) (z : Settled g b r w₀ e₀ 0 w e k (Listed g.n b w₀ l i)) where
      pub pass_ask : PeelAsk g b r (seed g.n b w i) e k w (only (seed g.n b w i))
      pass_ask = let p = z.peeled in record {
        standing = p.standing;
        low = rw (p.front i h) (a.member i h);
        room = omega (arith, a.room, p.room);
        gone = none_gone p;
        seeds = λ v j q. rw (← q, p.front i h) (p.keeps (seed g.n b w₀ i) (a.member i h) (a.marks i h));
      }

      pub pass_step : {w' : List ℕ} {e' k' : ℕ} → Settled g b r w e k w' e' k' (only (seed g.n b w i)) → Settled g b r w₀ e₀ 0 w' e' k' (Listed g.n b w₀ l (i + 1))
      pass_step y = settled_more
          (λ v (j, m, t, q). elim (dec_lt j i) as (λ _. Listed g.n b w₀ l i v ⊎ (seed g.n b w i ≡ v)) [
            | yes d ↦ inl (j, m, d, q)
            | no d ↦ let f : i ≡ j = omega arith in inr (z.peeled.front i h ∙ ap (seed g.n b w₀) f ∙ q)
          ])
          z y

    pub pass_all : {i : ℕ} → e₀ ≤ i → Settled g b r w₀ e₀ 0 w e k (Listed g.n b w₀ l i) → Settled g b r w₀ e₀ 0 w e k (Listed g.n b w₀ l e₀)
    pass_all h z = settled_less (λ v (j, m, t, q). (j, m, omega arith, q)) z

    module _ (z : Settled g b r w₀ e₀ 0 w e k (Listed g.n b w₀ l e₀)) where
      pub pass_drain : DrainAsk g b r e k w
      pass_drain = let p = z.peeled in record {
        standing = p.standing;
        room = omega (arith, a.room, p.room);
        gone = none_gone p;
        member = λ i h. p.behind i (omega arith) h;
        seeds = λ v (i, c) d. p.due v i d c;
        stays = λ v (i, c, o). elim (ℕ_discrete (flag g.n b w₀ v) 0) as (λ _. Stays g b r w 0 k v) [
          | yes q ↦ inr (p.only v i q o)
          | no q ↦ z.stays v (i, c) (a.listed v (i, (rest_before p v (i, c)).1, q))
        ];
      }

      pub pass_peeled : {w' : List ℕ} {e' k' : ℕ} → Peeled g b r w e k w' e' k' × Stuck g b r w' → PeeledAll g b r w₀ e₀ w' e' k'
      pass_peeled (y, s) = record { peeled = peeled_more z.peeled y; stuck = s }
