-- One edge goes, in memory.
use Prim.Native.Nat.{ℕ, ◌+◌, ◌-◌, ◌≤◌, ◌<◌}
use native.Mathlib.Omega.{arith}
use native.Mathlib.Decide.{dec_lt}
use mathlib.Core.Path.{◌≡◌, refl, sym, ◌∙◌}
use mathlib.Core.Logic.{◌⊎◌, inl, inr, ⊎_elim, by_cases}
use mathlib.Core.List.{List}
use lib.ListN.{length, get_or, set, length-set}
use lib.Seq.{get_or-set_same, get_or-set_other}
use Rattle.graph.specs.Graph.{Graph, edges, from, to}
use Rattle.graph.specs.Arrows.{Arrows, on}
use Rattle.memory.specs.Memory.{region, Raised}
use Rattle.memory.specs.Writer.{queue_at, in_edges, ranks_at, counts_at}
use Rattle.ranks.specs.Ranks.{lead, rise}
use Rattle.ranks.specs.Peel.{Ground, Ranking, Risen, LeadAsk, Led, FreeAsk, Freed, SettleAsk, Onward, Settled}
use Rattle.ranks.proofs.Leads.{lead_counted}
use Rattle.ranks.proofs.Peeling.{goes_alone, waits_yet, goes, room_left}

-- what is known of the table holds in any memory of that length
pub ground_kept : {g : Graph} {lab : List ℕ} {b : ℕ} {w w' : List ℕ} → Ground g lab b w → length w' ≡ length w → Ground g lab b w'
ground_kept a q =
    record { valid = a.valid; size = a.size; labels_low = a.labels_low; small = a.small; few = a.few; fits = omega (arith, a.fits) }

-- the vertex that waits for an edge from u can be looked for
pub lead_ask : {g : Graph} {lab : List ℕ} {b : ℕ} {w : List ℕ} → Ground g lab b w → (u e : ℕ) → u < g.n → e < edges g → LeadAsk g.n lab b u (to g e) w
lead_ask {g} a u e l m =
    let k : to g e < g.n = a.valid.to_low e m in
    record { ends = record { leaves = omega (arith, a.size); enters = omega (arith, a.size) }; vertex = k; low = a.labels_low (to g e) k; fits = a.fits }

pub ranking_none : (n b : ℕ) (w : List ℕ) → Ranking n b w w
ranking_none n b w = record { long = refl; low = λ j l. refl; mid = λ j l m. refl; high = λ j l. refl }

pub ranking_more : {n b : ℕ} {w w₁ w₂ : List ℕ} → Ranking n b w w₁ → Ranking n b w₁ w₂ → Ranking n b w w₂
ranking_more f h =
    record {
      long = h.long ∙ f.long;
      low = λ j l. h.low j l ∙ f.low j l;
      mid = λ j l m. h.mid j l m ∙ f.mid j l m;
      high = λ j l. h.high j l ∙ f.high j l;
    }

pub onward_none : (n b k : ℕ) (w : List ℕ) → Onward n b k w w k
onward_none n b k w = record { frame = ranking_none n b w; more = omega arith; front = λ i l. refl; still = λ v l z. (z, refl) }

pub onward_more : {n b k k₁ k₂ : ℕ} {w w₁ w₂ : List ℕ} → Onward n b k w w₁ k₁ → Onward n b k₁ w₁ w₂ k₂ → Onward n b k w w₂ k₂
onward_more f h =
    record {
      frame = ranking_more f.frame h.frame;
      more = omega (arith, f.more, h.more);
      front = λ i l. h.front i (omega (arith, f.more)) ∙ f.front i l;
      still = λ v l z. let (a, p) = f.still v l z in let (c, q) = h.still v l a in (c, q ∙ p);
    }

module _ {n : ℕ} {y : Arrows} {lab : List ℕ} {b u e k t : ℕ} {w : List ℕ} (a : SettleAsk (on n y) lab b u e k w) (led : Led n lab (region (in_edges n b) w) u (to (on n y) e) e t) where
  -- what is told of the ends is told of the edge
  leads : lead (on n y) lab a.course.in_edge e ≡ t
  leads = lead_counted (on n y) lab a.course.in_edge e a.edge.1 ∙ rw (a.leaves, ← (a.course.holds (to (on n y) e) a.asks.vertex)) (sym led.is)

  source : region (counts_at n b) w (from (on n y) e) ≡ 0
  source = rw a.leaves a.source

  pub settle_none : t ≡ n → Settled (on n y) lab b e k w w k a.course
  settle_none z =
      record {
        onward = onward_none n b k w;
        peels = goes_alone a.ground.valid lab a.course.in_edge a.course.peels e a.edge.0 a.fresh source (leads ∙ z);
      }

  module _ (some : t ≡ n → ⊥) where
    t_low : t < n
    t_low = omega (arith, led.low)

    t_waits : region (counts_at n b) w t ≡ 0 → ⊥
    t_waits = waits_yet a.ground.valid lab a.course.in_edge a.course.peels e a.edge.0 a.fresh source t leads t_low

    queue_room : k < n
    queue_room = room_left a.ground.valid lab a.course.in_edge a.course.peels e a.edge.0 a.fresh source t leads t_low

    module _ {z : ℕ} {w₁ : List ℕ} (x : Raised (ranks_at n b + t) z w w₁) where
      else_one : (j : ℕ) → (j ≡ ranks_at n b + t → ⊥) → get_or w₁ j 0 ≡ get_or w j 0
      else_one j o = by_cases (dec_lt j (ranks_at n b + t)) (λ l. x.framed.low j l) (λ h. x.framed.high j (omega arith))

      count_same : get_or w₁ (counts_at n b + t) 0 ≡ get_or w (counts_at n b + t) 0
      count_same = else_one (counts_at n b + t) (λ q. omega (arith, t_low))

      pub count_some : 1 ≤ get_or w₁ (counts_at n b + t) 0
      count_some = let o : get_or w (counts_at n b + t) 0 ≡ 0 → ⊥ = t_waits in omega (arith, count_same)

      -- one edge less for t
      abbrev w₂ : List ℕ
      w₂ = set w₁ (counts_at n b + t) (get_or w₁ (counts_at n b + t) 0 - 1)

      long_two : length w₂ ≡ length w
      long_two = length-set w₁ _ _ ∙ x.framed.long

      pub free_ask : FreeAsk n b t k w₂
      free_ask = record { ask = record { small = a.ground.small; fits = omega (arith, long_two, a.ground.fits) }; vertex = t_low; room = queue_room }

      module _ {w' : List ℕ} {k' : ℕ} (f : Freed n b t k w₂ w' k') where
        -- of the rest only place k of the queue may have changed
        else_queue : (j : ℕ) → (j ≡ queue_at n b + k → ⊥) → get_or w' j 0 ≡ get_or w₂ j 0
        else_queue j o = go f
          where
            go : Freed n b t k w₂ w' k' → get_or w' j 0 ≡ get_or w₂ j 0
            go (inl (_, p, _)) = rw p
            go (inr (_, p, _)) = rw p (get_or-set_other w₂ (queue_at n b + k) j t 0 o)

        others : (j : ℕ) → (j ≡ ranks_at n b + t → ⊥) → (j ≡ counts_at n b + t → ⊥) → (j ≡ queue_at n b + k → ⊥) → get_or w' j 0 ≡ get_or w j 0
        others j p q s = else_queue j s ∙ get_or-set_other w₁ (counts_at n b + t) j _ 0 q ∙ else_one j p

        at_rank : region (ranks_at n b) w' t ≡ region (ranks_at n b) w₁ t
        at_rank = else_queue (ranks_at n b + t) (λ q. omega (arith, queue_room)) ∙ get_or-set_other w₁ (counts_at n b + t) (ranks_at n b + t) _ 0 (λ q. omega (arith, t_low))

        count_kept : region (counts_at n b) w' t ≡ region (counts_at n b) w₂ t
        count_kept = else_queue (counts_at n b + t) (λ q. omega (arith, queue_room))

        at_count : region (counts_at n b) w t ≡ region (counts_at n b) w' t + 1
        at_count = omega (arith, count_kept, count_same, count_some, get_or-set_same w₁ (counts_at n b + t) (get_or w₁ (counts_at n b + t) 0 - 1) 0 (omega (arith, x.framed.long, a.ground.fits, t_low)))

        counts_else : (v : ℕ) → v < n → (v ≡ t → ⊥) → region (counts_at n b) w' v ≡ region (counts_at n b) w v
        counts_else v l o = others (counts_at n b + v) (λ q. omega (arith, t_low)) (λ q. o (omega arith)) (λ q. omega (arith, queue_room))

        ranks_else : (v : ℕ) → v < n → (v ≡ t → ⊥) → region (ranks_at n b) w' v ≡ region (ranks_at n b) w v
        ranks_else v l o = others (ranks_at n b + v) (λ q. o (omega arith)) (λ q. omega (arith, t_low)) (λ q. omega (arith, queue_room))

        push : Freed n b t k w₂ w' k' → ((region (counts_at n b) w' t ≡ 0) × (k' ≡ k + 1) × (region (queue_at n b) w' k ≡ t)) ⊎ ((region (counts_at n b) w' t ≡ 0 → ⊥) × (k' ≡ k))
        push (inl (o, _, q)) = inr (λ z. o (sym count_kept ∙ z), q)
        push (inr (z, p, q)) = inl (count_kept ∙ z, q, rw p (get_or-set_same w₂ (queue_at n b + k) t 0 (omega (arith, long_two, a.ground.fits, queue_room))))

        -- the queue's length, and the memory's
        lengths : Freed n b t k w₂ w' k' → (k ≤ k') × (length w' ≡ length w)
        lengths (inl (_, p, q)) = (omega arith, rw p long_two)
        lengths (inr (_, p, q)) = (omega arith, rw (p, length-set w₂ (queue_at n b + k) t) long_two)

        pub settle_long : length w' ≡ length w
        settle_long = (lengths f).1

        queue_front : (i : ℕ) → i < k → region (queue_at n b) w' i ≡ region (queue_at n b) w i
        queue_front i l = others (queue_at n b + i) (λ q. omega (arith, queue_room)) (λ q. omega (arith, queue_room)) (λ q. omega arith)

        module _ {r : ℕ} (risen : Risen lab u (to (on n y) e) r) (is : z ≡ region (ranks_at n b) w u + r) where
          sum : z ≡ region (ranks_at n b) w (from (on n y) e) + rise (on n y) lab e
          unfolding rise
          sum = is ∙ rw (a.leaves, risen.is)

          either_rank : (region (ranks_at n b) w' t ≡ region (ranks_at n b) w t) ⊎ (region (ranks_at n b) w' t ≡ region (ranks_at n b) w (from (on n y) e) + rise (on n y) lab e)
          either_rank = ⊎_elim (λ q. inl (at_rank ∙ q)) (λ q. inr (at_rank ∙ q ∙ sum)) x.either

          pub settle_end : Settled (on n y) lab b e k w w' k' a.course
          settle_end =
              record {
                onward =
                    record {
                      frame =
                          record {
                            long = settle_long;
                            low = λ j l. others j (λ q. omega arith) (λ q. omega arith) (λ q. omega arith);
                            mid = λ j l m. others j (λ q. omega arith) (λ q. omega arith) (λ q. omega (arith, queue_room));
                            high = λ j l. others j (λ q. omega (arith, t_low)) (λ q. omega (arith, t_low)) (λ q. omega (arith, queue_room));
                          };
                      more = (lengths f).0;
                      front = queue_front;
                      still = λ v l z. let o : v ≡ t → ⊥ = λ q. t_waits (rw q at z) in (counts_else v l o ∙ z, ranks_else v l o);
                    };
                peels =
                    goes a.ground.valid lab a.course.in_edge a.course.peels e a.edge.0 a.fresh source t leads t_low
                    (region (counts_at n b) w') (region (ranks_at n b) w') (region (queue_at n b) w') k'
                    at_count counts_else (omega (arith, at_rank, x.up)) (omega (arith, at_rank, x.over, sum)) either_rank ranks_else queue_front (push f)
                    (omega (arith, a.bound, risen.low, sum));
              }
