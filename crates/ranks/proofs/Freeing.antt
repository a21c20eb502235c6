-- Before peeling: the counts, and the queue of what waits for nothing.
use Prim.Native.Nat.{ℕ, ◌+◌, ◌≤◌, ◌<◌}
use native.Mathlib.Omega.{arith}
use native.Mathlib.Decide.{ℕ_discrete}
use mathlib.Core.Path.{◌≡◌, refl, sym, ap, ◌∙◌}
use mathlib.Core.Logic.{inl, inr, ⊎_elim, by_cases}
use mathlib.Core.Bool.{false, cond, ◌&&◌}
use mathlib.Core.List.{List}
use lib.ListN.{get_or, set, take}
use lib.Seq.{get_or-set_same, get_or-set_other, get_or-take, length-take-le}
use lib.Dec.{eqb}
use mir.Syntax.{w32}
use mir.Val.{Fits}
use borrow.Author.Tests.{eq-eqb, ne_eqb}
use Rattle.graph.specs.Graph.{Graph, edges, from, to}
use Rattle.graph.specs.Numbers.{many}
use Rattle.memory.specs.Memory.{Framed, region, Holds, Filled}
use Rattle.memory.proofs.Memory.{framed_none, framed_more, set_framed}
use Rattle.graph.proofs.Counts.{many_le}
use Rattle.graph.proofs.Ranges.{many_ext, many_next}
use Rattle.graph.proofs.Tests.{length_each}
use Rattle.memory.specs.Writer.{queue_at, in_edges, ranks_at, counts_at}
use Rattle.index.specs.Index.{numbered}
use Rattle.index.specs.Build.{One, OneAsk, RenumberAsk}
use Rattle.index.proofs.Asks.{valid_column}
use Rattle.index.proofs.Counts.{start_all}
use Rattle.index.proofs.Moved.{held_kept}
use Rattle.std.specs.Prelude.{Option, Some, None}
use Rattle.std.specs.Option.{unwrap_or}
use Rattle.ranks.specs.Ranks.{lead_of, awaited}
use Rattle.ranks.specs.Peel.{Ground, LeadAsk, Led, LedBy, Counted, FreeAsk, Freed, FreesAsk, Frees, Peels, RanksAsk, Ranking, PeelAsk, AfterPeel, Ranked}
use Rattle.ranks.proofs.Leads.{lead_same, lead_test}
use Rattle.ranks.proofs.Settling.{ground_kept, lead_ask, ranking_more}

-- Of the first e edges each that counts is counted at the vertex its ends name.
pub record Tallied (g : Graph) (lab : List ℕ) (b e : ℕ) (w₀ w : List ℕ) : Type 0 where
  pub framed : Framed (counts_at g.n b) (counts_at g.n b + (g.n + 1)) w₀ w
  pub each : (v : ℕ) → v < g.n + 1
      → region (counts_at g.n b) w v ≡ many (λ x. eqb (lead_of g.n lab (region (in_edges g.n b) w₀) (from g x) (to g x) x) v && g.counted x) e

-- the vertex that waits, as a number: n where there is none
pub led_or : (n : ℕ) (lab : List ℕ) (in_edge : ℕ → ℕ) (u v e : ℕ) {t : ℕ} (r : Option ℕ) → LedBy n lab in_edge u v e r → t ≡ unwrap_or r n → Led n lab in_edge u v e t
led_or n lab in_edge u v e (Some t) (led, low) q = rw q led
led_or n lab in_edge u v e None led q = rw q led

module _ {g : Graph} {lab : List ℕ} {b : ℕ} {w : List ℕ} (a : Ground g lab b w) where
  pub tally_ask : {e : ℕ} → e < edges g → LeadAsk g.n lab b (from g e) (to g e) w
  tally_ask {e} m = lead_ask a (from g e) e (a.valid.from_low e m) m

  module _ {e : ℕ} {w₀ : List ℕ} (x : Tallied g lab b e w₀ w) {t : ℕ} (led : Led g.n lab (region (in_edges g.n b) w) (from g e) (to g e) e t) (m : e < edges g) where
    abbrev L : ℕ → ℕ
    L x = lead_of g.n lab (region (in_edges g.n b) w₀) (from g x) (to g x) x

    pub tally_fits : {r : ℕ} → r ≤ 1 → Fits w32 (get_or w (counts_at g.n b + t) 0 + r)
    tally_fits one = record { fits = omega (arith, x.each t (omega (arith, led.low)), many_le (λ x. eqb (L x) t && g.counted x) e, a.few) }

    leads : t ≡ L e
    leads = led.is ∙ rw (x.framed.low (in_edges g.n b + to g e) (omega (arith, a.valid.to_low e m)))

    pub tally_step : {r : ℕ} → r ≡ cond (g.counted e) 1 0 → Tallied g lab b (e + 1) w₀ (set w (counts_at g.n b + t) (get_or w (counts_at g.n b + t) 0 + r))
    tally_step {r} adds =
        let c : ℕ = counts_at g.n b in
        let l : t < g.n + 1 = omega (arith, led.low) in
        record {
          framed = framed_more x.framed (set_framed w c (c + (g.n + 1)) (c + t) (get_or w (c + t) 0 + r) (omega arith) (omega arith));
          each = λ v m. rw (many_next (λ x. eqb (L x) v && g.counted x) e) (by_cases (ℕ_discrete v t)
              (λ z. rw (eq-eqb (L e) v (sym leads ∙ sym z), z, get_or-set_same w (c + t) (get_or w (c + t) 0 + r) 0 (omega (arith, a.fits))) (omega (arith, x.each t l)))
              (λ o. rw (ne_eqb (L e) v (λ y. o (sym y ∙ sym leads)), get_or-set_other w (c + t) (c + v) (get_or w (c + t) 0 + r) 0 (λ z. o (omega arith)), x.each v m) (omega arith)));
        }

pub tally_none : {g : Graph} {lab : List ℕ} {b : ℕ} {w w₀ : List ℕ} → Filled (counts_at g.n b) (g.n + 1) 0 w w₀ → Tallied g lab b 0 w₀ w₀
unfolding many
tally_none {w₀ = w₀} f = record { framed = framed_none _ _ w₀; each = f.each }

-- what is counted of all edges is what is awaited
pub tally_all : {g : Graph} {lab : List ℕ} {b e : ℕ} {w w₀ w₁ : List ℕ} → Filled (counts_at g.n b) (g.n + 1) 0 w w₀ → Ground g lab b w₁ → e ≤ edges g → edges g ≤ e
    → Tallied g lab b e w₀ w₁ → Counted g lab b w w₁
unfolding awaited
tally_all {g} {lab} {b} {e} {w₀ = w₀} f a l h x =
    let q : e ≡ edges g = omega arith in
    record {
      framed = framed_more f.framed x.framed;
      counts = λ in_edge k v m. (rw q at (x.each v (omega arith))) ∙ many_ext _ _ (edges g) (λ i j.
          lead_test g lab (region (in_edges g.n b) w₀) i v m
          ∙ rw (lead_same g lab (region (in_edges g.n b) w₀) in_edge i (f.framed.low (in_edges g.n b + to g i) (omega (arith, a.valid.to_low i j)) ∙ k (to g i) (a.valid.to_low i j))));
    }

pub frees_ask : {g : Graph} {lab : List ℕ} {b : ℕ} {w w' : List ℕ} → Ground g lab b w → Counted g lab b w w' → FreesAsk g.n b w'
frees_ask a c = record { small = a.small; fits = omega (arith, a.fits, c.framed.long) }

module _ {n b : ℕ} {w₀ : List ℕ} (a : FreesAsk n b w₀) where
  abbrev count : ℕ → ℕ
  count = region (counts_at n b) w₀

  pub frees_none : Frees n b 0 w₀ w₀ 0
  unfolding many
  frees_none =
      record {
        framed = framed_none (queue_at n b) (in_edges n b) w₀;
        size = refl;
        member = λ i l. absurd (omega arith);
        listed = λ v l. absurd (omega arith);
        once = λ i j l m. absurd (omega arith);
      }

  module _ {v k : ℕ} {w : List ℕ} (x : Frees n b v w₀ w k) (low : v < n) where
    room : k < n
    room = omega (arith, x.size, many_le (λ v. eqb (count v) 0) v)

    pub free_ask : FreeAsk n b v k w
    free_ask = record { ask = record { small = a.small; fits = omega (arith, a.fits, x.framed.long) }; vertex = low; room = room }

    same_count : region (counts_at n b) w v ≡ count v
    same_count = x.framed.high (counts_at n b + v) (omega arith)

    pub frees_step : {w' : List ℕ} {k' : ℕ} → Freed n b v k w w' k' → Frees n b (v + 1) w₀ w' k'
    frees_step (inl (o, p, q)) =
        rw (p, q)
        (record {
          framed = x.framed;
          size = rw (many_next (λ v. eqb (count v) 0) v, ne_eqb (count v) 0 (λ z. o (same_count ∙ z))) (omega (arith, x.size));
          member = λ i l. let (m, z) = x.member i l in (omega arith, z);
          listed = λ u l z. by_cases (ℕ_discrete u v) (λ y. absurd (o (same_count ∙ rw y at z))) (λ y. x.listed u (omega arith) z);
          once = x.once;
        })
    frees_step (inr (z, p, q)) =
        rw (p, q)
        (record {
          framed = framed_more x.framed (set_framed w (queue_at n b) (in_edges n b) (queue_at n b + k) v (omega arith) (omega (arith, room)));
          size = rw (many_next (λ v. eqb (count v) 0) v, eq-eqb (count v) 0 zero_now) (omega (arith, x.size));
          member = λ i l. by_cases (ℕ_discrete i k) (λ y. rw (y, here) (omega arith, zero_now)) (λ o. rw (before i (omega arith)) (let (m, t) = x.member i (omega arith) in (omega arith, t)));
          listed = λ u l t. by_cases (ℕ_discrete u v) (λ y. (k, omega arith, here ∙ sym y)) (λ o. let (i, m, s) = x.listed u (omega arith) t in (i, omega arith, before i m ∙ s));
          once = λ i j l m s. by_cases (ℕ_discrete j k)
              (λ y. let t : region (queue_at n b) w i ≡ v = sym (before i (omega arith)) ∙ s ∙ ap (region (queue_at n b) (set w (queue_at n b + k) v)) y ∙ here in omega (arith, (x.member i (omega arith)).0))
              (λ o. x.once i j l (omega arith) (sym (before i (omega arith)) ∙ s ∙ before j (omega arith)));
        })
      where
        zero_now : count v ≡ 0
        zero_now = sym same_count ∙ z

        here : region (queue_at n b) (set w (queue_at n b + k) v) k ≡ v
        here = get_or-set_same w (queue_at n b + k) v 0 (omega (arith, room, x.framed.long, a.fits))

        before : (i : ℕ) → i < k → region (queue_at n b) (set w (queue_at n b + k) v) i ≡ region (queue_at n b) w i
        before i l = get_or-set_other w (queue_at n b + k) (queue_at n b + i) v 0 (λ y. omega arith)

-- there is room for the edge numbers
pub numbers_ask : {g : Graph} {kinds lab : List ℕ} {b : ℕ} {w : List ℕ} → RanksAsk g kinds lab b w → OneAsk (numbered g) kinds w
numbers_ask {g} a = record {
  kinded = a.kinded;
  column = valid_column a.ground.valid a.ground.small a.ground.few;
  even = length_each (edges g) (λ (e : ℕ). e);
  room = omega (arith, a.below, a.ground.fits);
}

-- and the offsets stand already
pub renumber_ask : {g : Graph} {kinds lab : List ℕ} {b : ℕ} {w : List ℕ} → RanksAsk g kinds lab b w → RenumberAsk (numbered g) kinds (take (g.n + 1 + edges g) w)
renumber_ask {g} {w = w} a = let o = numbers_ask a in record {
  ask = record { kinded = o.kinded; column = o.column; even = o.even; long = length-take-le (g.n + 1 + edges g) w o.room };
  offs = λ v l. get_or-take (g.n + 1 + edges g) w v 0 (omega arith) ∙ ap (λ (j : ℕ). get_or w j 0) (omega arith) ∙ a.index.offs v l;
}

-- The edge numbers, the counts, an empty set of edges gone, and the queue: peeling may begin.
module _ {g : Graph} {kinds lab : List ℕ} {b : ℕ} {w w₀ w₁ w₂ w₃ : List ℕ} {k : ℕ} (a : RanksAsk g kinds lab b w) (x : One (numbered g) w w₀)
    (f : Filled (ranks_at g.n b) g.n 0 w₀ w₁) (c : Counted g lab b w₁ w₂) (q : Frees g.n b g.n w₂ w₃ k) where
  behind : (j : ℕ) → g.n + 1 + edges g ≤ j → get_or w₀ j 0 ≡ get_or w j 0
  behind j l = x.rest j (omega (arith, start_all g.counted g.src (edges g) g.n))

  begin_frame : Ranking g.n b w₀ w₃
  begin_frame =
      record {
        long = q.framed.long ∙ c.framed.long ∙ f.framed.long;
        low = λ j l. q.framed.low j (omega arith) ∙ c.framed.low j (omega arith) ∙ f.framed.low j (omega arith);
        mid = λ j l m. q.framed.high j (omega arith) ∙ c.framed.low j (omega arith) ∙ f.framed.low j (omega arith);
        high = λ j l. q.framed.high j (omega arith) ∙ c.framed.high j (omega arith) ∙ f.framed.high j (omega arith);
      }

  module _ (in_edge : ℕ → ℕ) (h : Holds g.n (in_edges g.n b) in_edge w) where
    counts_now : (v : ℕ) → v < g.n → region (counts_at g.n b) w₃ v ≡ region (counts_at g.n b) w₂ v
    counts_now v l = q.framed.high (counts_at g.n b + v) (omega arith)

    ranks_now : (v : ℕ) → v < g.n → region (ranks_at g.n b) w₃ v ≡ 0
    ranks_now v l = q.framed.high (ranks_at g.n b + v) (omega arith) ∙ c.framed.low (ranks_at g.n b + v) (omega arith) ∙ f.each v l

    begin_peels : Peels g lab in_edge (λ x. false) b w₃ k 0
    begin_peels =
        record {
          counts = λ v l. counts_now v l ∙ c.counts in_edge (λ v l. f.framed.low (in_edges g.n b + v) (omega arith) ∙ behind (in_edges g.n b + v) (omega (arith, a.below)) ∙ h v l) v l;
          member = λ i l. let (m, z) = q.member i l in (m, counts_now _ m ∙ z);
          listed = λ v l z. q.listed v l (sym (counts_now v l) ∙ z);
          once = q.once;
          size = q.size ∙ many_ext _ _ g.n (λ v l. rw (counts_now v l));
          settled = λ e m t. absurd t;
          raised = λ e m t. absurd t;
          attained = λ v l. inl (ranks_now v l);
          bounded = λ v l. omega (arith, ranks_now v l);
        }

    pub begin : PeelAsk g lab b k w₃
    begin =
        record {
          ground = ground_kept a.ground (begin_frame.long ∙ x.long);
          index = held_kept (numbered g) 0 w₀ w₃ (λ j l m. begin_frame.low j (omega (arith, a.below))) x.index;
          below = a.below;
          in_edge = in_edge;
          holds = λ v l. begin_frame.mid (in_edges g.n b + v) (omega arith) (omega arith) ∙ behind (in_edges g.n b + v) (omega (arith, a.below)) ∙ h v l;
          peels = begin_peels;
        }

  pub ranks_end : {w' : List ℕ} {k' : ℕ} → AfterPeel g lab b k w₃ w' k' → Ranked g lab b w w' (eqb k' g.n)
  unfolding begin
  ranks_end {w'} {k'} y =
      record {
        long = frame.long ∙ x.long;
        low = λ j l m. frame.low j m ∙ behind j l;
        mid = λ j l m. frame.mid j l m ∙ behind j (omega (arith, a.below));
        high = λ j l. frame.high j l ∙ behind j (omega (arith, a.below));
        either = λ in_edge h. ⊎_elim (λ (z, p). inl (eq-eqb k' g.n z, p)) (λ (l, s). inr (ne_eqb k' g.n (λ z. omega arith), s)) (y.ended (begin in_edge h));
      }
    where
      frame : Ranking g.n b w₀ w'
      frame = ranking_more begin_frame y.frame
