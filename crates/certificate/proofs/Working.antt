-- The stages together: the certificate stands in the regions, or the labels are not right.
use Prim.Native.Nat.{ℕ, ◌+◌, ◌≤◌, ◌<◌}
use native.Mathlib.Omega.{arith}
use mathlib.Core.Path.{◌≡◌, refl, sym, subst, ◌∙◌}
use mathlib.Core.Logic.{inl, inr, ⊎_elim}
use mathlib.Core.Bool.{Bool, true, false, cond, not}
use mathlib.Core.List.{List}
use lib.ListN.{length, get_or}
use lib.Dec.{eqb}
use Rattle.graph.specs.Table.{graph_of, turned_of}
use Rattle.graph.specs.declared.table.Table.{Table}
use Rattle.graph.specs.Graph.{Graph, Valid, Chain, rev, edges}
use Rattle.graph.specs.Arrows.{Some, Every, arrows, back}
use Rattle.graph.specs.Limits.{most_edges}
use Rattle.graph.specs.Checker.{at, no_edge, entry}
use Rattle.graph.specs.Numbers.{least}
use Rattle.graph.specs.Certificate.{Right, certificate, dist_of, rank_of, distances, entries, ranks}
use Rattle.graph.proofs.Tests.{get_or_each}
use Rattle.graph.proofs.Chains.{valid_rev, label_rev, table_turned}
use Rattle.index.specs.Build.{BothAsk, Both}
use Rattle.index.proofs.Asks.{valid_both}
use Rattle.index.proofs.Counts.{start_all}
use Rattle.index.proofs.Moved.{held_kept}
use Rattle.classes.specs.Classes.{class, OwnLabels, Distances}
use Rattle.memory.specs.Memory.{region}
use Rattle.memory.specs.Writer.{in_distances, out_distances, in_edges, out_edges, ranks_at, counts_at}
use Rattle.ranks.specs.Ranks.{Peeled, Stuck, Ranks}
use Rattle.ranks.specs.Peel.{RanksAsk, Ranked}
use Rattle.certificate.specs.Entries.{Entries}
use Rattle.certificate.specs.Offer.{EntriesAsk, Entered}
use Rattle.classes.specs.Search.{Owned, DistancesAsk, Measured}
use Rattle.certificate.specs.Work.{base, WorkAsk, FindAsk, Near, Found, CompleteAsk, Completed, Made, Worked}
use Rattle.classes.proofs.Inside.{right_own, reached_inside, near_is}
use Rattle.certificate.proofs.Right.{labels_right, rank_right}
use Rattle.certificate.proofs.Fitting.{edge_least}
use Rattle.certificate.proofs.Waiting.{gone_ranks, none_stays}
use Rattle.classes.proofs.Classing.{when, unless}

-- a vertex that is not reached inside its class refutes the labels
unreached : {g : Graph} → Valid g → (lab : List ℕ) → (v : ℕ) × (v < g.n) × ((h : ℕ) → Chain g (class lab (at lab v)) h (at lab v) v → ⊥) → Right g lab → ⊥
unreached ok lab (v, l, o) right = let (h, c) = reached_inside ok lab right v l in o h c

module _ {g : Graph} {kinds lab : List ℕ} {b : ℕ} {w : List ℕ} (a : FindAsk g kinds lab b w) where
  -- both indexes can be made, whichever edges count: that they are those of g is the promise's matter
  pub both_ask : (counted : ℕ → Bool) → BothAsk (record { n = g.n; m = g.m; src = g.src; tgt = g.tgt; counted = counted }) kinds w
  both_ask counted =
      let v = a.ask.valid in
      valid_both (record { long = v.long; same = v.same; from_low = v.from_low; to_low = v.to_low }) a.ask.kinded a.ask.small a.ask.few (omega (arith, a.ask.room))

  module _ {w₁ : List ℕ} (x : Both g w w₁) where
    behind : (j : ℕ) → b ≤ j → get_or w₁ j 0 ≡ get_or w j 0
    behind j l = x.rest j (omega (arith, a.place, start_all g.counted g.tgt (edges g) g.n))

    forward : DistancesAsk g lab 0 b w₁
    forward =
        record {
          laid = record { valid = a.ask.valid; few = a.ask.few; below = omega (arith, a.place); index = x.forward };
          small = a.ask.small;
          size = a.ask.size;
          own = a.own;
          fits = omega (arith, a.ask.room, a.place, x.long);
        }

    pub there_ask : Some g.n (λ h. DistancesAsk h lab 0 b w₁)
    there_ask = (arrows g, forward)

    module _ {w₂ : List ℕ} {r : Bool} (told : Every g.n (λ h. DistancesAsk h lab 0 b w₁ → Measured h lab b w₁ w₂ r)) where
      there : Measured g lab b w₁ w₂ r
      there = told (arrows g) forward

      pub find_stop : not r ≡ true → Found g lab b w w₂ false
      find_stop q =
          record {
            beyond = record { long = there.kept.long ∙ x.long; rest = λ j l. there.kept.high j (omega arith) ∙ behind j (omega arith) };
            either = inr (refl, unreached a.ask.valid lab (unless there.either q));
          }

      module _ (q : not r ≡ false) where
        backward : DistancesAsk (rev g) lab (g.n + 1 + edges g) (b + g.n) w₂
        backward =
            record {
              laid =
                  record {
                    valid = valid_rev a.ask.valid;
                    few = a.ask.few;
                    below = omega (arith, a.place);
                    index = held_kept (rev g) (g.n + 1 + edges g) w₁ w₂ (λ j l m. there.kept.low j (omega (arith, a.place))) x.reverse;
                  };
              small = a.ask.small;
              size = a.ask.size;
              own = a.own;
              fits = omega (arith, a.ask.room, a.place, x.long, there.kept.long);
            }

        pub back_ask : Some g.n (λ h. DistancesAsk h lab (g.n + 1 + edges g) (b + g.n) w₂)
        back_ask = (back (arrows g), backward)

        pub find_end : {w₃ : List ℕ} {s : Bool} → Every g.n (λ h. DistancesAsk h lab (g.n + 1 + edges g) (b + g.n) w₂ → Measured h lab (b + g.n) w₂ w₃ s) → Found g lab b w w₃ s
        find_end {w₃} {s} Told-back =
            record {
              beyond =
                  record {
                    long = z.kept.long ∙ there.kept.long ∙ x.long;
                    rest = λ j l. z.kept.high j (omega arith) ∙ there.kept.high j (omega arith) ∙ behind j (omega arith);
                  };
              either =
                  ⊎_elim
                  (λ (p, (far, far-low)). inl (
                    p,
                    record {
                      index = held_kept g 0 w₁ w₃ (λ j l m. z.kept.low j (omega (arith, a.place)) ∙ there.kept.low j (omega (arith, a.place))) x.forward;
                      there = λ v l. rw (kept_there v l) ((when there.either q).0 v l);
                      there_low = λ v l. rw (kept_there v l) ((when there.either q).1 v l);
                      back = far;
                      back_low = far-low;
                    },
                  ))
                  (λ (p, u). inr (p, λ right. unreached (valid_rev a.ask.valid) lab u (λ v l. label_rev (right v l))))
                  z.either;
            }
          where
            z : Measured (rev g) lab (b + g.n) w₂ w₃ s
            z = Told-back (back (arrows g)) backward

            kept_there : (v : ℕ) → v < g.n → region b w₃ v ≡ region b w₂ v
            kept_there v l = z.kept.low (b + v) (omega arith)

pub enter_ask : {g : Graph} {kinds lab : List ℕ} {b : ℕ} {w : List ℕ} → CompleteAsk g kinds lab b w → EntriesAsk g kinds lab b (in_edges g.n b) w
enter_ask a = record { valid = a.valid; kinded = a.kinded; size = a.size; few = a.few; apart = omega arith; room = omega (arith, a.room) }

module _ (t : Table) {u : Table} {lab : List ℕ} {b : ℕ} {w w₁ : List ℕ} (a : CompleteAsk (graph_of t) t.kinds.now lab b w) (x : Entered (graph_of t) lab b (in_edges t.n b) w w₁) (back : u ≡ turned_of t) where
  -- the entries of the turned table are those of the collection turned
  turned : graph_of (turned_of t) ≡ rev (graph_of t)
  turned = table_turned t.n t.sources.now t.targets.now t.kinds.now t.mask a.valid.same

  leaving : EntriesAsk (rev (graph_of t)) t.kinds.now lab (b + t.n) (out_edges t.n b) w₁
  leaving = record { valid = valid_rev a.valid; kinded = a.kinded; size = a.size; few = a.few; apart = omega arith; room = omega (arith, a.room, x.framed.long) }

  pub leave_ask : EntriesAsk (graph_of u) u.kinds.now lab (b + t.n) (out_edges t.n b) w₁
  leave_ask = rw back (subst (λ (g : Graph). EntriesAsk g t.kinds.now lab (b + t.n) (out_edges t.n b) w₁) (sym turned) leaving)

  module _ {w₂ : List ℕ} (left : Entered (graph_of u) lab (b + t.n) (out_edges t.n b) w₁ w₂) where
    y : Entered (rev (graph_of t)) lab (b + t.n) (out_edges t.n b) w₁ w₂
    y = subst (λ (g : Graph). Entered g lab (b + t.n) (out_edges t.n b) w₁ w₂) turned (rw back at left)

    front_two : (j : ℕ) → j < in_edges t.n b → get_or w₂ j 0 ≡ get_or w j 0
    front_two j l = y.framed.low j (omega arith) ∙ x.framed.low j l

    pub ranks_ask : RanksAsk (graph_of t) t.kinds.now lab b w₂
    ranks_ask =
        record {
          ground =
              record {
                valid = a.valid;
                size = a.size;
                labels_low = λ v l. omega (arith, (a.own v l).0);
                small = a.small;
                few = a.few;
                fits = omega (arith, a.room, x.framed.long, y.framed.long);
              };
          kinded = a.kinded;
          index = held_kept (graph_of t) 0 w w₂ (λ j l m. front_two j (omega (arith, a.below))) a.index;
          below = a.below;
        }

    pub complete_end : {w₃ : List ℕ} {r : Bool} → Ranked (graph_of t) lab b w₂ w₃ r → Completed (graph_of t) lab b w w₃ r
    complete_end {w₃} z =
        record {
          beyond =
              record {
                long = z.long ∙ y.framed.long ∙ x.framed.long;
                rest = λ j l. z.high j (omega arith) ∙ y.framed.high j (omega arith) ∙ x.framed.high j (omega arith);
              };
          kept = λ j l m. z.low j (omega (arith, a.below)) m ∙ front_two j (omega arith);
          enters = λ v l. rw (in_now v l) (x.entries (region (in_distances t.n b) w) (λ u m. refl) v l);
          leaves = λ v l. rw (out_now v l) (y.entries (region (out_distances t.n b) w) (λ u m. x.framed.low (b + t.n + u) (omega arith)) v l);
          either = z.either (region (in_edges t.n b) w₃) (λ v l. sym (in_kept v l));
        }
      where
        in_kept : (v : ℕ) → v < t.n → region (in_edges t.n b) w₃ v ≡ region (in_edges t.n b) w₂ v
        in_kept v l = z.mid (in_edges t.n b + v) (omega arith) (omega arith)

        in_now : (v : ℕ) → v < t.n → region (in_edges t.n b) w₃ v ≡ region (in_edges t.n b) w₁ v
        in_now v l = in_kept v l ∙ y.framed.low (in_edges t.n b + v) (omega arith)

        out_now : (v : ℕ) → v < t.n → region (out_edges t.n b) w₃ v ≡ region (out_edges t.n b) w₂ v
        out_now v l = z.mid (out_edges t.n b + v) (omega arith) (omega arith)

-- right labels: the distances and the entries of one direction are those of the certificate
module _ {g : Graph} (ok : Valid g) {lab : List ℕ} (right : Right g lab) {d : ℕ → ℕ} (near : Distances g lab d) where
  dist_at : (v : ℕ) → v < g.n → d v ≡ at (distances g lab) v
  unfolding distances
  dist_at v l = near_is ok lab right v l (d v) (near v l) ∙ sym (get_or_each g.n (λ v. dist_of g (at lab v) v) 0 v l)

  entry_at : OwnLabels g.n lab → ((v : ℕ) → v < g.n → d v < g.n)
      → {edge : ℕ → ℕ} → Entries g lab d edge → (v : ℕ) → v < g.n → edge v ≡ at (entries g lab (distances g lab)) v
  unfolding entries
  entry_at own low {edge} first v l =
      edge_least ok lab own d near edge first (distances g lab) dist_at low v l
      ∙ sym (get_or_each g.n (λ v. cond (eqb (at lab v) v) no_edge (least (edges g) (λ e. entry g lab (distances g lab) e v))) 0 v l)

-- THE CERTIFICATE: distances, entries and ranks that fit one another are those of the certificate, and the labels are right
module _ {g : Graph} {lab : List ℕ} {b : ℕ} {w w' : List ℕ} (ok : Valid g) (few : edges g ≤ most_edges)
    (own : OwnLabels g.n lab) (x : Near g lab b w) {r : Bool} (y : Completed g lab b w w' r) where
  abbrev d : ℕ → ℕ
  d = region (in_distances g.n b) w

  abbrev out : ℕ → ℕ
  out = region (out_distances g.n b) w

  module _ (p : Peeled g lab (region (in_edges g.n b) w') (region (ranks_at g.n b) w')) where
    gone : Ranks g lab (region (ranks_at g.n b) w')
    gone = gone_ranks ok lab own d (region (in_edges g.n b) w') x.there y.enters few (region (ranks_at g.n b) w') p

    now_right : Right g lab
    now_right = labels_right ok lab own (region (ranks_at g.n b) w') gone d out x.there x.back

    right_back : Right (rev g) lab
    right_back v l = label_rev (now_right v l)

    at_rank : (v : ℕ) → v < g.n → region (ranks_at g.n b) w' v ≡ at (ranks g lab) v
    unfolding ranks
    at_rank v l =
        rank_right ok lab own (region (ranks_at g.n b) w') gone d out x.there x.back v l
        ∙ sym (get_or_each g.n (rank_of g (at lab)) 0 v l)

    pub now_made : Made g lab b w'
    unfolding certificate
    now_made =
        record {
          right = now_right;
          rank = at_rank;
          in_edge = entry_at ok now_right x.there own x.there_low y.enters;
          in_dist = λ v l. y.kept (in_distances g.n b + v) (omega arith) (omega arith) ∙ dist_at ok now_right x.there v l;
          out_edge = entry_at (valid_rev ok) right_back x.back own x.back_low y.leaves;
          out_dist = λ v l. y.kept (out_distances g.n b + v) (omega arith) (omega arith) ∙ dist_at (valid_rev ok) right_back x.back v l;
        }

  pub never_stuck : Stuck g lab (region (in_edges g.n b) w') (region (counts_at g.n b) w') → Right g lab → ⊥
  never_stuck s right = none_stays ok lab own d (region (in_edges g.n b) w') x.there y.enters few right (region (counts_at g.n b) w') s

module _ {g : Graph} {kinds lab w : List ℕ} (a : WorkAsk g kinds lab w) {r : Bool} (told : Owned (length lab) lab r) where
  o : Owned g.n lab r
  o = subst (λ (n : ℕ). Owned n lab r) a.size told

  pub work_none : not r ≡ true → Worked g lab (base g) w w false
  work_none q = record { beyond = record { long = refl; rest = λ j l. refl }; either = inr (refl, λ right. unless o q (right_own a.valid lab right)) }

  module _ (fine : not r ≡ false) where
    pub find_ask : FindAsk g kinds lab (base g) w
    find_ask = record { ask = a; own = when o fine; place = refl }

    module _ {w₁ : List ℕ} {s : Bool} (x : Found g lab (base g) w w₁ s) where
      pub work_stop : not s ≡ true → Worked g lab (base g) w w₁ false
      work_stop q = record { beyond = record { long = x.beyond.long; rest = λ j l. x.beyond.rest j (omega arith) }; either = inr (refl, unless x.either q) }

      module _ (q : not s ≡ false) where
        near_now : Near g lab (base g) w₁
        near_now = when x.either q

        pub complete_ask : CompleteAsk g kinds lab (base g) w₁
        complete_ask =
            record {
              valid = a.valid;
              kinded = a.kinded;
              size = a.size;
              own = when o fine;
              small = a.small;
              few = a.few;
              index = near_now.index;
              below = omega arith;
              room = omega (arith, a.room, x.beyond.long);
            }

        pub work_end : {w₂ : List ℕ} {s : Bool} → Completed g lab (base g) w₁ w₂ s → Worked g lab (base g) w w₂ s
        work_end y =
            record {
              beyond =
                  record {
                    long = y.beyond.long ∙ x.beyond.long;
                    rest = λ j l. y.beyond.rest j (omega arith) ∙ x.beyond.rest j (omega arith);
                  };
              either =
                  ⊎_elim
                  (λ (p, z). inl (p, now_made a.valid a.few (when o fine) near_now y z))
                  (λ (p, z). inr (p, never_stuck a.valid a.few (when o fine) near_now y z))
                  y.either;
            }
