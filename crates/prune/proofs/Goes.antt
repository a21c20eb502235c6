-- A vertex is examined: it stays, or it goes.
use Prim.Native.Nat.{ℕ, ◌+◌, ◌≤◌, ◌<◌}
use native.Mathlib.Omega.{arith}
use native.Mathlib.Decide.{ℕ_discrete}
use mathlib.Core.Path.{◌≡◌, sym, ap, ◌∙◌}
use mathlib.Core.Logic.{◌⊎◌, inl, inr, ⊎_elim}
use mathlib.Core.Bool.{Bool, true, false}
use mathlib.Core.List.{List}
use lib.ListN.{length, get_or, set, length-set}
use lib.Seq.{get_or-set_same, get_or-set_other}
use lib.Dec.{T, eqb, eqb→eq}
use Rattle.graph.specs.Graph.{Graph, rev}
use Rattle.graph.specs.Parts.{Tight}
use Rattle.graph.specs.Search.{part}
use Rattle.graph.proofs.Tests.{eq_t}
use Rattle.graph.proofs.Counts.{many_more, many_one}
use Rattle.graph.proofs.Ranges.{many_ext}
use Rattle.graph.proofs.Chains.{edge_rev}
use Rattle.memory.specs.Decomposer.{col, que, Aside}
use Rattle.prune.specs.Trim.{live, rev_at, into_at, out_at}
use Rattle.prune.specs.Cursor.{cur, Walking, Tied, TiedAsk, Hued}
use Rattle.prune.specs.Prune.{Each, Fresh, ExamineAsk, Examined}
use Rattle.prune.proofs.Walks.{rests_wider}
use Rattle.prune.proofs.Ties.{walking_kept}
use Rattle.prune.proofs.Steps.{pruned_none}

-- it is not in the part any more
pub examine_skip : {g : Graph} {b v ob ib q k : ℕ} {w : List ℕ} → ExamineAsk g b v ob ib q k w → (col b w v ≡ q → ⊥) → Examined g b v q k w w k
examine_skip a o = record { pruned = pruned_none a.state; stands = λ p. absurd (o p) }

module _ {g : Graph} {b v ob ib q k : ℕ} {w : List ℕ} (a : ExamineAsk g b v ob ib q k w) (here : col b w v ≡ q) where
  pub tied_ask : TiedAsk g b v ob ib q w
  tied_ask = record { walking = a.state.walking; low = a.low; starts = a.starts here }

  pub k_low : k < g.n
  k_low = omega (arith, a.state.room, many_more (λ u. false) (λ u. eqb (col b w u) q) g.n (λ i l e. absurd e) v a.low (λ e. e) (eq_t (col b w v) q here))

  module _ {w₁ : List ℕ} {r : Bool} (t : Tied g b v q w w₁ r) where
    col₁ : (u : ℕ) → u < g.n → col b w₁ u ≡ col b w u
    col₁ u l = t.else (b + u) (omega arith) (omega arith)

    que₁ : (i : ℕ) → i < k → que g.n b w₁ i ≡ que g.n b w i
    que₁ i l = t.else (b + g.n + i) (omega (arith, k_low)) (omega (arith, k_low))

    out₁ : (u : ℕ) → u < g.n → (u ≡ v → ⊥) → cur (out_at g b) w₁ u ≡ cur (out_at g b) w u
    out₁ u l o = t.else (out_at g b + u) (omega arith) (omega (arith, a.low))

    into₁ : (u : ℕ) → u < g.n → (u ≡ v → ⊥) → cur (into_at g b) w₁ u ≡ cur (into_at g b) w u
    into₁ u l o = t.else (into_at g b + u) (omega (arith, a.low)) (omega arith)

    live₁ : live g.n b q w₁ ≡ live g.n b q w
    live₁ = many_ext (λ u. eqb (col b w₁ u) q) (λ u. eqb (col b w u) q) g.n (λ u l. ap (λ (c : ℕ). eqb c q) (col₁ u l))

    aside₁ : Aside g.n b w w₁
    aside₁ = record {
      low = λ j h. t.else j (omega arith) (omega arith);
      mid = λ j h l. t.else j (omega arith) (omega arith);
      high = λ j h. t.else j (omega (arith, a.low)) (omega (arith, a.low));
      long = t.long;
    }

    walking₁ : Walking g b q w₁
    walking₁ = walking_kept g b q w w₁ aside₁.low t.long a.state.walking

    -- v STAYS
    pub examine_stay : r ≡ true → Examined g b v q k w w₁ k
    examine_stay o =
        let (so, si) = t.some o in
        record {
          pruned = record {
            state = record {
              walking = walking₁;
              gone = λ i l. rw (que₁ i l) (let (m, f) = a.state.gone i l in (m, λ p. f (sym (col₁ (que g.n b w i) m) ∙ p)));
              room = omega (arith, a.state.room, live₁);
            };
            more = omega arith;
            each = λ u l. inl (col₁ u l);
            front = que₁;
            sum = omega (arith, live₁);
            keeps = λ x h i u m. let (l, p) = i u m in (l, col₁ u l ∙ p);
            out = λ u l p. elim (ℕ_discrete u v) as (λ _. (cur (out_at g b) w₁ u ≡ cur (out_at g b) w u) ⊎ Fresh g 0 (out_at g b) b q w w₁ u) [
              | yes e ↦ rw e (inr (rests_wider so walking₁.out a.low (λ y h c. sym (col₁ y h) ∙ c)))
              | no e ↦ inl (out₁ u l e)
            ];
            into = λ u l p. elim (ℕ_discrete u v) as (λ _. (cur (into_at g b) w₁ u ≡ cur (into_at g b) w u) ⊎ Fresh (rev g) (rev_at g) (into_at g b) b q w w₁ u) [
              | yes e ↦ rw e (inr (rests_wider si walking₁.into a.low (λ y h c. sym (col₁ y h) ∙ c)))
              | no e ↦ inl (into₁ u l e)
            ];
            aside = aside₁;
          };
          stands = λ _. (so, si);
        }

    -- v GOES
    abbrev w₂ : List ℕ
    w₂ = set (set w₁ (b + v) v) (b + g.n + k) v

    else₂ : (j : ℕ) → (j ≡ b + v → ⊥) → (j ≡ b + g.n + k → ⊥) → get_or w₂ j 0 ≡ get_or w₁ j 0
    else₂ j x y = get_or-set_other (set w₁ (b + v) v) (b + g.n + k) j v 0 y ∙ get_or-set_other w₁ (b + v) j v 0 x

    col₂ : (u : ℕ) → u < g.n → (u ≡ v → ⊥) → col b w₂ u ≡ col b w u
    col₂ u l o = else₂ (b + u) (omega arith) (omega arith) ∙ col₁ u l

    own : col b w₂ v ≡ v
    own = get_or-set_other (set w₁ (b + v) v) (b + g.n + k) (b + v) v 0 (omega (arith, a.low))
        ∙ get_or-set_same w₁ (b + v) v 0 (omega (arith, a.low, walking₁.long))

    away : col b w₂ v ≡ q → ⊥
    away p = omega (arith, own, a.low, a.state.walking.part)

    put : que g.n b w₂ k ≡ v
    put = get_or-set_same (set w₁ (b + v) v) (b + g.n + k) v 0 (omega (arith, k_low, walking₁.long, length-set w₁ (b + v) v))

    long₂ : length w₂ ≡ length w₁
    long₂ = length-set (set w₁ (b + v) v) (b + g.n + k) v ∙ length-set w₁ (b + v) v

    que₂ : (i : ℕ) → i < k → que g.n b w₂ i ≡ que g.n b w i
    que₂ i l = else₂ (b + g.n + i) (omega (arith, a.low)) (omega arith) ∙ que₁ i l

    left₂ : (u : ℕ) → u < g.n → col b w₂ u ≡ q → (u ≡ v → ⊥)
    left₂ u l p e = away (ap (col b w₂) (sym e) ∙ p)

    out₂ : (u : ℕ) → u < g.n → cur (out_at g b) w₂ u ≡ cur (out_at g b) w₁ u
    out₂ u l = else₂ (out_at g b + u) (omega (arith, a.low)) (omega (arith, k_low))

    into₂ : (u : ℕ) → u < g.n → cur (into_at g b) w₂ u ≡ cur (into_at g b) w₁ u
    into₂ u l = else₂ (into_at g b + u) (omega (arith, a.low)) (omega (arith, k_low))

    walking₂ : Walking g b q w₂
    walking₂ = walking_kept g b q w₁ w₂ (λ j h. else₂ j (omega arith) (omega arith)) long₂ walking₁

    each₂ : Each g.n b q k w w₂ (k + 1)
    each₂ u l = elim (ℕ_discrete u v) as (λ _. (col b w₂ u ≡ col b w u) ⊎ ((col b w u ≡ q) × (col b w₂ u ≡ u) × ((i : ℕ) × (k ≤ i) × (i < k + 1) × (que g.n b w₂ i ≡ u)))) [
      | yes e ↦ rw e (inr (here, own, (k, omega arith, omega arith, put)))
      | no e ↦ inl (col₂ u l e)
    ]

    sum₂ : k + 1 + live g.n b q w₂ ≡ k + live g.n b q w
    sum₂ = omega (
      arith,
      many_more (λ u. eqb (col b w₂ u) q) (λ u. eqb (col b w u) q) g.n
          (λ u l e. let p = eqb→eq (col b w₂ u) q e in eq_t (col b w u) q (sym (col₂ u l (left₂ u l p)) ∙ p))
          v a.low (λ e. away (eqb→eq (col b w₂ v) q e)) (eq_t (col b w v) q here),
      many_one (λ u. eqb (col b w₂ u) q) (λ u. eqb (col b w u) q) g.n v (λ u l o e. rw (col₂ u l o) e),
    )

    -- a tight set does not hold v
    loose : r ≡ false → (x : ℕ → Bool) → Tight g (part x) → ((u : ℕ) → T (x u) → Hued g.n b q w u) → T (x v) → ⊥
    loose z x h i m =
        let ((e, u, n, y), (f, d, c, s)) = h v m in
        ⊎_elim (λ o. o (f, d, i d c, s)) (λ o. o (e, u, i u n, edge_rev y)) (t.none z)

    pub examine_go : r ≡ false → Examined g b v q k w w₂ (k + 1)
    examine_go z = record {
      pruned = record {
        state = record {
          walking = walking₂;
          gone = λ i l. elim (ℕ_discrete i k) as (λ _. (que g.n b w₂ i < g.n) × (col b w₂ (que g.n b w₂ i) ≡ q → ⊥)) [
            | yes e ↦ rw (e, put) (a.low, away)
            | no e ↦ rw (que₂ i (omega arith)) (let (m, f) = a.state.gone i (omega arith) in
                (m, λ p. f (let u = que g.n b w i in sym (col₂ u m (left₂ u m p)) ∙ p)))
          ];
          room = omega (arith, a.state.room, sum₂);
        };
        more = omega arith;
        each = each₂;
        front = que₂;
        sum = sum₂;
        keeps = λ x h i u m. let (l, p) = i u m in (l, col₂ u l (λ e. loose z x h i (rw e at m)) ∙ p);
        out = λ u l p. inl (out₂ u l ∙ out₁ u l (left₂ u l p));
        into = λ u l p. inl (into₂ u l ∙ into₁ u l (left₂ u l p));
        aside = record {
          low = λ j h. else₂ j (omega arith) (omega arith) ∙ aside₁.low j h;
          mid = λ j h l. else₂ j (omega (arith, a.low)) (omega (arith, k_low)) ∙ aside₁.mid j h l;
          high = λ j h. else₂ j (omega (arith, a.low)) (omega (arith, k_low)) ∙ aside₁.high j h;
          long = long₂ ∙ t.long;
        };
      };
      stands = λ p. absurd (away p);
    }
