-- A vertex is looked at: it does not remain, it stays, or it goes.
use Prim.Native.Nat.{ℕ, ◌+◌, ◌≤◌, ◌<◌}
use native.Mathlib.Omega.{arith}
use native.Mathlib.Decide.{ℕ_discrete}
use mathlib.Core.Path.{◌≡◌, refl, sym, ap, ◌∙◌}
use mathlib.Core.Logic.{◌⊎◌, inl, inr, ⊎_elim}
use mathlib.Core.Bool.{Bool, true, false}
use mathlib.Core.List.{List}
use lib.ListN.{length, get_or, set, length-set}
use lib.Seq.{get_or-set_same, get_or-set_other}
use lib.Dec.{eqb, eqb→eq}
use Rattle.graph.specs.Graph.{Graph, Part, rev, edges}
use Rattle.graph.specs.Parts.{Closed, Fwd, Alone, Entered, only, ◌∖◌}
use Rattle.graph.specs.Parts as parts
use Rattle.graph.specs.Apart.{Goes, begins, goes}
use Rattle.graph.proofs.Tests.{eq_t}
use Rattle.graph.proofs.Counts.{many_mono, many_more}
use Rattle.graph.proofs.Chains.{chain_first, edge_rev, same_low, reach_wider}
use Rattle.graph.proofs.Decompose.{none_enters, seed_removed}
use Rattle.prune.specs.Cursor.{cur, Clear, Stands, Side, Advanced}
use Rattle.prune.proofs.Walks.{side_kept, look_some, on_side, on_none, stands_left}
use Rattle.memory.specs.Decomposer.{col, que, flag, marks_at, seeds_at}
use Rattle.split.specs.State.{Tables}
use Rattle.split.proofs.Same.{tables_kept, owned_alone}
use Rattle.slices.specs.Seeds.{Rest, Seeds, unmarked, Marked, Next, NextAsk}
use Rattle.slices.specs.Peel.{into, remaining, Standing, Peeled, Settled, PeelAsk}
use Rattle.slices.proofs.Marking.{free_less}
use Rattle.slices.proofs.Peeling.{settled_none}

module _ (g : Graph) (b r : ℕ) where
  -- the part that remains, when only marks have been added
  rest_same : (w w' : List ℕ) → ((v : ℕ) → v < g.n → col b w' v ≡ col b w v) → (v : ℕ) → Rest g.n b r w v → Rest g.n b r w' v
  rest_same w w' f v (h, c) = (h, f v h ∙ c)

  -- seeds may be more
  cover_more : (w w' : List ℕ) (X : Part) → ((v : ℕ) → v < g.n → col b w' v ≡ col b w v)
      → ((v : ℕ) → Rest g.n b r w v → X v → Seeds g.n b r w' v)
      → ((v : ℕ) → Rest g.n b r w v → Fwd g (Rest g.n b r w) X v)
      → (v : ℕ) → Rest g.n b r w' v → Fwd g (Rest g.n b r w') (Seeds g.n b r w') v
  cover_more w w' X f s c v (h, i) =
      let (x, j, q) = c v (h, sym (f v h) ∙ i) in
      (x, s x (chain_first q.1) j, reach_wider {P = Rest g.n b r w} {Q = Rest g.n b r w'} (rest_same w w' f) q)

module _ {g : Graph} {b r : ℕ} where
  closed_rest : (w : List ℕ) → Standing g b r w → Closed g (Rest g.n b r w)
  closed_rest w s u v q (h, c) = (same_low s.tables.valid q h, sym (s.owned.whole u v h q) ∙ c)

  -- v does not remain
  pub settle_other : {w : List ℕ} {v e k : ℕ} → PeelAsk g b r v e k w (only v) → (col b w v ≡ r → ⊥) → Settled g b r w e k w e k (only v)
  settle_other a o = settled_none a.standing (λ u i q. o (rw (← q) at i.1))

  -- AN ENTERING CURSOR GOES ON
  module _ {w : List ℕ} {v e k : ℕ} (a : PeelAsk g b r v e k w (only v)) (live : col b w v ≡ r) {w₁ : List ℕ} {x : Bool}
      (adv : Advanced g.n (g.n + 1 + edges g) (into g b) b v r w w₁ x) where
    st : Standing g b r w
    st = a.standing

    else₁ : (j : ℕ) → (j ≡ into g b + v → ⊥) → get_or w₁ j 0 ≡ get_or w j 0
    else₁ j o = rw adv.store (get_or-set_other w (into g b + v) j adv.place 0 o)

    pub peel_long : length w₁ ≡ length w
    peel_long = rw adv.store (length-set w (into g b + v) adv.place)

    col₁ : (u : ℕ) → u < g.n → col b w₁ u ≡ col b w u
    col₁ u h = else₁ (b + u) (omega arith)

    flag₁ : (u : ℕ) → u < g.n → flag g.n b w₁ u ≡ flag g.n b w u
    flag₁ u h = else₁ (marks_at g.n b + u) (omega (arith, a.low))

    side₁ : Side (rev g) (g.n + 1 + edges g) (into g b) b r w₁
    side₁ = rw adv.store (on_side (rev g) (g.n + 1 + edges g) (into g b) b r w st.side (omega arith) (omega (arith, st.long)) v a.low live adv.place adv.found)

    standing₁ : Standing g b r w₁
    standing₁ = record {
      tables = tables_kept g b w w₁ (λ j h. else₁ j (omega arith)) st.tables;
      long = omega (arith, st.long, peel_long);
      over = st.over;
      fits = st.fits;
      owned = owned_alone (col b w) (col b w₁) st.tables.valid (omega (arith, st.over)) st.owned (λ u h. inl (col₁ u h));
      side = side₁;
      cover = cover_more g b r w w₁ (Seeds g.n b r w) col₁ (λ u (h, c) (_, _, o). (h, col₁ u h ∙ c, λ z. o (sym (flag₁ u h) ∙ z))) st.cover;
    }

    same_rest : (w w' : List ℕ) → ((u : ℕ) → u < g.n → col b w' u ≡ col b w u) → remaining g.n b r w' ≤ remaining g.n b r w
    same_rest w w' f = many_mono (λ u. eqb (col b w' u) r) (λ u. eqb (col b w u) r) g.n (λ u h t. rw (f u h) at t)

    -- v stays
    peel_stay : Peeled g b r w e k w₁ e k
    peel_stay = record {
      standing = standing₁;
      steps = λ s. begins col₁ flag₁;
      went = λ u h. inl (col₁ u h);
      kept = λ u h o. (flag₁ u h, else₁ (into g b + u) (λ q. o (let z : u ≡ v = omega arith in rw z live)));
      keeps = λ u h o q. o (sym (flag₁ u h) ∙ q);
      more = omega arith;
      front = λ i h. else₁ (seeds_at g.n b + i) (omega (arith, a.low));
      fresh = λ i h q. absurd (omega arith);
      marks = λ i h q. absurd (omega arith);
      each = λ u h. inl (flag₁ u h);
      room = omega (arith, free_less g.n b r w w₁ (λ u h c. (sym (col₁ u h) ∙ c, flag₁ u h)));
      gone = omega (arith, same_rest w w₁ col₁);
      line = λ i h. else₁ (b + g.n + i) (omega (arith, a.gone));
      behind = λ i h q. absurd (omega arith);
      queued = λ u h c. inl (col₁ u h ∙ c);
      due = λ u h d. absurd (omega (arith, d.1, d.2));
      only = λ u h q o. absurd (o (flag₁ u h ∙ q));
      late = omega arith;
      inside = record { low = λ j h. else₁ j (omega arith); mid = λ j h l. else₁ j (omega arith); high = λ j h. else₁ j (omega (arith, a.low)); long = peel_long };
    }

    -- its cursor stands at an edge of what remains
    pub settle_stay : x ≡ true → Settled g b r w e k w₁ e k (only v)
    settle_stay o = record { peeled = peel_stay; stays = λ u i q. inl (rw (← q) entered) }
      where
        clear : Clear (rev g) (g.n + 1 + edges g) b r w v (cur (into g b) w v)
        clear = let c = st.side.cursors in record { least = c.least v a.low live; most = c.most v a.low live; passed = λ j. c.passed v j a.low live }

        stands : Stands (rev g) (g.n + 1 + edges g) (into g b) b r w₁ v
        stands = rw adv.store (look_some (rev g) (g.n + 1 + edges g) (into g b) b r w st.side.laid (omega arith) (omega (arith, st.long)) v a.low (cur (into g b) w v) clear adv.place adv.found
            (adv.some o))

        entered : Entered g (Rest g.n b r w₁) v
        entered = let (i, u, h, y) = stands_left (rev g) (g.n + 1 + edges g) (into g b) b r w₁ side₁.laid v a.low stands in (i, u, h, edge_rev y)

    -- no edge of what remains enters v: it goes
    module _ (z : x ≡ false) where
      unentered : Entered g (Rest g.n b r w) v → ⊥
      unentered (i, u, h, y) =
          on_none (rev g) (g.n + 1 + edges g) (into g b) b r w st.side (omega arith) (omega (arith, st.long)) v a.low live adv.place adv.found (adv.none z)
          (i, u, h, edge_rev y)

      alone : Alone g v
      alone = none_enters (closed_rest w st) (a.low, live) unentered

      abbrev w₂ : List ℕ
      w₂ = set (set w₁ (b + v) v) (b + g.n + k) v

      pub k_low : k < g.n
      k_low = omega (arith, a.gone, many_more (λ u. false) (λ u. eqb (col b w u) r) g.n (λ i h t. absurd t) v a.low (λ t. t) (eq_t (col b w v) r live))

      else₂ : (j : ℕ) → (j ≡ b + v → ⊥) → (j ≡ b + g.n + k → ⊥) → get_or w₂ j 0 ≡ get_or w₁ j 0
      else₂ j p q = get_or-set_other (set w₁ (b + v) v) (b + g.n + k) j v 0 q ∙ get_or-set_other w₁ (b + v) j v 0 p

      here₂ : col b w₂ v ≡ v
      here₂ = get_or-set_other (set w₁ (b + v) v) (b + g.n + k) (b + v) v 0 (omega (arith, a.low)) ∙ get_or-set_same w₁ (b + v) v 0 (omega (arith, a.low, st.long, peel_long))

      col₂ : (u : ℕ) → u < g.n → (u ≡ v → ⊥) → col b w₂ u ≡ col b w u
      col₂ u h o = else₂ (b + u) (omega arith) (omega arith) ∙ col₁ u h

      long₂ : length w₂ ≡ length w
      long₂ = length-set (set w₁ (b + v) v) (b + g.n + k) v ∙ length-set w₁ (b + v) v ∙ peel_long

      over_v : v ≡ r → ⊥
      over_v q = omega (arith, a.low, st.over)

      rest₂ : (u : ℕ) → u < g.n → col b w₂ u ≡ r → (col b w u ≡ r) × (u ≡ v → ⊥)
      rest₂ u h q = elim (ℕ_discrete u v) as (λ _. (col b w u ≡ r) × (u ≡ v → ⊥)) [
        | yes d ↦ absurd (over_v (sym here₂ ∙ ap (col b w₂) (sym d) ∙ q))
        | no d ↦ (sym (col₂ u h d) ∙ q, d)
      ]

      flag₂ : (u : ℕ) → u < g.n → flag g.n b w₂ u ≡ flag g.n b w u
      flag₂ u h = else₂ (marks_at g.n b + u) (omega (arith, a.low)) (omega (arith, k_low)) ∙ flag₁ u h

      tables₂ : Tables g b w₂
      tables₂ = tables_kept g b w w₂ (λ j h. else₂ j (omega arith) (omega arith) ∙ else₁ j (omega arith)) st.tables

      less_free : unmarked g.n b r w₂ ≤ unmarked g.n b r w
      less_free = free_less g.n b r w w₂ (λ u h c. ((rest₂ u h c).0, flag₂ u h))

      less_rest : remaining g.n b r w₂ < remaining g.n b r w
      less_rest = many_more (λ u. eqb (col b w₂ u) r) (λ u. eqb (col b w u) r) g.n
          (λ u h t. eq_t (col b w u) r (rest₂ u h (eqb→eq (col b w₂ u) r t)).0) v a.low (λ t. over_v (sym here₂ ∙ eqb→eq (col b w₂ v) r t)) (eq_t (col b w v) r live)

      pub peel_next : NextAsk g b r v e (set (set w₁ (b + v) v) (b + g.n + k) v)
      peel_next = record { tables = tables₂; long = omega (arith, st.long, long₂); low = a.low; room = omega (arith, a.room, less_free) }

      module _ {w₃ : List ℕ} {e' : ℕ} (m : Marked g.n b r w₂ e w₃ e' (Next g v)) where
        col₃ : (u : ℕ) → u < g.n → col b w₃ u ≡ col b w₂ u
        col₃ u h = m.low (b + u) (omega arith)

        went₃ : (u : ℕ) → u < g.n → (col b w₃ u ≡ col b w u) ⊎ ((col b w u ≡ r) × (col b w₃ u ≡ u) × Alone g u)
        went₃ u h = elim (ℕ_discrete u v) as (λ _. (col b w₃ u ≡ col b w u) ⊎ ((col b w u ≡ r) × (col b w₃ u ≡ u) × Alone g u)) [
          | yes d ↦ inr (rw d live, rw d (col₃ v a.low ∙ here₂), rw d alone)
          | no d ↦ inl (col₃ u h ∙ col₂ u h d)
        ]

        cur₃ : (u : ℕ) → u < g.n → cur (into g b) w₃ u ≡ cur (into g b) w₁ u
        cur₃ u h = m.low (into g b + u) (omega arith) ∙ else₂ (into g b + u) (omega (arith, a.low)) (omega (arith, k_low))

        low₃ : (j : ℕ) → j < b → get_or w₃ j 0 ≡ get_or w j 0
        low₃ j h = m.low j (omega arith) ∙ else₂ j (omega arith) (omega arith) ∙ else₁ j (omega arith)

        side₃ : Side (rev g) (g.n + 1 + edges g) (into g b) b r w₃
        side₃ = side_kept (rev g) (g.n + 1 + edges g) (into g b) b r w₁ w₃ (λ j h. m.low j (omega arith) ∙ else₂ j (omega arith) (omega arith))
            (λ u h q. (col₁ u h ∙ (rest₂ u h (sym (col₃ u h) ∙ q)).0, cur₃ u h)) side₁

        seeds₃ : (u : ℕ) → Rest g.n b r w₃ u → ((Seeds g.n b r w u × (v ≡ u → ⊥)) ⊎ parts.Next g (Rest g.n b r w) (only v) u) → Seeds g.n b r w₃ u
        seeds₃ u (h, c) (inl ((_, _, o), d)) = (h, c, m.keeps u h (λ q. o (sym (flag₂ u h) ∙ q)))
        seeds₃ u (h, c) (inr (_, (i, y, q, d))) = (h, c, m.done u h (i, rw q d) (sym (col₃ u h) ∙ c))

        cover₃ : (u : ℕ) → Rest g.n b r w₃ u → Fwd g (Rest g.n b r w₃) (Seeds g.n b r w₃) u
        cover₃ u (h, c) =
            let t = rest₂ u h (sym (col₃ u h) ∙ c) in
            let (x, j, q) = seed_removed v unentered (Seeds g.n b r w) st.cover u ((h, t.0), λ i. t.1 (sym i)) in
            let there : (y : ℕ) → (Rest g.n b r w ∖ only v) y → Rest g.n b r w₃ y = λ y ((p, d), o). (p, col₃ y p ∙ col₂ y p (λ i. o (sym i)) ∙ d) in
            (x, seeds₃ x (there x (chain_first q.1)) j, reach_wider {P = Rest g.n b r w ∖ only v} {Q = Rest g.n b r w₃} there q)

        goes₃ : Goes g r v (col b w) (flag g.n b w) (col b w₃) (flag g.n b w₃)
        goes₃ = record {
          seed = (a.low, live, a.seeds v (a.low, live) refl);
          free = unentered;
          label = col₃ v a.low ∙ here₂;
          others = λ u h o. col₃ u h ∙ col₂ u h o;
          seeds = λ u (h, c). (
            λ o. elim (ℕ_discrete (flag g.n b w u) 0) as (λ _. (flag g.n b w u ≡ 0 → ⊥) ⊎ Next g v u) [ yes q ↦ inr (m.only u h (flag₂ u h ∙ q) o) | no q ↦ inl q ],
            λ d. ⊎_elim (λ o. m.keeps u h (λ q. o (sym (flag₂ u h) ∙ q))) (λ y. m.done u h y (sym (col₃ u h) ∙ c)) d,
          );
        }

        -- it is the last in the queue
        last₃ : que g.n b w₃ k ≡ v
        last₃ = m.low (b + g.n + k) (omega (arith, k_low)) ∙ get_or-set_same (set w₁ (b + v) v) (b + g.n + k) v 0 (omega (arith, k_low, st.long, peel_long, length-set w₁ (b + v) v))

        peel_go : Peeled g b r w e k w₃ e' (k + 1)
        peel_go = record {
          standing = record {
            tables = tables_kept g b w w₃ low₃ st.tables;
            long = omega (arith, st.long, long₂, m.long);
            over = st.over;
            fits = st.fits;
            owned = owned_alone (col b w) (col b w₃) st.tables.valid (omega (arith, st.over)) st.owned (λ u h. ⊎_elim (λ t. inl t) (λ t. inr (t.1, t.2)) (went₃ u h));
            side = side₃;
            cover = cover₃;
          };
          steps = λ s. goes v (begins (λ u h. refl) (λ u h. refl)) goes₃;
          went = went₃;
          kept = λ u h o. (
            ⊎_elim (λ t. t ∙ flag₂ u h) (λ t. absurd (o (rest₂ u h t.0).0)) (m.each u h),
            cur₃ u h ∙ else₁ (into g b + u) (λ q. o (let z : u ≡ v = omega arith in rw z live)),
          );
          keeps = λ u h o. m.keeps u h (λ q. o (sym (flag₂ u h) ∙ q));
          more = m.more;
          front = λ i h. m.front i h ∙ else₂ (seeds_at g.n b + i) (omega (arith, a.low)) (omega (arith, k_low)) ∙ else₁ (seeds_at g.n b + i) (omega (arith, a.low));
          fresh = m.fresh;
          marks = m.marks;
          each = λ u h. ⊎_elim (λ t. inl (t ∙ flag₂ u h)) (λ t. inr t.2) (m.each u h);
          room = omega (arith, m.moved, less_free);
          gone = omega (arith, less_rest, same_rest w₂ w₃ col₃);
          line = λ i h. m.low (b + g.n + i) (omega (arith, k_low)) ∙ else₂ (b + g.n + i) (omega (arith, a.low)) (omega arith) ∙ else₁ (b + g.n + i) (omega (arith, k_low));
          behind = λ i h q. let d : i ≡ k = omega arith in rw (d, last₃) a.low;
          queued = λ u h c. elim (ℕ_discrete u v) as (λ _. (col b w₃ u ≡ r) ⊎ ((i : ℕ) × (k ≤ i) × (i < k + 1) × (que g.n b w₃ i ≡ u))) [
            | yes d ↦ inr (k, omega arith, omega arith, last₃ ∙ sym d)
            | no d ↦ inl (col₃ u h ∙ col₂ u h d ∙ c)
          ];
          due = λ u h (i, p, q, d) c. let s : i ≡ k = omega arith in m.done u h (rw (s, last₃) at d) (sym (col₃ u h) ∙ c);
          only = λ u h q o. (k, omega arith, omega arith, rw last₃ (m.only u h (flag₂ u h ∙ q) o));
          late = omega arith;
          inside = record {
            low = low₃;
            mid = λ j h l. m.low j (omega arith) ∙ else₂ j (omega (arith, a.low)) (omega (arith, k_low)) ∙ else₁ j (omega arith);
            high = λ j h. m.high j h ∙ else₂ j (omega (arith, a.low)) (omega (arith, k_low)) ∙ else₁ j (omega (arith, a.low));
            long = m.long ∙ long₂;
          };
        }

        pub settle_go : Settled g b r w e k w₃ e' (k + 1) (only v)
        settle_go = record { peeled = peel_go; stays = λ u i q. absurd (over_v (sym (col₃ v a.low ∙ here₂) ∙ rw (← q) at i.1)) }
