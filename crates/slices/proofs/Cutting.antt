-- One slice: the seeds are sown, what reaches them is painted, its successors are marked.
use Prim.Native.Nat.{ℕ, zero, suc, ◌+◌, ◌≤◌, ◌<◌}
use native.Mathlib.Omega.{arith}
use native.Mathlib.Decide.{ℕ_discrete, dec_lt}
use mathlib.Core.Path.{◌≡◌, sym, ap, ◌∙◌}
use mathlib.Core.Logic.{◌⊎◌, ◌↔◌, inl, inr, ⊎_elim}
use mathlib.Core.List.{List}
use lib.ListN.{get_or}
use Rattle.graph.specs.Graph.{Graph, Valid, rev, stay, Same, edges}
use Rattle.graph.specs.Parts.{Fwd, Bwd, Entered, ◌∖◌}
use Rattle.graph.specs.Apart.{In, Slice}
use Rattle.graph.proofs.Chains.{chain_first, chain_last, valid_rev, same_low, reach_wider}
use Rattle.graph.proofs.Decompose.{rest_covered}
use Rattle.graph.proofs.Method.{bwd_rev}
use Rattle.memory.specs.Decomposer.{col, que, flag, seed, chains_at, marks_at, seeds_at, Inside}
use Rattle.paint.specs.Colours.{paint, Opens, Hit}
use Rattle.paint.specs.Paint.{SearchAsk, VisitAsk, Visited, LevelAsk, Spread, Begun, Searched}
use Rattle.paint.proofs.Painting.{paint_first, paint_still, paint_opens}
use Rattle.paint.proofs.Growth.{grew_none}
use Rattle.paint.proofs.Spreading.{begun_ready, begun_more, begun_ask, begun_searched}
use Rattle.paint.proofs.Components.{fwd_low, search_whole_back}
use Rattle.prune.specs.Cursor.{cur, Side}
use Rattle.prune.proofs.Walks.{side_kept}
use Rattle.split.specs.State.{Tables, Owned}
use Rattle.slices.specs.Seeds.{Rest, Seeds, Listed, unmarked, Marked, Behind, AllAsk}
use Rattle.slices.specs.Peel.{into, Standing}
use Rattle.slices.specs.Slice.{CutAsk, Cut}
use Rattle.split.proofs.Same.{tables_kept}
use Rattle.slices.proofs.Marking.{free_less}

-- a vertex keeps its colour, or was in what remains and is in the slice
pub slice_went : {g : Graph} {r s : ℕ} {own marks own' marks' : ℕ → ℕ} → Slice g r s own marks own' marks'
    → (v : ℕ) → v < g.n → (own' v ≡ own v) ⊎ ((own v ≡ r) × (own' v ≡ s))
slice_went {g} {r} {own = own} z v h = ⊎_elim (λ t. inr ((chain_first {P = In g own r} t.0.2.1).1, t.1)) (λ t. inl t.1) (z.each v h)

module _ {g : Graph} {b r s l e : ℕ} {w : List ℕ} (a : CutAsk g b r s l e w) where
  st : Standing g b r w
  st = a.listing.standing

  ok : Valid g
  ok = st.tables.valid

  still : (y : ℕ) → paint r s r s (paint r s r s y) ≡ paint r s r s y
  still = paint_still r s r s (omega (arith, a.under)) (omega (arith, a.under)) (omega (arith, a.under)) (omega (arith, a.under))

  cut_ask : SearchAsk (rev g) (paint r s r s) (g.n + 1 + edges g) b w
  cut_ask = record {
    laid = st.side.laid;
    small = st.tables.small;
    fits = omega (arith, st.long);
    still = still;
  }

  -- what is open is what remains
  opened : (v : ℕ) → Opens (paint r s r s) (col b w v) → col b w v ≡ r
  opened v o = ⊎_elim (λ t. t) (λ t. t) (paint_opens r s r s (col b w v) o)

  open_rest : (v : ℕ) → col b w v ≡ r → Opens (paint r s r s) (col b w v)
  open_rest v q t = omega (arith, a.under, ap (paint r s r s) q ∙ paint_first r s r s, q, t)

  -- what reaches a listed vertex within what remains is what reaches a seed
  listed_seeds : (v : ℕ) → Bwd g (Rest g.n b r w) (Listed g.n b w l e) v ↔ Bwd g (Rest g.n b r w) (Seeds g.n b r w) v
  listed_seeds v = (
    λ (x, (i, p, q, t), c). let (h, d) = chain_last c.1 in (x, (h, d, λ z. a.listing.marks i q (rw t z)), c),
    λ (x, y, c). (x, a.listing.listed x y, c),
  )

  -- SOWING
  pub sow_none : Begun (rev g) (paint r s r s) b (Listed g.n b w l l) w w 0
  sow_none = record { grew = grew_none (paint r s r s) g.n b w 0 _; low = λ v t. absurd (omega (arith, t.1, t.2)); shut = λ v t. absurd (omega (arith, t.1, t.2)) }

  module _ {i : ℕ} {x : List ℕ} {k : ℕ} (h : i < e) (o : l ≤ i) (z : Begun (rev g) (paint r s r s) b (Listed g.n b w l i) w x k) where
    sow_same : seed g.n b x i ≡ seed g.n b w i
    sow_same = z.grew.kept.high (seeds_at g.n b + i) (omega arith)

    sow_low : seed g.n b x i < g.n
    sow_low = rw sow_same (a.listing.member i h)

    pub sow_visit : VisitAsk (paint r s r s) g.n b (seed g.n b x i) x k
    sow_visit = record { ready = begun_ready (rev g) (paint r s r s) (g.n + 1 + edges g) b w cut_ask (Listed g.n b w l i) x k z; vertex = sow_low }

    pub sow_step : {x' : List ℕ} {k' : ℕ} → Visited (paint r s r s) g.n b (seed g.n b x i) x k x' k' → Begun (rev g) (paint r s r s) b (Listed g.n b w l (i + 1)) w x' k'
    sow_step {x'} {k'} m = begun_more (rev g) (paint r s r s) (g.n + 1 + edges g) b w cut_ask (Listed g.n b w l i) x k z (Listed g.n b w l (i + 1)) (seed g.n b x i) x' k' sow_low
        (λ v (j, p, q, t). (j, p, omega arith, t))
        (i, o, omega arith, sym sow_same)
        (λ v (j, p, q, t). elim (dec_lt j i) as (λ _. Listed g.n b w l i v ⊎ (v ≡ seed g.n b x i)) [
          | yes d ↦ inl (j, p, d, t)
          | no d ↦ let f : j ≡ i = omega arith in inr (sym t ∙ ap (seed g.n b w) f ∙ sym sow_same)
        ])
        m

  -- CUTTING
  module _ {x : List ℕ} {k : ℕ} (z : Begun (rev g) (paint r s r s) b (Listed g.n b w l e) w x k) where
    pub cut_level : LevelAsk (rev g) (paint r s r s) (g.n + 1 + edges g) b 0 x k
    cut_level = begun_ask (rev g) (paint r s r s) (g.n + 1 + edges g) b w cut_ask (Listed g.n b w l e) x k z

    pub cut_searched : {x' : List ℕ} {k' seen : ℕ} → Spread (rev g) (paint r s r s) b x k k' x' k' seen → Searched (rev g) (paint r s r s) b (Listed g.n b w l e) w x' k' seen
    cut_searched {x'} {k'} {seen} y = begun_searched (rev g) (paint r s r s) (g.n + 1 + edges g) b w cut_ask (Listed g.n b w l e) x k z x' k' seen y

  module _ {w₁ : List ℕ} {k seen : ℕ} (f : Searched (rev g) (paint r s r s) b (Listed g.n b w l e) w w₁ k seen) where
    x_low : (v : ℕ) → Listed g.n b w l e v → v < g.n
    x_low v (i, p, q, t) = omega (arith, t, a.listing.member i q)

    hit_bwd : (v : ℕ) → Hit (rev g) (paint r s r s) b (Listed g.n b w l e) w v → Bwd g (Rest g.n b r w) (Seeds g.n b r w) v
    hit_bwd v t = (listed_seeds v).0 ((bwd_rev v).1 (fwd_low {P = λ v. Opens (paint r s r s) (col b w v)} {Q = Rest g.n b r w} (valid_rev ok) x_low (λ v h o. (h, opened v o)) v t))

    bwd_hit : (v : ℕ) → Bwd g (Rest g.n b r w) (Seeds g.n b r w) v → Hit (rev g) (paint r s r s) b (Listed g.n b w l e) w v
    bwd_hit v t = fwd_low {P = Rest g.n b r w} {Q = λ v. Opens (paint r s r s) (col b w v)} (valid_rev ok) x_low (λ v h (_, c). open_rest v c) v ((bwd_rev v).0 ((listed_seeds v).1 t))

    -- painted, or as it was
    one : (v : ℕ) → v < g.n → (Bwd g (Rest g.n b r w) (Seeds g.n b r w) v × (col b w₁ v ≡ s))
        ⊎ ((Bwd g (Rest g.n b r w) (Seeds g.n b r w) v → ⊥) × (col b w₁ v ≡ col b w v))
    one v h = ⊎_elim
        (λ t. let y = hit_bwd v t.0 in inl (y, t.1 ∙ ap (paint r s r s) (chain_first y.2.1).1 ∙ paint_first r s r s))
        (λ t. inr (λ y. t.0 (bwd_hit v y), t.1))
        (f.each v h)

    dec : (v : ℕ) → Dec (Bwd g (Rest g.n b r w) (Seeds g.n b r w) v)
    dec v = elim (dec_lt v g.n) as (λ _. Dec (Bwd g (Rest g.n b r w) (Seeds g.n b r w) v)) [
      | yes h ↦ ⊎_elim (λ t. yes t.0) (λ t. no t.0) (one v h)
      | no h ↦ no (λ y. h (chain_first y.2.1).0)
    ]

    left : (v : ℕ) → v < g.n → col b w₁ v ≡ r → (col b w v ≡ r) × (Bwd g (Rest g.n b r w) (Seeds g.n b r w) v → ⊥)
    left v h q = ⊎_elim (λ t. absurd (omega (arith, t.1, q, a.under))) (λ t. (sym t.1 ∙ q, t.0)) (one v h)

    same : (j : ℕ) → (j < b) ⊎ (chains_at g.n b ≤ j) → get_or w₁ j 0 ≡ get_or w j 0
    same j (inl h) = f.kept.low j h
    same j (inr h) = f.kept.high j (omega arith)

    flag₁ : (v : ℕ) → flag g.n b w₁ v ≡ flag g.n b w v
    flag₁ v = same (marks_at g.n b + v) (inr (omega arith))

    -- what still remains was no seed
    free : (v : ℕ) → v < g.n → col b w₁ v ≡ r → flag g.n b w₁ v ≡ 0
    free v h c = let t = left v h c in elim (ℕ_discrete (flag g.n b w v) 0) as (λ _. flag g.n b w₁ v ≡ 0) [
      | yes z ↦ flag₁ v ∙ z
      | no o ↦ absurd (t.1 (v, (h, t.0, o), (zero, stay (h, t.0))))
    ]

    less_free : unmarked g.n b r w₁ ≤ unmarked g.n b r w
    less_free = free_less g.n b r w w₁ (λ u h c. ((left u h c).0, flag₁ u))

    tables₁ : Tables g b w₁
    tables₁ = tables_kept g b w w₁ f.kept.low st.tables

    pub cut_all : AllAsk g b r k e w₁
    cut_all = record {
      tables = tables₁;
      long = omega (arith, st.long, f.kept.long);
      few = f.few;
      member = λ i h. (f.member i h).0;
      room = omega (arith, a.listing.room, less_free);
    }

    module _ {w₂ : List ℕ} {e' : ℕ} (m : Marked g.n b r w₁ e w₂ e' (Behind g b w₁ k)) where
      col₂ : (v : ℕ) → v < g.n → col b w₂ v ≡ col b w₁ v
      col₂ v h = m.low (b + v) (omega arith)

      -- of what still remains, the successors of the slice are marked, and no others
      next₂ : (v : ℕ) → Rest g.n b r w₂ v → (flag g.n b w₂ v ≡ 0 → ⊥) ↔ Entered g (Bwd g (Rest g.n b r w) (Seeds g.n b r w)) v
      next₂ v (h, c) = let d : col b w₁ v ≡ r = sym (col₂ v h) ∙ c in (
        λ o. let (j, p, (i, y)) = m.only v h (free v h d) o in (i, que g.n b w₁ j, hit_bwd (que g.n b w₁ j) (f.member j p).1, y),
        λ (i, u, y, x). let (j, p, q) = f.listed u (chain_first y.2.1).0 (bwd_hit u y) in m.done v h (j, p, (i, rw q x)) d,
      )

      slice₂ : Slice g r s (col b w) (flag g.n b w) (col b w₂) (flag g.n b w₂)
      slice₂ = record {
        other = λ e. omega (arith, a.under, e);
        stuck = a.stuck;
        each = λ v h. ⊎_elim (λ t. inl (t.0, col₂ v h ∙ t.1)) (λ t. inr (t.0, col₂ v h ∙ t.1)) (one v h);
        seeds = next₂;
      }

      whole₁ : (u v : ℕ) → u < g.n → Same g u v → col b w₁ u ≡ col b w₁ v
      whole₁ = search_whole_back f ok x_low st.owned.whole

      owned₂ : Owned g (col b w₂) (suc r)
      owned₂ = record {
        whole = λ u v h q. col₂ u h ∙ whole₁ u v h q ∙ sym (col₂ v (same_low ok q h));
        right = λ v h q. ⊎_elim (λ t. rw t (st.owned.right v h (rw t at q))) (λ t. absurd (omega (arith, t.1, q, a.part))) (slice_went slice₂ v h);
        below = λ v h. ⊎_elim (λ t. rw t (st.owned.below v h)) (λ t. omega (arith, t.1, a.under)) (slice_went slice₂ v h);
      }

      cur₂ : (v : ℕ) → v < g.n → cur (into g b) w₂ v ≡ cur (into g b) w v
      cur₂ v h = m.low (into g b + v) (omega arith) ∙ same (into g b + v) (inr (omega arith))

      side₂ : Side (rev g) (g.n + 1 + edges g) (into g b) b r w₂
      side₂ = side_kept (rev g) (g.n + 1 + edges g) (into g b) b r w w₂ (λ j h. m.low j (omega arith) ∙ same j (inl h))
          (λ v h q. ((left v h (sym (col₂ v h) ∙ q)).0, cur₂ v h)) st.side

      cover₂ : (v : ℕ) → Rest g.n b r w₂ v → Fwd g (Rest g.n b r w₂) (Seeds g.n b r w₂) v
      cover₂ v (h, c) =
          let t = left v h (sym (col₂ v h) ∙ c) in
          let (x, j, q) = rest_covered (Seeds g.n b r w) dec st.cover v ((h, t.0), t.1) in
          let there : (u : ℕ) → (Rest g.n b r w ∖ Bwd g (Rest g.n b r w) (Seeds g.n b r w)) u → Rest g.n b r w₂ u =
          λ u ((p, d), o). (p, col₂ u p ∙ ⊎_elim (λ y. absurd (o y.0)) (λ y. y.1 ∙ d) (one u p)) in
          let (i, d) = there x (chain_first q.1) in
          (x, (i, d, (next₂ x (i, d)).1 j.1), reach_wider {P = Rest g.n b r w ∖ Bwd g (Rest g.n b r w) (Seeds g.n b r w)} {Q = Rest g.n b r w₂} there q)

      -- a seed in what still remains is new
      new : (v : ℕ) → Seeds g.n b r w₂ v → Listed g.n b w₂ e e' v
      new v (h, c, o) = ⊎_elim (λ q. absurd (o (q ∙ free v h (sym (col₂ v h) ∙ c)))) (λ q. q.2) (m.each v h)

      front₂ : (i : ℕ) → i < e → seed g.n b w₂ i ≡ seed g.n b w i
      front₂ i h = m.front i h ∙ same (seeds_at g.n b + i) (inr (omega arith))

      inside₂ : Inside g.n b w w₂
      inside₂ = record {
        low = λ j h. m.low j (omega arith) ∙ same j (inl h);
        mid = λ j h q. m.low j (omega arith) ∙ same j (inr h);
        high = λ j h. m.high j h ∙ same j (inr (omega arith));
        long = m.long ∙ f.kept.long;
      }

      pub cut_done : Cut g b r s w e w₂ e'
      cut_done = record {
        listing = record {
          standing = record {
            tables = tables_kept g b w w₂ inside₂.low st.tables;
            long = omega (arith, st.long, inside₂.long);
            over = st.over;
            fits = st.fits;
            owned = owned₂;
            side = side₂;
            cover = cover₂;
          };
          order = m.more;
          room = omega (arith, m.moved, a.listing.room, less_free);
          member = λ i h. elim (dec_lt i e) as (λ _. seed g.n b w₂ i < g.n) [
            | yes q ↦ rw (front₂ i q) (a.listing.member i q)
            | no q ↦ m.fresh i (omega arith) h
          ];
          listed = new;
          marks = λ i h. elim (dec_lt i e) as (λ _. flag g.n b w₂ (seed g.n b w₂ i) ≡ 0 → ⊥) [
            | yes q ↦ rw (front₂ i q) (m.keeps (seed g.n b w i) (a.listing.member i q) (rw (flag₁ (seed g.n b w i)) (a.listing.marks i q)))
            | no q ↦ m.marks i (omega arith) h
          ];
        };
        slice = slice₂;
        kept = λ v h o. (⊎_elim (λ t. t ∙ flag₁ v) (λ t. absurd (o (left v h t.0).0)) (m.each v h), cur₂ v h);
        room = omega (arith, m.moved, less_free);
        inside = inside₂;
      }
