-- All slices of what a pivot reaches.
use Prim.Native.Nat.{ℕ, zero, suc, ◌+◌, ◌*◌, ◌≤◌, ◌<◌}
use native.Mathlib.Omega.{arith}
use native.Mathlib.Decide.{dec_lt}
use native.Mathlib.Numerals.{add-one}
use mathlib.Core.Path.{◌≡◌, refl, sym, ap, ◌∙◌}
use mathlib.Core.Logic.{◌⊎◌, inl, inr, ⊎_elim}
use mathlib.Core.Bool.{Bool, true, false, cond, ◌&&◌}
use mathlib.Core.List.{List}
use lib.ListN.{get_or}
use lib.Dec.{T, eqb, eqb→eq}
use Rattle.graph.specs.Graph.{Graph, Valid, rev, stay, edges}
use Rattle.graph.specs.Parts.{Fwd, Alone, only}
use Rattle.graph.specs.Apart.{In, Obf}
use Rattle.graph.specs.Apart as apart
use Rattle.graph.specs.Numbers.{many}
use Rattle.graph.proofs.Tests.{and_l, eq_t}
use Rattle.graph.proofs.Counts.{many_le, many_mono}
use Rattle.graph.proofs.Chains.{chain_last, valid_rev, same_low, reach_wider}
use Rattle.graph.proofs.Decompose.{fwd_covers}
use Rattle.index.specs.Index.{first}
use Rattle.index.proofs.Counts.{start_mono}
use Rattle.memory.specs.Decomposer.{col, flag, seed, chains_at, marks_at}
use Rattle.memory.proofs.Memory.{touched_more, touched_none}
use Rattle.paint.specs.Colours.{paint, Hit}
use Rattle.paint.specs.Paint.{StartAsk, Searched}
use Rattle.paint.proofs.Painting.{paint_first, paint_still, paint_opens}
use Rattle.paint.proofs.Components.{fwd_low, search_whole}
use Rattle.prune.specs.Cursor.{cur, Side}
use Rattle.split.specs.State.{Tables, Owned, held}
use Rattle.split.proofs.Same.{tables_kept, top_le}
use Rattle.slices.specs.Seeds.{Rest, Seeds, Listed, unmarked, MarkAsk, Mark, Marked}
use Rattle.slices.specs.Peel.{into, PeeledAll, PassAsk}
use Rattle.slices.specs.Slice.{CutAsk, Cut, CutsAsk, Cuts, Done, SliceAsk, Sliced}
use Rattle.slices.proofs.Marking.{mark_step}
use Rattle.slices.proofs.Cutting.{slice_went}
use Rattle.slices.proofs.Steps.{slicing_then}

-- THE LOOP
module _ {g : Graph} {b r top : ℕ} {w : List ℕ} (a : CutsAsk g b r top w) where
  pub cuts_none : Cuts g b r top w 0 1 top w
  cuts_none = record {
    listing = a.listing;
    steps = apart.begins (λ v h. refl) (λ v h. refl);
    went = λ v h. inl refl;
    kept = λ v h o. (refl, refl);
    least = omega arith;
    most = omega arith;
    room = omega arith;
    inside = touched_none g.n b _ w;
  }

  module _ {l e s : ℕ} {x : List ℕ} (z : Cuts g b r top w l e s x) (h : l < e) where
    pub cuts_pass : PassAsk g b r l e x
    cuts_pass = let y = z.listing in record { standing = y.standing; order = y.order; room = y.room; member = y.member; marks = y.marks; listed = y.listed }

    pub cuts_few : e ≤ g.n
    cuts_few = omega (arith, z.listing.room)

    module _ {x₁ : List ℕ} {m k : ℕ} (p : PeeledAll g b r x e x₁ m k) where
      rest₁ : (v : ℕ) → v < g.n → col b x₁ v ≡ r → col b x v ≡ r
      rest₁ v i c = ⊎_elim (λ t. sym t ∙ c) (λ t. t.0) (p.peeled.went v i)

      listed₁ : (v : ℕ) → Seeds g.n b r x₁ v → Listed g.n b x₁ l m v
      listed₁ v (i, c, o) = ⊎_elim
          (λ t. let (j, d, q, f) = z.listing.listed v (i, rest₁ v i c, λ y. o (t ∙ y)) in (j, d, omega (arith, p.peeled.more, q), p.peeled.front j q ∙ f))
          (λ (j, d, q, f). (j, omega (arith, d, h), q, f))
          (p.peeled.each v i)

      pub cuts_cut : CutAsk g b r s l m x₁
      cuts_cut = record {
        listing = record {
          standing = p.peeled.standing;
          order = omega (arith, p.peeled.more, h);
          room = omega (arith, p.peeled.room, z.listing.room);
          member = λ i q. elim (dec_lt i e) as (λ _. seed g.n b x₁ i < g.n) [ yes d ↦ rw (p.peeled.front i d) (z.listing.member i d) | no d ↦ p.peeled.fresh i (omega arith) q ];
          listed = listed₁;
          marks = λ i q. elim (dec_lt i e) as (λ _. flag g.n b x₁ (seed g.n b x₁ i) ≡ 0 → ⊥) [
            | yes d ↦ rw (p.peeled.front i d) (p.peeled.keeps (seed g.n b x i) (z.listing.member i d) (z.listing.marks i d))
            | no d ↦ p.peeled.marks i (omega arith) q
          ];
        };
        stuck = p.stuck;
        part = omega (arith, a.part, z.least);
        under = omega (arith, z.most, cuts_few, h, a.under);
      }

      pub cuts_step : {x₂ : List ℕ} {e' : ℕ} → Cut g b r s x₁ m x₂ e' → Cuts g b r top w m e' (s + 1) x₂
      cuts_step {x₂} {e'} d = record {
        listing = d.listing;
        steps = rw (add-one s) (apart.cuts (slicing_then z.steps (p.peeled.steps s)) d.slice);
        went = λ v i. ⊎_elim
            (λ t. ⊎_elim
            (λ y. ⊎_elim (λ u. inl (u ∙ y ∙ t)) (λ u. inr (sym t ∙ sym y ∙ u.0, inr (omega (arith, u.1, z.least), omega (arith, u.1)))) (slice_went d.slice v i))
            (λ y. inr (sym t ∙ y.0, inl (⊎_elim (λ u. u ∙ y.1) (λ u. absurd (omega (arith, u.0, y.1, i, p.peeled.standing.over))) (slice_went d.slice v i), y.2)))
            (p.peeled.went v i))
            (λ t. let stays : (col b x v ≡ r → ⊥) → col b x₂ v ≡ col b x v =
            λ o. ⊎_elim (λ y. ⊎_elim (λ u. u ∙ y) (λ u. absurd (o (sym y ∙ u.0))) (slice_went d.slice v i)) (λ y. absurd (o y.0)) (p.peeled.went v i) in
            inr (
              t.0,
              ⊎_elim
                  (λ y. inl (stays (λ q. omega (arith, q, y.0, i, p.peeled.standing.over)) ∙ y.0, y.1))
                  (λ y. let q = stays (λ q. omega (arith, q, y.1, z.most, cuts_few, h, a.under)) in inr (omega (arith, q, y.0), omega (arith, q, y.1))) t.1,
            ))
            (z.went v i);
        kept = λ v i o.
            let f = z.kept v i o in
            let o₁ : col b x v ≡ r → ⊥ = λ q. ⊎_elim (λ t. o (sym t ∙ q)) (λ t. o t.0) (z.went v i) in
            let f₁ = p.peeled.kept v i o₁ in
            let f₂ = d.kept v i (λ q. o₁ (rest₁ v i q)) in
            (f₂.0 ∙ f₁.0 ∙ f.0, f₂.1 ∙ f₁.1 ∙ f.1);
        least = omega (arith, z.least);
        most = omega (arith, z.most, p.peeled.more, h);
        room = omega (arith, d.room, p.peeled.room, z.room);
        inside = touched_more z.inside (touched_more p.peeled.inside d.inside);
      }

  pub cuts_all : {l e s : ℕ} {x : List ℕ} → Cuts g b r top w l e s x → e ≤ l → Done g b r top w x s
  cuts_all {l} {e} {s} {x} z h = record {
    places = l;
    seeds = e;
    cuts = z;
    none = λ v i c. let (y, j, q) = z.listing.standing.cover v (i, c) in let (k, d, f, _) = z.listing.listed y j in omega (arith, d, f, h);
  }

-- two sets that do not meet, inside a third
pub many_apart : (f h k : ℕ → Bool) (n : ℕ) → ((i : ℕ) → i < n → T (f i) → T (k i) × (T (h i) → ⊥)) → ((i : ℕ) → i < n → T (h i) → T (k i)) → many f n + many h n ≤ many k n
unfolding many
many_apart f h k zero p q = omega arith
many_apart f h k (suc n) p q = go (f n) (h n) (k n) (p n (omega arith)) (q n (omega arith)) (many_apart f h k n (λ i l. p i (omega arith)) (λ i l. q i (omega arith)))
  where
    go : (a b c : Bool) → (T a → T c × (T b → ⊥)) → (T b → T c) → many f n + many h n ≤ many k n → cond a 1 0 + many f n + (cond b 1 0 + many h n) ≤ cond c 1 0 + many k n
    go true true c x y z = absurd ((x tt).1 tt)
    go true false true x y z = omega arith
    go true false false x y z = absurd (x tt).0
    go false true true x y z = omega arith
    go false true false x y z = absurd (y tt)
    go false false true x y z = omega arith
    go false false false x y z = omega arith

-- THE PIVOT
module _ {g : Graph} {b p q top r : ℕ} {w : List ℕ} (a : SliceAsk g b p q top w) (rest : r ≡ 5 * g.n + 5) where
  ok : Valid g
  ok = a.ask.stage.tables.valid

  q_top : q < top
  q_top = omega (arith, a.ask.stage.owned.below p a.ask.start, a.ask.live)

  q_r : q < r
  q_r = omega (arith, q_top, top_le a.ask.stage, rest)

  -- what a column of labels, parts and slices holds is below r
  under_r : (v : ℕ) → v < g.n → col b w v < r
  under_r v h = omega (arith, a.ask.stage.owned.below v h, top_le a.ask.stage, rest)

  pub slice_start : StartAsk g (paint q r q r) 0 b p w
  slice_start = record {
    ask = record {
      laid = record { valid = ok; few = a.ask.stage.tables.few; below = omega (arith, a.ask.stage.tables.below); index = a.ask.stage.tables.fwd };
      small = a.ask.stage.tables.small;
      fits = omega (arith, a.ask.stage.long);
      still = paint_still q r q r (omega (arith, q_r)) (omega (arith, q_r)) (omega (arith, q_r)) (omega (arith, q_r));
    };
    start = a.ask.start;
  }

  module _ {w₁ : List ℕ} {k seen : ℕ} (f : Searched g (paint q r q r) b (only p) w w₁ k seen) where
    low_p : (v : ℕ) → only p v → v < g.n
    low_p v e = rw (← e) a.ask.start

    hit_f : (v : ℕ) → Hit g (paint q r q r) b (only p) w v → Fwd g (In g (col b w) q) (only p) v
    hit_f = fwd_low ok low_p (λ v h o. (h, ⊎_elim (λ t. t) (λ t. t) (paint_opens q r q r (col b w v) o)))

    f_hit : (v : ℕ) → Fwd g (In g (col b w) q) (only p) v → Hit g (paint q r q r) b (only p) w v
    f_hit = fwd_low ok low_p (λ v h o t. omega (arith, q_r, ap (paint q r q r) o.1 ∙ paint_first q r q r, o.1, t))

    one : (v : ℕ) → v < g.n → (Fwd g (In g (col b w) q) (only p) v × (col b w v ≡ q) × (col b w₁ v ≡ r))
        ⊎ ((Fwd g (In g (col b w) q) (only p) v → ⊥) × (col b w₁ v ≡ col b w v))
    one v h = ⊎_elim
        (λ t. let y = hit_f v t.0 in let c = (chain_last y.2.1).1 in inl (y, c, t.1 ∙ ap (paint q r q r) c ∙ paint_first q r q r))
        (λ t. inr (λ y. t.0 (f_hit v y), t.1))
        (f.each v h)

    was : (v : ℕ) → v < g.n → col b w₁ v ≡ r → Fwd g (In g (col b w) q) (only p) v × (col b w v ≡ q)
    was v h e = ⊎_elim (λ t. (t.0, t.1)) (λ t. absurd (omega (arith, t.1, e, under_r v h))) (one v h)

    p_in : col b w₁ p ≡ r
    p_in = ⊎_elim (λ t. t.2) (λ t. absurd (t.0 (p, refl, (zero, stay (a.ask.start, a.ask.live))))) (one p a.ask.start)

    same : (j : ℕ) → (j < b) ⊎ (chains_at g.n b ≤ j) → get_or w₁ j 0 ≡ get_or w j 0
    same j (inl h) = f.kept.low j h
    same j (inr h) = f.kept.high j (omega arith)

    -- nothing of F was marked
    flag₁ : (v : ℕ) → v < g.n → col b w₁ v ≡ r → flag g.n b w₁ v ≡ 0
    flag₁ v h c = same (marks_at g.n b + v) (inr (omega arith)) ∙ (a.untouched v h (was v h c).1).0

    room₁ : unmarked g.n b r w₁ + held g.n b q w₁ ≤ held g.n b q w
    room₁ = many_apart (λ u. eqb (col b w₁ u) r && eqb (flag g.n b w₁ u) 0) (λ u. eqb (col b w₁ u) q) (λ u. eqb (col b w u) q) g.n
        (λ u h t. let c = eqb→eq (col b w₁ u) r (and_l (eqb (col b w₁ u) r) _ t) in
        (eq_t (col b w u) q (was u h c).1, λ y. omega (arith, c, eqb→eq (col b w₁ u) q y, q_r)))
        (λ u h t. let c = eqb→eq (col b w₁ u) q t in
        eq_t (col b w u) q (⊎_elim (λ y. y.1) (λ y. sym y.1 ∙ c) (one u h)))

    few₁ : unmarked g.n b r w₁ ≤ g.n
    few₁ = many_le (λ u. eqb (col b w₁ u) r && eqb (flag g.n b w₁ u) 0) g.n

    pub slice_mark : MarkAsk g.n b p r 0 w₁
    slice_mark = record { low = a.ask.start; small = a.ask.stage.tables.small; long = omega (arith, a.ask.stage.long, f.kept.long); room = λ h t. omega (arith, a.ask.start) }

    module _ {w₂ : List ℕ} {e₁ : ℕ} (mk : Mark g.n b p r 0 w₁ w₂ e₁) where
      m : Marked g.n b r w₁ 0 w₂ e₁ (λ v. v ≡ p)
      m = mark_step g.n b r w₁ 0 p slice_mark w₂ e₁ mk

      e_one : e₁ ≡ 1
      e_one = ⊎_elim (λ t. t.3) (λ t. absurd (t.0 p_in (flag₁ p a.ask.start p_in))) mk

      col₂ : (v : ℕ) → v < g.n → col b w₂ v ≡ col b w₁ v
      col₂ v h = m.low (b + v) (omega arith)

      owned₂ : Owned g (col b w₂) (suc r)
      owned₂ = record {
        whole = λ u v h s. col₂ u h ∙ search_whole f ok low_p a.ask.stage.owned.whole u v h s ∙ sym (col₂ v (same_low ok s h));
        right = λ v h t. ⊎_elim (λ y. absurd (omega (arith, col₂ v h, y.2, t, q_r, a.ask.part)))
            (λ y. let e = col₂ v h ∙ y.1 in rw e (a.ask.stage.owned.right v h (rw e at t))) (one v h);
        below = λ v h. ⊎_elim (λ y. omega (arith, col₂ v h, y.2)) (λ y. omega (arith, col₂ v h, y.1, under_r v h)) (one v h);
      }

      cur₂ : (v : ℕ) → v < g.n → cur (into g b) w₂ v ≡ cur (into g b) w v
      cur₂ v h = m.low (into g b + v) (omega arith) ∙ same (into g b + v) (inr (omega arith))

      low₂ : (j : ℕ) → j < b → get_or w₂ j 0 ≡ get_or w j 0
      low₂ j h = m.low j (omega arith) ∙ same j (inl h)

      tables₂ : Tables g b w₂
      tables₂ = tables_kept g b w w₂ low₂ a.ask.stage.tables

      begins : (v : ℕ) → v < g.n → col b w₂ v ≡ r → cur (into g b) w₂ v ≡ first (rev g) v
      begins v h c = cur₂ v h ∙ (a.untouched v h (was v h (sym (col₂ v h) ∙ c)).1).1

      side₂ : Side (rev g) (g.n + 1 + edges g) (into g b) b r w₂
      side₂ = record {
        laid = record { valid = valid_rev ok; few = a.ask.stage.tables.few; below = omega (arith, a.ask.stage.tables.below); index = tables₂.bwd };
        cursors = record {
          least = λ v h c. omega (arith, begins v h c);
          most = λ v h c. omega (arith, begins v h c, start_mono g.counted g.tgt (edges g) v (suc v) (omega arith));
          passed = λ v j h c x y. absurd (omega (arith, x, y, begins v h c));
        };
      }

      seed_p : Seeds g.n b r w₂ p
      seed_p = (a.ask.start, col₂ p a.ask.start ∙ p_in, m.done p a.ask.start refl p_in)

      cover₂ : (v : ℕ) → Rest g.n b r w₂ v → Fwd g (Rest g.n b r w₂) (Seeds g.n b r w₂) v
      cover₂ v (h, c) =
          let (x, i, t) = fwd_covers v (was v h (sym (col₂ v h) ∙ c)).0 in
          let there : (u : ℕ) → Fwd g (In g (col b w) q) (only p) u → Rest g.n b r w₂ u =
          λ u y. let hu = (chain_last y.2.1).0 in (hu, col₂ u hu ∙ ⊎_elim (λ d. d.2) (λ d. absurd (d.0 y)) (one u hu)) in
          (x, rw (← i) seed_p, reach_wider {P = Fwd g (In g (col b w) q) (only p)} {Q = Rest g.n b r w₂} there t)

      pub slice_cuts : CutsAsk g b r top w₂
      slice_cuts = record {
        listing = record {
          standing = record {
            tables = tables₂;
            long = omega (arith, a.ask.stage.long, m.long, f.kept.long);
            over = omega (arith, rest);
            fits = omega (arith, rest, a.ask.stage.tables.small);
            owned = owned₂;
            side = side₂;
            cover = cover₂;
          };
          order = omega arith;
          room = omega (arith, m.moved, e_one, few₁);
          member = λ i h. m.fresh i (omega arith) (omega (arith, e_one));
          listed = λ v (h, c, o). ⊎_elim
              (λ t. absurd (o (t ∙ flag₁ v h (sym (col₂ v h) ∙ c))))
              (λ t. let (i, x, y, s) = t.2 in (i, x, omega (arith, y, e_one), s)) (m.each v h);
          marks = λ i h. m.marks i (omega arith) (omega (arith, e_one));
        };
        part = omega (arith, a.ask.part, q_top);
        under = omega (arith, top_le a.ask.stage, rest);
      }

      module _ {w₃ : List ℕ} {s : ℕ} (d : Done g b r top w₂ w₃ s) where
        z : Cuts g b r top w₂ d.places d.seeds s w₃
        z = d.cuts

        -- what became of a vertex
        ends : (v : ℕ) → v < g.n → ((col b w v ≡ q) × (((col b w₃ v ≡ v) × Alone g v) ⊎ ((top ≤ col b w₃ v) × (col b w₃ v < s)))) ⊎ (col b w₃ v ≡ col b w v)
        ends v h = ⊎_elim
            (λ t. ⊎_elim (λ y. absurd (d.none v h (t ∙ col₂ v h ∙ y.2))) (λ y. inr (t ∙ col₂ v h ∙ y.1)) (one v h))
            (λ t. inl ((was v h (sym (col₂ v h) ∙ t.0)).1, t.1))
            (z.went v h)

        keep : (v : ℕ) → v < g.n → col b w₃ v ≡ q → (col b w v ≡ q) × (col b w₂ v ≡ r → ⊥)
        keep v h c = ⊎_elim
            (λ t. absurd (⊎_elim (λ y. omega (arith, y.0, c, h, a.ask.part)) (λ y. omega (arith, y.0, c, q_top)) t.1))
            (λ t. (sym t ∙ c, λ e. ⊎_elim (λ y. omega (arith, y, e, c, q_r)) (λ y. ⊎_elim (λ i. omega (arith, i.0, c, h, a.ask.part)) (λ i. omega (arith, i.0, c, q_top)) y.1) (z.went v h)))
            (ends v h)

        method : Obf g p q top (col b w) (col b w₃) s
        method = record {
          rest = r;
          first = col b w₂;
          marks = flag g.n b w₂;
          marks' = flag g.n b w₃;
          fresh = λ v h c. omega (arith, under_r v h, c);
          forward = λ v h. ⊎_elim (λ t. inl (t.0, col₂ v h ∙ t.2)) (λ t. inr (t.0, col₂ v h ∙ t.1)) (one v h);
          seed = λ v (h, c). (
            λ o. sym (m.only v h (flag₁ v h (sym (col₂ v h) ∙ c)) o),
            λ e. rw (← e) seed_p.2,
          );
          slicing = z.steps;
          done = λ v (h, c). d.none v h c;
        }

        pub slice_done : Sliced g b p q top w w₃ s
        slice_done = record {
          method = method;
          owned = record {
            whole = z.listing.standing.owned.whole;
            right = z.listing.standing.owned.right;
            below = λ v h. ⊎_elim (λ t. ⊎_elim (λ y. omega (arith, y.0, h, a.ask.part, q_top, z.least)) (λ y. y.1) t.1) (λ t. omega (arith, t, a.ask.stage.owned.below v h, z.least)) (ends v h);
          };
          others = λ v h o. ⊎_elim (λ t. absurd (o t.0)) (λ t. t) (ends v h);
          ours = λ v h c. ⊎_elim (λ t. inr t.1) (λ t. inl (t ∙ c)) (ends v h);
          pivot = λ c. (keep p a.ask.start c).1 (col₂ p a.ask.start ∙ p_in);
          least = z.least;
          room = omega (
            arith,
            z.most,
            z.listing.order,
            z.room,
            m.moved,
            e_one,
            room₁,
            many_mono (λ u. eqb (col b w₃ u) q) (λ u. eqb (col b w₁ u) q) g.n (λ u h t.
                let c = eqb→eq (col b w₃ u) q t in
                eq_t (col b w₁ u) q (⊎_elim (λ y. absurd ((keep u h c).1 (col₂ u h ∙ y.2))) (λ y. y.1 ∙ (keep u h c).0) (one u h))),
          );
          untouched = λ v h c.
              let i = keep v h c in
              let t = z.kept v h i.1 in
              let u = a.untouched v h i.0 in (
                t.0 ∙ ⊎_elim (λ y. y ∙ same (marks_at g.n b + v) (inr (omega arith))) (λ y. absurd (i.1 (col₂ v h ∙ y.0))) (m.each v h) ∙ u.0,
                t.1 ∙ cur₂ v h ∙ u.1,
              );
          inside = touched_more (record {
            low = low₂;
            mid = λ j h y. m.low j (omega arith) ∙ same j (inr h);
            high = λ j h. m.high j h ∙ same j (inr (omega arith));
            long = m.long ∙ f.kept.long;
          }) z.inside;
        }

        -- afterwards nothing enters or leaves the part
        pub slice_rest : (v : ℕ) → v < g.n → (col b w₃ v ≡ col b w₁ v) ⊎ ((col b w₁ v ≡ q → ⊥) × (col b w₃ v ≡ q → ⊥))
        slice_rest v h = ⊎_elim (λ t. inl (t ∙ col₂ v h)) (λ t. inr (λ e. omega (arith, col₂ v h, t.0, e, q_r), λ e. (keep v h e).1 t.0)) (z.went v h)
