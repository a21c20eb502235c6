-- One pivot, from its two searches.
use Prim.Native.Nat.{ℕ, ◌+◌, ◌≤◌, ◌<◌}
use native.Mathlib.Omega.{arith}
use native.Mathlib.Decide.{ℕ_discrete}
use mathlib.Core.Path.{◌≡◌, sym, ap, ◌∙◌}
use mathlib.Core.Logic.{◌⊎◌, inl, inr, ⊎_elim}
use mathlib.Core.List.{List}
use Rattle.graph.specs.Graph.{Graph, rev, Part, Valid, Same, IsLabel, edges}
use Rattle.graph.specs.Parts.{Closed, Fwd, Bwd, only}
use Rattle.graph.specs.Apart.{In, Falls, shared, rest_f, rest_b, neither}
use Rattle.graph.proofs.Chains.{valid_rev, chain_last, same_refl, same_low}
use Rattle.graph.proofs.Decompose.{shared_is_component}
use Rattle.graph.proofs.Method.{component_label, bwd_rev}
use Rattle.memory.specs.Decomposer.{col, que}
use Rattle.memory.proofs.Memory.{framed_more}
use Rattle.paint.specs.Colours.{paint, Opens, Hit}
use Rattle.paint.specs.Paint.{StartAsk, Searched}
use Rattle.paint.proofs.Painting.{paint_first, paint_second, paint_still, paint_opens}
use Rattle.paint.proofs.Components.{fwd_low, search_whole, search_whole_back}
use Rattle.split.specs.Split.{Lowest, Queued, Named, LabelAsk, PivotAsk, Split}
use Rattle.split.proofs.Same.{tables_kept}

-- THE PIVOT
module _ {g : Graph} {b p q f : ℕ} {w : List ℕ} (a : PivotAsk g b p q f w) where
  qf : q < f
  qf = omega (arith, a.stage.owned.below p a.start, a.live)

  ok : Valid g
  ok = a.stage.tables.valid

  start_low : (v : ℕ) → only p v → v < g.n
  start_low v e = rw e at a.start

  pub first_ask : StartAsk g (paint q f q f) 0 b p w
  first_ask = record {
    ask = record {
      laid = record { valid = ok; few = a.stage.tables.few; below = omega (arith, a.stage.tables.below); index = a.stage.tables.fwd };
      small = a.stage.tables.small;
      fits = omega (arith, a.stage.long);
      still = paint_still q f q f (omega (arith, qf)) (omega (arith, qf)) (omega (arith, qf)) (omega (arith, qf));
    };
    start = a.start;
  }

  module _ {w₁ : List ℕ} {k₁ seen₁ : ℕ} (s : Searched g (paint q f q f) b (only p) w w₁ k₁ seen₁) where
    f_in : (v : ℕ) → Fwd g (In g (col b w) q) (only p) v → In g (col b w) q v
    f_in v (x, i, r) = chain_last r.1

    b_in : (v : ℕ) → Fwd (rev g) (In g (col b w) q) (only p) v → In g (col b w) q v
    b_in v (x, i, r) = chain_last r.1

    hit_f : (v : ℕ) → Hit g (paint q f q f) b (only p) w v → Fwd g (In g (col b w) q) (only p) v
    hit_f = fwd_low ok start_low (λ v h o. (h, ⊎_elim (λ t. t) (λ t. t) (paint_opens q f q f (col b w v) o)))

    f_hit : (v : ℕ) → Fwd g (In g (col b w) q) (only p) v → Hit g (paint q f q f) b (only p) w v
    f_hit = fwd_low ok start_low (λ v h o t. omega (arith, qf, ap (paint q f q f) o.1 ∙ paint_first q f q f, o.1, t))

    -- the colours after the first search
    pub one : (v : ℕ) → v < g.n → (Fwd g (In g (col b w) q) (only p) v × (col b w₁ v ≡ f)) ⊎ ((Fwd g (In g (col b w) q) (only p) v → ⊥) × (col b w₁ v ≡ col b w v))
    one v h = ⊎_elim
        (λ t. let y = hit_f v t.0 in inl (y, t.1 ∙ ap (paint q f q f) (f_in v y).1 ∙ paint_first q f q f))
        (λ t. inr (λ y. t.0 (f_hit v y), t.1))
        (s.each v h)

    pub second_ask : StartAsk (rev g) (paint q (f + 1) f (f + 2)) (g.n + 1 + edges g) b p w₁
    second_ask = record {
      ask = record {
        laid = record {
          valid = valid_rev ok;
          few = a.stage.tables.few;
          below = omega (arith, a.stage.tables.below);
          index = (tables_kept g b w w₁ s.kept.low a.stage.tables).bwd;
        };
        small = a.stage.tables.small;
        fits = omega (arith, a.stage.long, s.kept.long);
        still = paint_still q (f + 1) f (f + 2) (omega (arith, qf)) (omega arith) (omega (arith, qf)) (omega arith);
      };
      start = a.start;
    }

    module _ {w₂ : List ℕ} {k₂ seen₂ : ℕ} (s₂ : Searched (rev g) (paint q (f + 1) f (f + 2)) b (only p) w₁ w₂ k₂ seen₂) where
      open₂ : (v : ℕ) → v < g.n → Opens (paint q (f + 1) f (f + 2)) (col b w₁ v) → In g (col b w) q v
      open₂ v h o = ⊎_elim (λ x. (h, (f_in v x.0).1))
          (λ x. ⊎_elim (λ t. (h, sym x.1 ∙ t)) (λ t. absurd (omega (arith, a.stage.owned.below v h, x.1, t))) (paint_opens q (f + 1) f (f + 2) (col b w₁ v) o)) (one v h)

      open₂' : (v : ℕ) → v < g.n → In g (col b w) q v → Opens (paint q (f + 1) f (f + 2)) (col b w₁ v)
      open₂' v h y t = ⊎_elim
          (λ x. omega (arith, ap (paint q (f + 1) f (f + 2)) x.1 ∙ paint_second q (f + 1) f (f + 2) (omega (arith, qf)), x.1, t))
          (λ x. omega (arith, qf, ap (paint q (f + 1) f (f + 2)) (x.1 ∙ y.1) ∙ paint_first q (f + 1) f (f + 2), x.1, y.1, t)) (one v h)

      hit_b : (v : ℕ) → Hit (rev g) (paint q (f + 1) f (f + 2)) b (only p) w₁ v → Fwd (rev g) (In g (col b w) q) (only p) v
      hit_b = fwd_low (valid_rev ok) start_low open₂

      b_hit : (v : ℕ) → Fwd (rev g) (In g (col b w) q) (only p) v → Hit (rev g) (paint q (f + 1) f (f + 2)) b (only p) w₁ v
      b_hit = fwd_low (valid_rev ok) start_low (λ v h y. open₂' v h y)

      abbrev F : Part
      F v = Fwd g (In g (col b w) q) (only p) v

      abbrev B : Part
      B v = Bwd g (In g (col b w) q) (only p) v

      abbrev FB : Part
      FB v = F v × B v

      -- the rest of F has the colour f, the rest of B f + 1
      abbrev Rest : ℕ → ℕ → Type 0
      Rest v c = (F v × (B v → ⊥) × (c ≡ f)) ⊎ ((F v → ⊥) × B v × (c ≡ f + 1))

      in_low : (v : ℕ) → FB v → v < g.n
      in_low v (x, y) = (f_in v x).0

      rest_in : (v c : ℕ) → Rest v c → col b w v ≡ q
      rest_in v c y = ⊎_elim (λ z. (f_in v z.0).1) (λ z. (b_in v ((bwd_rev v).0 z.1)).1) y

      rest_new : (v c : ℕ) → Rest v c → (f ≤ c) × (c < f + 2)
      rest_new v c y = ⊎_elim (λ z. (omega (arith, z.2), omega (arith, z.2))) (λ z. (omega (arith, z.2), omega (arith, z.2))) y

      missed : (v : ℕ) → (Hit (rev g) (paint q (f + 1) f (f + 2)) b (only p) w₁ v → ⊥) → B v → ⊥
      missed v o y = o (b_hit v ((bwd_rev v).0 y))

      -- the colours after the second search
      meet : (v : ℕ) → FB v → col b w₂ v ≡ f + 2
      meet v (x, y) =
          let h = in_low v (x, y) in
          let i = b_hit v ((bwd_rev v).0 y) in
          let c₁ : col b w₁ v ≡ f = ⊎_elim (λ t. t.1) (λ t. absurd (t.0 x)) (one v h) in
          ⊎_elim (λ t. t.1 ∙ ap (paint q (f + 1) f (f + 2)) c₁ ∙ paint_second q (f + 1) f (f + 2) (omega (arith, qf))) (λ t. absurd (t.0 i)) (s₂.each v h)

      two : (v : ℕ) → v < g.n → (FB v × (col b w₂ v ≡ f + 2)) ⊎ (Rest v (col b w₂ v) ⊎ ((F v → ⊥) × (B v → ⊥) × (col b w₂ v ≡ col b w v)))
      two v h = ⊎_elim
          (λ x. ⊎_elim
          (λ y. let z : FB v = (x.0, (bwd_rev v).1 (hit_b v y.0)) in inl (z, meet v z))
          (λ y. inr (inl (inl (x.0, missed v y.0, y.1 ∙ x.1)))) (s₂.each v h))
          (λ x. ⊎_elim
          (λ y. let z = hit_b v y.0 in
          inr (inl (inr (x.0, (bwd_rev v).1 z, y.1 ∙ ap (paint q (f + 1) f (f + 2)) (x.1 ∙ (b_in v z).1) ∙ paint_first q (f + 1) f (f + 2)))))
          (λ y. inr (inr (x.0, missed v y.0, y.1 ∙ x.1))) (s₂.each v h))
          (one v h)

      back : (v : ℕ) → v < g.n → col b w₂ v ≡ f + 2 → FB v
      back v h e = ⊎_elim (λ x. x.0)
          (λ x. absurd (⊎_elim (λ y. omega (arith, e, (rest_new v (col b w₂ v) y).1)) (λ y. omega (arith, e, y.2, a.stage.owned.below v h)) x)) (two v h)

      pub queued : Queued g.n b w₂ k₂
      queued = record { member = λ i h. (s₂.member i h).0; few = s₂.few; small = a.stage.tables.small; fits = omega (arith, a.stage.long, s.kept.long, s₂.kept.long) }

      pub label_ask : LabelAsk g.n b w₂ k₂ (f + 2)
      label_ask = record { queued = queued; part = omega (arith, a.part, qf) }

      closed : Closed g (In g (col b w) q)
      closed u v t (h, e) = (same_low ok t h, sym (a.stage.owned.whole u v h t) ∙ e)

      p_in : FB p
      p_in = (shared_is_component closed p (a.start, a.live) p).1 same_refl

      whole₂ : (u v : ℕ) → u < g.n → Same g u v → col b w₂ u ≡ col b w₂ v
      whole₂ = search_whole_back s₂ ok start_low (search_whole s ok start_low a.stage.owned.whole)

      module _ {l : ℕ} (lo : Lowest g.n b w₂ k₂ (f + 2) l) where
        listed : (v : ℕ) → FB v → (i : ℕ) × (i < k₂) × (que g.n b w₂ i ≡ v)
        listed v x = s₂.listed v (in_low v x) (b_hit v ((bwd_rev v).0 x.1))

        least : (v : ℕ) → FB v → l ≤ v
        least v x = let i = listed v x in omega (arith, lo.least i.0 i.1 (ap (col b w₂) i.2 ∙ meet v x), i.2)

        pub l_low : l < g.n
        l_low = omega (arith, least p p_in, a.start)

        l_in : FB l
        l_in = ⊎_elim (λ t. absurd (omega (arith, t, l_low))) (λ t. back l l_low t.3) lo.found

        module _ {w₃ : List ℕ} (nm : Named g.n b w₂ k₂ (f + 2) l w₃) where
          hit₃ : (v : ℕ) → v < g.n → col b w₂ v ≡ f + 2 → col b w₃ v ≡ l
          hit₃ v h e = ⊎_elim (λ t. let i = listed v (back v h e) in absurd (nm.done i.0 i.1 (ap (col b w₃) i.2 ∙ t ∙ e))) (λ t. t.1) (nm.each v h)

          miss₃ : (v : ℕ) → v < g.n → (col b w₂ v ≡ f + 2 → ⊥) → col b w₃ v ≡ col b w₂ v
          miss₃ v h o = ⊎_elim (λ t. t) (λ t. absurd (o t.0)) (nm.each v h)

          -- a vertex has its label, or one of the new parts, or what it had
          ends : (v : ℕ) → v < g.n → (FB v × (col b w₃ v ≡ l)) ⊎ (Rest v (col b w₃ v) ⊎ ((F v → ⊥) × (B v → ⊥) × (col b w₃ v ≡ col b w v)))
          ends v h = ⊎_elim
              (λ x. inl (x.0, hit₃ v h x.1))
              (λ x. inr (⊎_elim
              (λ y. inl (rw (miss₃ v h (λ e. omega (arith, e, (rest_new v (col b w₂ v) y).1))) y))
              (λ y. inr (y.0, y.1, miss₃ v h (λ e. omega (arith, e, y.2, a.stage.owned.below v h)) ∙ y.2)) x))
              (two v h)

          label₃ : (v : ℕ) → FB v → col b w₃ v ≡ l → IsLabel g v (col b w₃ v)
          label₃ v x e = rw e (component_label closed p (a.start, a.live) v l x l_in least)

          others₃ : (v : ℕ) → v < g.n → (col b w v ≡ q → ⊥) → col b w₃ v ≡ col b w v
          others₃ v h o = ⊎_elim (λ x. absurd (o (f_in v x.0.0).1)) (λ x. ⊎_elim (λ y. absurd (o (rest_in v (col b w₃ v) y))) (λ y. y.2) x) (ends v h)

          falls : (v : ℕ) → In g (col b w) q v → Falls g p q f (col b w) v (col b w₃ v)
          falls v (h, e) = ⊎_elim
              (λ x. shared x.0.0 x.0.1 (label₃ v x.0 x.1))
              (λ x. ⊎_elim (λ y. ⊎_elim (λ z. rest_f z.0 z.1 z.2) (λ z. rest_b z.0 z.1 z.2) y) (λ y. neither y.0 y.1 (y.2 ∙ e)) x)
              (ends v h)

          whole₃ : (u v : ℕ) → u < g.n → Same g u v → col b w₃ u ≡ col b w₃ v
          whole₃ u v h t = go (ℕ_discrete (col b w₂ u) (f + 2))
            where
              e : col b w₂ u ≡ col b w₂ v
              e = whole₂ u v h t

              go : Dec (col b w₂ u ≡ f + 2) → col b w₃ u ≡ col b w₃ v
              go (yes x) = hit₃ u h x ∙ sym (hit₃ v (same_low ok t h) (sym e ∙ x))
              go (no x) = miss₃ u h x ∙ e ∙ sym (miss₃ v (same_low ok t h) (λ y. x (e ∙ y)))

          pivot₃ : col b w₃ p ≡ l
          pivot₃ = hit₃ p a.start (meet p p_in)

          pub split_all : Split g b p q f w w₃
          split_all = record {
            owned = record {
              whole = whole₃;
              right = λ v h t. ⊎_elim
                  (λ x. label₃ v x.0 x.1)
                  (λ x. ⊎_elim
                  (λ y. absurd (omega (arith, (rest_new v (col b w₃ v) y).0, t, qf, a.part)))
                  (λ y. rw y.2 (a.stage.owned.right v h (omega (arith, y.2, t)))) x)
                  (ends v h);
              below = λ v h. ⊎_elim (λ x. omega (arith, x.1, l_low, qf, a.part))
                  (λ x. ⊎_elim (λ y. (rest_new v (col b w₃ v) y).1) (λ y. omega (arith, y.2, a.stage.owned.below v h)) x) (ends v h);
            };
            ours = λ v h e. ⊎_elim (λ x. inr (inl (omega (arith, x.1, l_low))))
                (λ x. ⊎_elim (λ y. inr (inr (rest_new v (col b w₃ v) y).0)) (λ y. inl (y.2 ∙ e)) x) (ends v h);
            pivot = omega (arith, pivot₃, l_low);
            one = λ v h t. ⊎_elim (λ x. inr (x.1 ∙ sym pivot₃))
                (λ x. ⊎_elim (λ y. absurd (omega (arith, (rest_new v (col b w₃ v) y).0, t, qf, a.part))) (λ y. inl y.2) x) (ends v h);
            method = record { ours = falls; others = others₃ };
            kept = framed_more (framed_more s.kept s₂.kept) (record { low = nm.low; high = λ j h. nm.high j (omega arith); long = nm.long });
          }
