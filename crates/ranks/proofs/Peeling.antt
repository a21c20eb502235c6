-- Peeling, step by step: one edge goes; when nothing is left in the queue, all have gone or some stay.
use Prim.Native.Nat.{ℕ, ◌+◌, ◌≤◌, ◌<◌}
use native.Mathlib.Omega.{arith}
use native.Mathlib.Decide.{ℕ_discrete}
use mathlib.Core.Path.{◌≡◌, refl, sym, ap, ◌∙◌}
use mathlib.Core.Logic.{◌⊎◌, inl, inr, by_cases}
use mathlib.Core.Bool.{Bool, true, false, not, ◌||◌, ◌&&◌}
use mathlib.Core.List.{List}
use lib.Dec.{T, eqb, eqb→eq}
use borrow.Author.Tests.{eq-eqb, ne_eqb, eqb-true}
use Rattle.graph.specs.Graph.{Graph, Valid, edges, from}
use Rattle.graph.specs.Numbers.{many}
use Rattle.graph.proofs.Tests.{or_left, or_split}
use Rattle.graph.proofs.Counts.{many_le}
use Rattle.graph.proofs.Ranges.{many_ext}
use Rattle.ranks.specs.Ranks.{lead, rise, awaited, Peeling, extend}
use Rattle.ranks.proofs.Counting.{many_drop, many_all}

module _ (done : ℕ → Bool) (e x : ℕ) where
  pub extend_other : (x ≡ e → ⊥) → extend done e x ≡ done x
  extend_other o = rw (ne_eqb x e o) (or_false (done x))
    where
      or_false : (b : Bool) → (b || false) ≡ b
      or_false true = refl
      or_false false = refl

  pub extend_here : x ≡ e → extend done e x ≡ true
  extend_here q = rw (eq-eqb x e q) (or_true (done x))
    where
      or_true : (b : Bool) → (b || true) ≡ true
      or_true true = refl
      or_true false = refl

  pub extend_old : T (done x) → T (extend done e x)
  extend_old t = or_left (done x) (eqb x e) t

  pub extend_split : T (extend done e x) → T (done x) ⊎ (x ≡ e)
  extend_split t = go (or_split (done x) (eqb x e) t)
    where
      go : T (done x) ⊎ T (eqb x e) → T (done x) ⊎ (x ≡ e)
      go (inl t) = inl t
      go (inr t) = inr (eqb→eq x e t)

module _ (g : Graph) (lab : List ℕ) (in_edge : ℕ → ℕ) (done : ℕ → Bool) (e : ℕ) (m : e < edges g) (fresh : done e ≡ false) where
  -- the vertex that waits for e waits for one edge less
  pub awaited_less : (v : ℕ) → lead g lab in_edge e ≡ v → awaited g lab in_edge done v ≡ awaited g lab in_edge (extend done e) v + 1
  unfolding awaited
  awaited_less v q =
      many_drop (λ x. eqb (lead g lab in_edge x) v && not (done x)) (λ x. eqb (lead g lab in_edge x) v && not (extend done e x)) (edges g) e m
      (rw (eq-eqb (lead g lab in_edge e) v q, fresh))
      (rw (extend_here done e e refl) (and_false (eqb (lead g lab in_edge e) v)))
      (λ x l o. rw (extend_other done e x o))
    where
      and_false : (b : Bool) → (b && false) ≡ false
      and_false true = refl
      and_false false = refl

  -- any other waits for as many
  pub awaited_same : (v : ℕ) → (lead g lab in_edge e ≡ v → ⊥) → awaited g lab in_edge done v ≡ awaited g lab in_edge (extend done e) v
  unfolding awaited
  awaited_same v o =
      many_ext (λ x. eqb (lead g lab in_edge x) v && not (done x)) (λ x. eqb (lead g lab in_edge x) v && not (extend done e x)) (edges g)
      (λ x l. by_cases (ℕ_discrete x e) (λ q. let z : lead g lab in_edge x ≡ v → ⊥ = rw q o in rw (ne_eqb (lead g lab in_edge x) v z)) (λ p. rw (extend_other done e x p)))

module _ {g : Graph} (ok : Valid g) (lab : List ℕ) (in_edge : ℕ → ℕ) {done : ℕ → Bool} {count rank queue : ℕ → ℕ} {k top : ℕ}
    (p : Peeling g lab in_edge done count rank queue k top) (e : ℕ) (m : e < edges g) (fresh : done e ≡ false) (source : count (from g e) ≡ 0) where
  -- the edges that are gone then leave what waits for nothing
  source_of : (x : ℕ) → x < edges g → T (extend done e x) → count (from g x) ≡ 0
  source_of x l s = by (extend_split done e x s)
    where
      by : T (done x) ⊎ (x ≡ e) → count (from g x) ≡ 0
      by (inl s) = p.settled x l s
      by (inr z) = rw z source

  -- an edge that no vertex waits for goes
  pub goes_alone : lead g lab in_edge e ≡ g.n → Peeling g lab in_edge (extend done e) count rank queue k top
  goes_alone q =
      record {
        counts = λ v l. p.counts v l ∙ awaited_same g lab in_edge done e m fresh v (λ z. omega arith);
        member = p.member;
        listed = p.listed;
        once = p.once;
        size = p.size;
        settled = source_of;
        raised = λ x l t z. more x l z (extend_split done e x t);
        attained = λ v l. wider v (p.attained v l);
        bounded = p.bounded;
      }
    where
      more : (x : ℕ) → x < edges g → lead g lab in_edge x < g.n → T (done x) ⊎ (x ≡ e) → rank (from g x) + rise g lab x ≤ rank (lead g lab in_edge x)
      more x l z (inl t) = p.raised x l t z
      more x l z (inr y) = let w : lead g lab in_edge e < g.n = rw y at z in absurd (omega arith)

      wider : (v : ℕ) → (rank v ≡ 0) ⊎ ((x : ℕ) × (x < edges g) × T (done x) × (lead g lab in_edge x ≡ v) × (rank v ≡ rank (from g x) + rise g lab x))
          → (rank v ≡ 0) ⊎ ((x : ℕ) × (x < edges g) × T (extend done e x) × (lead g lab in_edge x ≡ v) × (rank v ≡ rank (from g x) + rise g lab x))
      wider v (inl z) = inl z
      wider v (inr (x, l, t, a, b)) = inr (x, l, extend_old done e x t, a, b)

  module _ (t : ℕ) (leads : lead g lab in_edge e ≡ t) (low : t < g.n) where
    -- t still waits, so it is not the source
    pub waits_yet : (count t ≡ 0 → ⊥)
    waits_yet q = omega (arith, p.counts t low, awaited_less g lab in_edge done e m fresh t leads)

    module _ (count' rank' queue' : ℕ → ℕ) (k' : ℕ)
        (less : count t ≡ count' t + 1) (others : (v : ℕ) → v < g.n → (v ≡ t → ⊥) → count' v ≡ count v)
        (up : rank t ≤ rank' t) (over : rank (from g e) + rise g lab e ≤ rank' t) (either : (rank' t ≡ rank t) ⊎ (rank' t ≡ rank (from g e) + rise g lab e))
        (still : (v : ℕ) → v < g.n → (v ≡ t → ⊥) → rank' v ≡ rank v)
        (front : (i : ℕ) → i < k → queue' i ≡ queue i)
        (push : ((count' t ≡ 0) × (k' ≡ k + 1) × (queue' k ≡ t)) ⊎ ((count' t ≡ 0 → ⊥) × (k' ≡ k)))
        (bound : rank (from g e) + rise g lab e ≤ top) where
      not_t : (v : ℕ) → count v ≡ 0 → (v ≡ t → ⊥)
      not_t v z q = waits_yet (rw q at z)

      source_still : (x : ℕ) → x < edges g → count (from g x) ≡ 0 → rank' (from g x) ≡ rank (from g x)
      source_still x l z = still (from g x) (ok.from_low x l) (not_t (from g x) z)

      zero_still : (v : ℕ) → v < g.n → count v ≡ 0 → count' v ≡ 0
      zero_still v l z = others v l (not_t v z) ∙ z

      new_counts : (v : ℕ) → v < g.n → count' v ≡ awaited g lab in_edge (extend done e) v
      new_counts v l = by_cases (ℕ_discrete v t)
          (λ q. rw q (omega (arith, p.counts t low, awaited_less g lab in_edge done e m fresh t leads)))
          (λ o. others v l o ∙ p.counts v l ∙ awaited_same g lab in_edge done e m fresh v (λ z. o (sym z ∙ leads)))

      old_member : (i : ℕ) → i < k → (queue' i < g.n) × (count' (queue' i) ≡ 0)
      old_member i l = let (a, b) = p.member i l in rw (front i l) (a, zero_still (queue i) a b)

      new_raised : (x : ℕ) → x < edges g → T (extend done e x) → lead g lab in_edge x < g.n → rank' (from g x) + rise g lab x ≤ rank' (lead g lab in_edge x)
      new_raised x l s z = rw (source_still x l (source_of x l s)) (by (extend_split done e x s) (ℕ_discrete (lead g lab in_edge x) t))
        where
          by : T (done x) ⊎ (x ≡ e) → Dec (lead g lab in_edge x ≡ t) → rank (from g x) + rise g lab x ≤ rank' (lead g lab in_edge x)
          by (inr y) _ = rw (y, leads) over
          by (inl s) (yes y) = let w : rank (from g x) + rise g lab x ≤ rank t = rw y at (p.raised x l s z) in rw y (omega arith)
          by (inl s) (no o) = rw (still (lead g lab in_edge x) z o) (p.raised x l s z)

      abbrev Way : ℕ → Type 0
      Way v = (rank' v ≡ 0) ⊎ ((x : ℕ) × (x < edges g) × T (extend done e x) × (lead g lab in_edge x ≡ v) × (rank' v ≡ rank' (from g x) + rise g lab x))

      kept_way : (v : ℕ) → rank' v ≡ rank v
          → (rank v ≡ 0) ⊎ ((x : ℕ) × (x < edges g) × T (done x) × (lead g lab in_edge x ≡ v) × (rank v ≡ rank (from g x) + rise g lab x)) → Way v
      kept_way v q (inl z) = inl (q ∙ z)
      kept_way v q (inr (x, l, s, a, b)) = inr (x, l, extend_old done e x s, a, q ∙ b ∙ ap (λ (y : ℕ). y + rise g lab x) (sym (source_still x l (p.settled x l s))))

      new_attained : (v : ℕ) → v < g.n → Way v
      new_attained v l = by_cases (ℕ_discrete v t) (λ q. rw q (here either)) (λ o. kept_way v (still v l o) (p.attained v l))
        where
          here : (rank' t ≡ rank t) ⊎ (rank' t ≡ rank (from g e) + rise g lab e) → Way t
          here (inl q) = kept_way t q (p.attained t low)
          here (inr q) =
              inr (e, m, rw (extend_here done e e refl) tt, leads, q ∙ ap (λ (y : ℕ). y + rise g lab e) (sym (source_still e m source)))

      new_bounded : (v : ℕ) → v < g.n → rank' v ≤ top
      new_bounded v l = by_cases (ℕ_discrete v t) (λ q. rw q (here either)) (λ o. rw (still v l o) (p.bounded v l))
        where
          here : (rank' t ≡ rank t) ⊎ (rank' t ≡ rank (from g e) + rise g lab e) → rank' t ≤ top
          here (inl q) = omega (arith, p.bounded t low)
          here (inr q) = omega arith

      same_size : (count' t ≡ 0 → ⊥) → many (λ v. eqb (count v) 0) g.n ≡ many (λ v. eqb (count' v) 0) g.n
      same_size o = many_ext _ _ g.n (λ v l. by_cases (ℕ_discrete v t)
          (λ q. rw (q, ne_eqb (count t) 0 waits_yet, ne_eqb (count' t) 0 o))
          (λ z. rw (others v l z)))

      one_more : count' t ≡ 0 → many (λ v. eqb (count' v) 0) g.n ≡ many (λ v. eqb (count v) 0) g.n + 1
      one_more z = many_drop (λ v. eqb (count' v) 0) (λ v. eqb (count v) 0) g.n t low (rw z) (ne_eqb (count t) 0 waits_yet) (λ v l o. rw (others v l o))

      abbrev Push : Type 0
      Push = ((count' t ≡ 0) × (k' ≡ k + 1) × (queue' k ≡ t)) ⊎ ((count' t ≡ 0 → ⊥) × (k' ≡ k))

      -- EDGE e GOES, AND t WITH IT IF IT WAITED FOR NO OTHER
      pub goes : Peeling g lab in_edge (extend done e) count' rank' queue' k' top
      goes =
          record {
            counts = new_counts;
            member = λ i l. members push i l;
            listed = λ v l z. lists push v l z;
            once = λ i j a b q. distinct push i j a b q;
            size = sizes push;
            settled = λ x l s. zero_still (from g x) (ok.from_low x l) (source_of x l s);
            raised = new_raised;
            attained = new_attained;
            bounded = new_bounded;
          }
        where
          members : Push → (i : ℕ) → i < k' → (queue' i < g.n) × (count' (queue' i) ≡ 0)
          members (inr (o, q)) i l = old_member i (omega arith)
          members (inl (z, q, y)) i l = by_cases (ℕ_discrete i k) (λ x. rw (x, y) (low, z)) (λ o. old_member i (omega arith))

          again : (v : ℕ) → v < g.n → count v ≡ 0 → k ≤ k' → (i : ℕ) × (i < k') × (queue' i ≡ v)
          again v l z f = let (i, a, b) = p.listed v l z in (i, omega arith, front i a ∙ b)

          lists : Push → (v : ℕ) → v < g.n → count' v ≡ 0 → (i : ℕ) × (i < k') × (queue' i ≡ v)
          lists (inr (o, q)) v l z = again v l (sym (others v l (λ y. o (rw y at z))) ∙ z) (omega arith)
          lists (inl (y, q, x)) v l z = by_cases (ℕ_discrete v t) (λ u. (k, omega arith, x ∙ sym u)) (λ o. again v l (sym (others v l o) ∙ z) (omega arith))

          old_once : (i j : ℕ) → i < j → j < k → queue' i ≡ queue' j → ⊥
          old_once i j a b q = p.once i j a b (sym (front i (omega arith)) ∙ q ∙ front j b)

          distinct : Push → (i j : ℕ) → i < j → j < k' → queue' i ≡ queue' j → ⊥
          distinct (inr (o, q)) i j a b x = old_once i j a (omega arith) x
          distinct (inl (y, q, z)) i j a b x = by_cases (ℕ_discrete j k)
              (λ u. not_t (queue i) (p.member i (omega arith)).1 (sym (front i (omega arith)) ∙ x ∙ ap queue' u ∙ z))
              (λ o. old_once i j a (omega arith) x)

          sizes : Push → k' ≡ many (λ v. eqb (count' v) 0) g.n
          sizes (inr (o, q)) = q ∙ p.size ∙ same_size o
          sizes (inl (z, q, y)) = omega (arith, p.size, one_more z)

    -- there is room for t in the queue
    pub room_left : k < g.n
    room_left = by_cases (ℕ_discrete k g.n)
        (λ q. absurd (eqb_no (many_all (λ v. eqb (count v) 0) g.n (sym p.size ∙ q) t low)))
        (λ o. omega (arith, p.size, many_le (λ v. eqb (count v) 0) g.n))
      where
        eqb_no : eqb (count t) 0 ≡ true → ⊥
        eqb_no q = waits_yet (eqb-true (count t) 0 q)
