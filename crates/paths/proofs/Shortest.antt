-- The path that is written is a shortest one of counted edges, by the smallest edges; 11 and 12 are given exactly where they apply.
use Prim.Native.Nat.{ℕ, zero, suc, ◌≤◌, ◌<◌}
use native.Mathlib.Omega.{arith}
use native.Mathlib.Nat.{suc-ne-zero}
use native.Mathlib.Decide.{ℕ_discrete, dec_lt}
use mathlib.Core.Path.{◌≡◌, sym, ap, subst₂, ◌∙◌}
use mathlib.Core.Bool.{Bool, true, true≢false, ◌&&◌}
use mathlib.Core.Logic.{◌↔◌}
use mathlib.Core.List.{List, [], ◌∷◌}
use lib.ListN.{length, get_or, take, drop, get_or-append}
use lib.Seq.{take_at, drop_at, get_or_at}
use lib.Dec.{T, eqb, eqb→eq}
use borrow.Author.Tests.{leb-false}
use Rattle.graph.specs.Graph.{Graph, graph, table, Kinds, full_mask, Valid, IsEdge, Edge, Chain, Reach, all, edges, from, to}
use Rattle.graph.specs.Limits.{no_path, room_short}
use Rattle.graph.specs.Refusal.{plain_refusal}
use Rattle.graph.specs.Certificate.{IsDist, dist_of}
use Rattle.graph.specs.Paths.{Path·of, nearer, walk}
use Rattle.graph.proofs.Tests.{and_l, and_r, and_make, eq_t, least_passes, least_first}
use Rattle.graph.proofs.Chains.{edge_from_low}
use Rattle.graph.proofs.Refusals.{or_stop, or_none, given_none}
use Rattle.graph.proofs.Masks.{table_full, refusal_full}
use Rattle.graph.proofs.Distance.{dist_is, dist_low, dist_unique, dist_reached}
use Rattle.graph.proofs.Nearer.{has_nearer}
use Rattle.graph.proofs.Paths.{walk_path, walk_length}
use Rattle.paths.specs.Promise.{Call, collection, bare, distance, first_refusal, refusal_on, path_refusal, after_search, Answer, PromiseOn, Promise}
use Rattle.std.specs.Prelude.{Ok, Err}
use Rattle.graph.specs.Reasons.{said}
use Rattle.paths.proofs.Answers.{first_early, Admitted, admitted, valid, far_refused, short_refused, not_refused}

ruleset facts = (and_l, and_r, eqb→eq)

-- EACH EDGE IS THE SMALLEST THAT FITS
-- e leads from a vertex at the distance i from u to one at the distance i + 1, and no smaller edge to that one comes from a vertex at the distance i
pub record Smallest (g : Graph) (u i e : ℕ) : Type 0 where
  pub edge : IsEdge g e
  pub begins : IsDist g u (from g e) i
  pub ends : IsDist g u (to g e) (suc i)
  pub least : (f x : ℕ) → Edge g f x (to g e) → IsDist g u x i → e ≤ f

module _ {g : Graph} (ok : Valid g) (u : ℕ) (lu : u < g.n) where
  abbrev fits : ℕ → ℕ → ℕ → Bool
  fits d v e = g.counted e && eqb (to g e) v && eqb (dist_of g u (from g e)) d

  -- an edge to v from a vertex at the distance d is one that the walk back looks for
  edge_fits : (d v f x : ℕ) → Edge g f x v → dist_of g u x ≡ d → T (fits d v f)
  edge_fits d v f x y q =
      let b : T (g.counted f) = y.counts in
      let t : T (eqb (to g f) v) = eq_t (to g f) v y.enters in
      let m : T (eqb (dist_of g u (from g f)) d) = rw y.leaves (eq_t (dist_of g u x) d q) in
      search and_make

  dist_of_is : (d v : ℕ) → v < g.n → IsDist g u v d → dist_of g u v ≡ d
  dist_of_is d v l i = dist_unique (dist_is ok u v lu l (d, i.chain)) i

  -- the last edge of the walk to v
  last_edge : (d v : ℕ) → v < g.n → IsDist g u v (suc d) → (to g (nearer g u d v) ≡ v) × Smallest g u d (nearer g u d v)
  unfolding nearer
  last_edge d v l i =
      let top : dist_of g u v < g.n = dist_low ok u v lu l (suc d, i.chain) in
      let (f, x, y, q) = has_nearer ok u lu d v l (dist_of_is (suc d) v l i) (omega (arith, top, dist_of_is (suc d) v l i)) in
      let h : nearer g u d v < edges g = omega (arith, y.low, least_first (edges g) (fits d v) f y.low (edge_fits d v f x y q)) in
      let s : T (fits d v (nearer g u d v)) = least_passes (edges g) (fits d v) h in
      let b : T (g.counted (nearer g u d v)) = search facts in
      let t : to g (nearer g u d v) ≡ v = search facts in
      let m : dist_of g u (from g (nearer g u d v)) ≡ d = search facts in
      let low : from g (nearer g u d v) < g.n = ok.from_low (nearer g u d v) h in
      let r = (dist_reached ok u (from g (nearer g u d v)) lu low).0 (omega (arith, top, dist_of_is (suc d) v l i)) in (
        t,
        record {
          edge = (h, b);
          begins = rw m at (dist_is ok u (from g (nearer g u d v)) lu low r);
          ends = rw t i;
          least = λ f x y q. least_first (edges g) (fits d v) f y.low (edge_fits d v f x (rw t at y) (dist_of_is d x (edge_from_low ok y) q));
        },
      )

  walk_smallest : (d v : ℕ) → v < g.n → IsDist g u v d → (i : ℕ) → i < d → Smallest g u i (get_or (walk g u d v) i 0)
  unfolding walk
  walk_smallest zero v l q i h = absurd (omega arith)
  walk_smallest (suc d) v l q i h =
      let e = nearer g u d v in
      let s : Smallest g u d (nearer g u d v) = (last_edge d v l q).1 in
      let long = walk_length ok u lu d (from g (nearer g u d v)) in
      elim (dec_lt i d) as (λ _. Smallest g u i (get_or (walk g u (suc d) v) i 0)) [
        | yes m ↦ rw (get_or-append (walk g u d (from g e)) (e ∷ []) 0 i (omega (arith, long)))
            (walk_smallest d (from g e) (ok.from_low e s.edge.0) s.begins i m)
        | no m ↦ (let t : i ≡ d = omega arith in rw (t, get_or_at (walk g u d (from g e)) e [] 0 d long) s)
      ]

-- A CALL THAT IS NOT REFUSED BEFORE THE SEARCH
module _ (c : Call) (pass : first_refusal c ≡ 0) where
  reached : (distance c < c.n) ↔ Reach (collection c) all c.u c.v
  reached = dist_reached (valid c pass) c.u c.v (admitted c pass).u_low (admitted c pass).v_low

  is_dist : Reach (collection c) all c.u c.v → IsDist (collection c) c.u c.v (distance c)
  is_dist = dist_is (valid c pass) c.u c.v (admitted c pass).u_low (admitted c pass).v_low

-- THE ANSWER IS A PATH
module _ (c : Call) (room numbers words : List ℕ) where
  module _ (d : ℕ) (p : Promise c room numbers words (Ok d)) where
    pass : first_refusal c ≡ 0
    unfolding refusal_on
    pass = (or_none _ _ (sym p.refusal)).0

    ok : Valid (collection c)
    ok = valid c pass

    ends : Admitted c
    ends = admitted c pass

    low : distance c < c.n
    unfolding refusal_on
    low = let (_, r) = or_none _ _ (sym p.refusal) in leb-false c.n (distance c) (given_none 11 _ (suc-ne-zero 10) (or_none _ _ r).0)

    is : IsDist (collection c) c.u c.v d
    is = rw p.gives.shortest (is_dist c pass ((reached c pass).0 low))

    long : length (walk (collection c) c.u d c.v) ≡ d
    long = walk_length ok c.u ends.u_low d c.v

    front : take d room ≡ walk (collection c) c.u d c.v
    front = ap (take d) p.gives.written ∙ take_at (walk (collection c) c.u d c.v) (drop d c.room) d long

    -- the first d numbers of the room are edges that lead, one after the other, from u to v
    pub path_leads : Path·of (collection c) (take d room) c.u c.v × (length (take d room) ≡ d)
    path_leads = rw front (walk_path ok c.u ends.u_low d c.v ends.v_low is, long)

    -- no chain from u to v has fewer edges
    pub path_shortest : (h : ℕ) → Chain (collection c) all h c.u c.v → d ≤ h
    path_shortest = is.shortest

    -- walking back from v, each edge is the smallest whose source is one step nearer to u
    pub path_smallest : (i : ℕ) → i < d → Smallest (collection c) c.u i (get_or room i 0)
    path_smallest i h =
        let t = get_or-append (walk (collection c) c.u d c.v) (drop d c.room) 0 i (omega (arith, long)) in
        rw (p.gives.written, t) (walk_smallest ok c.u ends.u_low d c.v ends.v_low is i h)

    -- the rest of the room is unchanged
    pub path_rest : drop d room ≡ drop d c.room
    path_rest = ap (drop d) p.gives.written ∙ drop_at (walk (collection c) c.u d c.v) (drop d c.room) d long

  -- 11 AND 12
  module _ (a : Answer) (p : Promise c room numbers words a) where
    -- they come after what is refused before the search
    passed : after_search (said a) ≡ true → first_refusal c ≡ 0
    unfolding refusal_on
    passed l = elim (ℕ_discrete (first_refusal c) 0) as (λ _. first_refusal c ≡ 0) [
      | yes e ↦ e
      | no o ↦ (let q : path_refusal c ≡ first_refusal c = or_stop _ _ o in
          absurd (true≢false (sym l ∙ ap after_search (p.refusal ∙ q) ∙ first_early c)))
    ]

    module _ (pass : first_refusal c ≡ 0) where
      -- without 11 v is reached; if it is reached and not all is done, the room is too short
      near : (said a ≡ no_path → ⊥) → distance c < c.n
      near o = elim (dec_lt (distance c) c.n) as (λ _. distance c < c.n) [
        | yes l ↦ l
        | no l ↦ absurd (o (p.refusal ∙ far_refused c pass (omega arith)))
      ]

      short : distance c < c.n → (said a ≡ 0 → ⊥) → length c.room < distance c
      short h o = elim (dec_lt (length c.room) (distance c)) as (λ _. length c.room < distance c) [
        | yes l ↦ l
        | no l ↦ absurd (o (p.refusal ∙ not_refused c pass h (omega arith)))
      ]

    -- 11 exactly if no chain leads from u to v
    pub no_path_means : (said a ≡ no_path) ↔ ((first_refusal c ≡ 0) × ((h : ℕ) → Chain (collection c) all h c.u c.v → ⊥))
    no_path_means = (
      λ e. let q = passed (ap after_search e) in (q, λ h x. let l = (reached c q).1 (h, x) in omega (arith, e, p.refusal, short_refused c q l (short q l (λ z. omega (arith, e, z))))),
      λ (q, none). elim (dec_lt (distance c) c.n) as (λ _. said a ≡ no_path) [
        | yes l ↦ (let (h, x) = (reached c q).0 l in absurd (none h x))
        | no l ↦ p.refusal ∙ far_refused c q (omega arith)
      ],
    )

    -- 12 exactly if the number of edges on a shortest chain exceeds the room
    pub room_short_means : (said a ≡ room_short) ↔ ((first_refusal c ≡ 0) × (d : ℕ) × IsDist (collection c) c.u c.v d × (length c.room < d))
    room_short_means = (
      λ e. let q = passed (ap after_search e) in let l = near q (λ z. omega (arith, e, z)) in (q, distance c, is_dist c q ((reached c q).0 l), short q l (λ z. omega (arith, e, z))),
      λ (q, d, i, l).
          let r : Reach (collection c) all c.u c.v = (d, i.chain) in
          let t : distance c ≡ d = dist_unique (is_dist c q r) i in
          p.refusal ∙ short_refused c q ((reached c q).1 r) (omega (arith, l, t)),
    )

  -- THE FULL MASK
  -- what is promised of a graph does not depend on the call's kinds and mask
  bared : {k : ℕ} {g : Graph} (a : Answer) → PromiseOn k g c room numbers words a → PromiseOn k g (bare c) room numbers words a
  unfolding refusal_on
  bared (Ok d) p =
      let y = p.gives in
      record { refusal = p.refusal; gives = record { shortest = y.shortest; written = y.written; numbers_left = y.numbers_left; words_left = y.words_left } }
  bared (Err k) p =
      let y = p.gives in
      record { refusal = p.refusal; gives = record { refused = y.refused; room_same = y.room_same; numbers_left = y.numbers_left; words_left = y.words_left } }

  -- with kinds from 0 to 7 and the full mask: what is promised of the table without kinds
  pub path_full : (a : Answer) → Kinds (length c.sources) c.kinds → c.mask ≡ full_mask → Promise c room numbers words a
      → PromiseOn (plain_refusal c.n c.sources c.targets) (graph c.n c.sources c.targets) (bare c) room numbers words a
  path_full a k e p =
      bared a
      (subst₂ (λ (r : ℕ) (g : Graph). PromiseOn r g c room numbers words a)
      (refusal_full c.n c.sources c.targets c.kinds k)
      (ap (λ (mask : ℕ). table c.n c.sources c.targets c.kinds mask) e ∙ table_full k c.n c.sources c.targets)
      p)
