-- Distances as colours, and the walk back along them.
use Prim.Native.Nat.{ℕ, suc, ◌+◌, ◌-◌, ◌≤◌, ◌<◌}
use native.Mathlib.Omega.{arith}
use native.Mathlib.Decide.{ℕ_discrete, dec_lt}
use mathlib.Core.Path.{◌≡◌, refl, sym, ap, subst, ◌∙◌}
use mathlib.Core.Logic.{⊎_elim}
use mathlib.Core.List.{List, [], ◌∷◌, ◌++◌, append_assoc}
use lib.ListN.{length, get_or, set, take, drop, length-set, length-append, length-take, length-drop, get_or-append}
use lib.Seq.{get_or-set_same, get_or-set_other, get_or-take, get_or-drop, ext_get_or}
use Rattle.graph.specs.Graph.{Graph, Edge, Chain, all, rev, edges, from}
use Rattle.graph.specs.Parts.{only}
use Rattle.graph.specs.Limits.{most_vertices, most_edges}
use Rattle.graph.specs.Certificate.{IsDist, dist_of}
use Rattle.graph.specs.Paths.{nearer, walk}
use Rattle.memory.proofs.Lent.{cat_high}
use Rattle.graph.proofs.Chains.{chain_wider, edge_from_low}
use Rattle.graph.proofs.Distance.{dist_is, dist_low, dist_unique, dist_reached}
use Rattle.graph.proofs.Nearer.{has_nearer, nearer_is}
use Rattle.graph.proofs.Paths.{walk_length}
use Rattle.index.specs.Index.{first, numbered}
use Rattle.index.proofs.Counts.{start_mono, start_all}
use Rattle.index.proofs.Moved.{held_kept}
use Rattle.index.proofs.Numbers.{number_at, number_found, number_rises}
use Rattle.memory.specs.Decomposer.{col}
use Rattle.paint.specs.Distances.{Nearest, Measured, Has, MeasureAsk}
use Rattle.paint.proofs.Spreading.{low_chain}
use Rattle.memory.specs.Memory.{Filled}
use Rattle.paths.specs.Walk.{reverse, base, source_of, FindAsk, Known, Prepared, FirstAsk, First, WalkAsk, Walked, SettleAsk}
use Rattle.paths.proofs.Indexes.{Indexed}

-- THE DISTANCES
module _ {g : Graph} {kinds : List ℕ} {u : ℕ} {w w₁ : List ℕ} (a : FindAsk g kinds u w) (x : Indexed g w w₁) where
  pub fill_room : base g + g.n ≤ length w₁
  fill_room = omega (arith, a.room, x.long)

  module _ {w₂ : List ℕ} (y : Filled (base g) g.n (g.n + 1) w₁ w₂) where
    pub measure_ask : MeasureAsk g (g.n + 1) 0 (base g) u w₂
    measure_ask = record {
      laid = record {
        valid = a.valid;
        few = a.few;
        below = omega arith;
        index = held_kept g 0 w₁ w₂ (λ j h q. y.framed.low j (omega arith)) x.forward;
      };
      small = a.small;
      fits = omega (arith, a.room, x.long, y.framed.long);
      far = omega arith;
      start = a.start;
    }

    -- within the table every chain has the one colour
    every : {h v : ℕ} → Chain g all h u v → Chain g (Has (g.n + 1) (base g) w₂) h u v
    every c = chain_wider {g = g} {P = λ v. (v < g.n) × all v} {Q = Has (g.n + 1) (base g) w₂} (λ v t. y.each v t.0) (low_chain a.valid a.start c)

    pub find_all : {w₃ : List ℕ} {k : ℕ} → Measured g (base g) (Has (g.n + 1) (base g) w₂) (only u) w₂ w₃ k → Prepared g u w w₃
    find_all {w₃} z = record {
      long = z.kept.long ∙ y.framed.long ∙ x.long;
      high = λ j h. z.kept.high j h ∙ y.framed.high j (omega arith) ∙ x.rest j (omega arith);
      known = record {
        valid = a.valid;
        small = a.small;
        few = a.few;
        start = a.start;
        room = omega (arith, a.room, x.long, y.framed.long, z.kept.long);
        index = held_kept (numbered (rev g)) (reverse g) w₁ w₃ (λ j h q. z.kept.low j (omega arith) ∙ y.framed.low j (omega arith)) x.numbers;
        near = λ v l h. let r = (dist_reached a.valid u v a.start l).0 h in ⊎_elim
            (λ t. dist_unique (is v t) (dist_is a.valid u v a.start l r))
            (λ t. absurd (t.0 (u, refl, (r.0, every r.1))))
            (z.each v l);
        far = λ v l h. ⊎_elim
            (λ t. absurd (omega (arith, h, dist_low a.valid u v a.start l (col (base g) w₃ v, (is v t).chain))))
            (λ t. omega (arith, t.1, y.each v l))
            (z.each v l);
      };
    }
      where
        is : (v : ℕ) → Nearest g (Has (g.n + 1) (base g) w₂) (only u) v (col (base g) w₃ v) → IsDist g u v (col (base g) w₃ v)
        is v t =
            let (x, q, c) = t.chain in
            let c' : Chain g all (col (base g) w₃ v) x v = chain_wider {g = g} {P = Has (g.n + 1) (base g) w₂} {Q = all} (λ v _. tt) c in
            record { chain = rw q c'; shortest = λ h c. t.shortest u h refl (every c) }

-- THE FIRST EDGE THAT FITS
-- the edges' numbers stand in w from eb on at the places s .. t - 1, and the colours from b on
abbrev source_at : List ℕ → List ℕ → ℕ → ℕ → ℕ
source_at sources w eb j = get_or sources (get_or w (eb + j) 0) 0

record EdgesAt (sources w : List ℕ) (eb b s t : ℕ) : Type 0 where
  order : s ≤ t
  fits : eb + t ≤ length w
  edges : (j : ℕ) → s ≤ j → j < t → get_or w (eb + j) 0 < length sources
  ends : (j : ℕ) → s ≤ j → j < t → b + source_at sources w eb j < length w

record FirstAt (sources w : List ℕ) (eb b d s t r : ℕ) : Type 0 where
  low : s ≤ r
  high : r ≤ t
  before : (j : ℕ) → s ≤ j → j < r → col b w (source_at sources w eb j) ≡ d → ⊥
  here : r < t → col b w (source_at sources w eb r) ≡ d

-- the same of the edges and the colours by themselves
module _ {sources w : List ℕ} {eb b s t : ℕ} (a : EdgesAt sources w eb b s t) where
  abbrev some : List ℕ
  some = take (eb + t - (eb + s)) (drop (eb + s) w)

  abbrev colours : List ℕ
  colours = take (length w - b) (drop b w)

  some_long : length some ≡ t - s
  some_long = omega (arith, length-take (eb + t - (eb + s)) (drop (eb + s) w), length-drop (eb + s) w, a.order, a.fits)

  some_at : (j : ℕ) → j < length some → get_or some j 0 ≡ get_or w (eb + (s + j)) 0
  some_at j h =
      let m : j < eb + t - (eb + s) = omega (arith, some_long, a.order) in
      get_or-take (eb + t - (eb + s)) (drop (eb + s) w) j 0 m ∙ get_or-drop (eb + s) w j 0 ∙ ap (λ (i : ℕ). get_or w i 0) (omega arith)

  some_source : (j : ℕ) → j < length some → source_of sources some j ≡ source_at sources w eb (s + j)
  some_source j h = ap (λ (e : ℕ). get_or sources e 0) (some_at j h)

  some_colour : (j : ℕ) → j < length some → get_or colours (source_of sources some j) 0 ≡ col b w (source_at sources w eb (s + j))
  some_colour j h =
      let low : source_of sources some j < length w - b = omega (arith, some_source j h, a.ends (s + j) (omega arith) (omega (arith, some_long))) in
      get_or-take (length w - b) (drop b w) (source_of sources some j) 0 low ∙ get_or-drop b w (source_of sources some j) 0 ∙ ap (col b w) (some_source j h)

  first_ask : FirstAsk sources some colours
  first_ask = record {
    known = λ j h. omega (arith, some_at j h, a.edges (s + j) (omega arith) (omega (arith, some_long)));
    coloured = λ j h. omega (arith, length-take (length w - b) (drop b w), length-drop b w, some_source j h, a.ends (s + j) (omega arith) (omega (arith, some_long)));
  }

  first_at : {d r : ℕ} → First sources some colours d r → FirstAt sources w eb b d s t (s + r)
  first_at {d} {r} f = record {
    low = omega arith;
    high = omega (arith, some_long, f.most, a.order);
    before = λ j l h q.
        let e : s + (j - s) ≡ j = omega arith in
        let m : j - s < length some = omega (arith, f.most) in
        let c : get_or colours (source_of sources some (j - s)) 0 ≡ col b w (source_at sources w eb j) = rw e at (some_colour (j - s) m) in
        f.before (j - s) (omega arith) (c ∙ q);
    here = λ h. let m : r < length some = omega (arith, some_long) in sym (some_colour r m) ∙ f.here m;
  }

-- BACK FROM V
-- the walk has come to x, d steps from u; the rest of the path is written
pub record Walking (g : Graph) (u v d₀ : ℕ) (r₀ : List ℕ) (x d : ℕ) (r : List ℕ) : Type 0 where
  pub vertex : x < g.n
  pub is : dist_of g u x ≡ d
  pub most : d ≤ d₀
  pub rest : (es : List ℕ) × (walk g u d₀ v ≡ walk g u d x ++ es)
  pub long : length r ≡ length r₀
  pub written : (i : ℕ) → d ≤ i → i < d₀ → get_or r i 0 ≡ get_or (walk g u d₀ v) i 0
  pub kept : (i : ℕ) → d₀ ≤ i → get_or r i 0 ≡ get_or r₀ i 0

-- what a turn reads
pub record Turn (g : Graph) (w : List ℕ) (x : ℕ) : Type 0 where
  pub vertex : x < g.n
  pub begins : get_or w (reverse g + x) 0 ≡ first (rev g) x
  pub ends : get_or w (reverse g + x + 1) 0 ≡ first (rev g) (suc x)
  pub order : first (rev g) x ≤ first (rev g) (suc x)
  pub last : first (rev g) (suc x) ≤ edges g
  pub room : base g + g.n ≤ length w
  pub small : g.n ≤ most_vertices
  pub few : edges g ≤ most_edges

module _ {g : Graph} {u v d₀ : ℕ} {w r₀ : List ℕ} (a : WalkAsk g u v d₀ w r₀) where
  pub walk_none : Walking g u v d₀ r₀ v d₀ r₀
  walk_none = record {
    vertex = a.vertex;
    is = a.is;
    most = omega arith;
    rest = ([], sym (append_nil (walk g u d₀ v)));
    long = refl;
    written = λ i h q. absurd (omega arith);
    kept = λ i h. refl;
  }
    where
      append_nil : (l : List ℕ) → l ++ [] ≡ l
      append_nil [] = refl
      append_nil (x ∷ l) = ap (λ (t : List ℕ). x ∷ t) (append_nil l)

  abbrev k : Known g u w
  k = a.known

  module _ {x d : ℕ} {r : List ℕ} (z : Walking g u v d₀ r₀ x (suc d) r) where
    turn : Turn g w x
    turn = record {
      vertex = z.vertex;
      begins = k.index.offs x (omega (arith, z.vertex));
      ends = ap (λ (j : ℕ). get_or w j 0) (omega arith) ∙ k.index.offs (suc x) z.vertex;
      order = start_mono g.counted g.tgt (edges g) x (suc x) (omega arith);
      last = start_all g.counted g.tgt (edges g) (suc x);
      room = k.room;
      small = k.small;
      few = k.few;
    }

    abbrev eb : ℕ
    eb = reverse g + g.n + 1

    -- the edge at a place of x
    placed : (j : ℕ) → first (rev g) x ≤ j → j < first (rev g) (suc x) → Edge g (get_or w (eb + j) 0) (source_at g.src w eb j) x
    placed j l t = let (y, q, _) = number_at (rev g) k.index x j l t in record { low = y.0; counts = y.1; leaves = refl; enters = q }

    own_ask : EdgesAt g.src w eb (base g) (first (rev g) x) (first (rev g) (suc x))
    own_ask = record {
      order = turn.order;
      fits = omega (arith, turn.last, k.room);
      edges = λ j l t. omega (arith, (placed j l t).low, k.valid.long);
      ends = λ j l t. omega (arith, edge_from_low k.valid (placed j l t), k.room);
    }

    low_d : d < g.n
    low_d = omega (arith, z.most, a.low)

    -- a colour that is d is the distance
    col_dist : (y : ℕ) → y < g.n → col (base g) w y ≡ d → dist_of g u y ≡ d
    col_dist y l q = elim (dec_lt (dist_of g u y) g.n) as (λ _. dist_of g u y ≡ d) [
      | yes h ↦ sym (k.near y l h) ∙ q
      | no h ↦ absurd (omega (arith, k.far y l (omega arith), q, low_d))
    ]

    dist_col : (y : ℕ) → y < g.n → dist_of g u y ≡ d → col (base g) w y ≡ d
    dist_col y l q = k.near y l (omega (arith, q, low_d)) ∙ q

    -- the place of an edge that enters x
    place_of : (e y : ℕ) → Edge g e y x → (j : ℕ) × (first (rev g) x ≤ j) × (j < first (rev g) (suc x)) × (get_or w (eb + j) 0 ≡ e)
    place_of e y t = rw t.enters at (number_found (rev g) k.index e (t.low, t.counts))

    module _ {i : ℕ} (f : FirstAt g.src w (reverse g + g.n + 1) (base g) d (first (rev g) x) (first (rev g) (suc x)) i) where
      -- an edge that fits does not stand before place i
      not_before : (e y : ℕ) → Edge g e y x → dist_of g u y ≡ d → (j : ℕ) × (i ≤ j) × (j < first (rev g) (suc x)) × (get_or w (eb + j) 0 ≡ e)
      not_before e y t q =
          let (j, l, h, p) = place_of e y t in
          elim (dec_lt j i) as (λ _. (j : ℕ) × (i ≤ j) × (j < first (rev g) (suc x)) × (get_or w (eb + j) 0 ≡ e)) [
            | yes b ↦
                let s : source_at g.src w eb j ≡ y = ap (λ (e : ℕ). get_or g.src e 0) p ∙ t.leaves in
                absurd (f.before j l b (ap (col (base g) w) s ∙ dist_col y (edge_from_low k.valid t) q))
            | no b ↦ (j, omega arith, h, p)
          ]

      found : i < first (rev g) (suc x)
      found =
          let (e, y, t, q) = has_nearer k.valid u k.start d x z.vertex z.is (omega (arith, z.most, a.low)) in
          let (j, l, h, p) = not_before e y t q in
          omega arith

      own : Edge g (get_or w (eb + i) 0) (source_at g.src w eb i) x
      own = placed i f.low found

      is_nearer : get_or w (eb + i) 0 ≡ nearer g u d x
      is_nearer = nearer_is k.valid u k.start d x (get_or w (eb + i) 0) (source_at g.src w eb i) own
          (col_dist (source_at g.src w eb i) (edge_from_low k.valid own) (f.here found))
          (λ e y l t q.
          let (j, b, h, p) = not_before e y t q in
          elim (ℕ_discrete i j) as (λ _. ⊥) [
            | yes s ↦ omega (arith, p, ap (λ (j : ℕ). get_or w (eb + j) 0) s)
            | no s ↦ omega (arith, p, number_rises (rev g) k.index x i j f.low (omega arith) h)
          ])

      own_step : Walking g u v d₀ r₀ (source_at g.src w eb i) d (set r d (get_or w (eb + i) 0))
      unfolding walk
      own_step =
          let e = get_or w (eb + i) 0 in
          let y = source_at g.src w eb i in
          let one : walk g u (suc d) x ≡ walk g u d y ++ (e ∷ []) = ap (λ (e : ℕ). walk g u d (from g e) ++ (e ∷ [])) (sym is_nearer) in
          let all_of : walk g u d₀ v ≡ walk g u d y ++ (e ∷ z.rest.0) =
          z.rest.1 ∙ ap (λ (l : List ℕ). l ++ z.rest.0) one ∙ append_assoc (walk g u d y) (e ∷ []) z.rest.0 in
          let n-long : length (walk g u d y) ≡ d = walk_length k.valid u k.start d y in
          let none_left : d - length (walk g u d y) ≡ 0 = omega (arith, n-long) in
          let at_d : get_or (walk g u d₀ v) d 0 ≡ e =
          ap (λ (l : List ℕ). get_or l d 0) all_of ∙ cat_high (walk g u d y) (e ∷ z.rest.0) d (omega (arith, n-long))
          ∙ ap (λ (j : ℕ). get_or (e ∷ z.rest.0) j 0) none_left in
          record {
            vertex = edge_from_low k.valid own;
            is = col_dist y (edge_from_low k.valid own) (f.here found);
            most = omega (arith, z.most);
            rest = (e ∷ z.rest.0, all_of);
            long = length-set r d e ∙ z.long;
            written = λ j h q. elim (ℕ_discrete j d) as (λ _. get_or (set r d e) j 0 ≡ get_or (walk g u d₀ v) j 0) [
              | yes s ↦ rw s (get_or-set_same r d e 0 (omega (arith, z.long, z.most, a.fits)) ∙ sym at_d)
              | no s ↦ get_or-set_other r d j e 0 (omega arith) ∙ z.written j (omega arith) q
            ];
            kept = λ j h. get_or-set_other r d j e 0 (omega (arith, z.most)) ∙ z.kept j h;
          }

  pub walk_all : {x : ℕ} {r : List ℕ} → Walking g u v d₀ r₀ x 0 r → Walked g u v d₀ r₀ r
  walk_all {r = r} z =
      let p = walk g u d₀ v in
      let l : length p ≡ d₀ = walk_length k.valid u k.start d₀ v in
      ext_get_or 0 r (p ++ drop d₀ r₀) (omega (arith, z.long, length-append p (drop d₀ r₀), length-drop d₀ r₀, a.fits))
      (λ i h. elim (dec_lt i d₀) as (λ _. get_or r i 0 ≡ get_or (p ++ drop d₀ r₀) i 0) [
        | yes q ↦ z.written i (omega arith) q ∙ sym (get_or-append p (drop d₀ r₀) 0 i (omega arith))
        | no q ↦ z.kept i (omega arith) ∙ sym (cat_high p (drop d₀ r₀) i (omega arith) ∙ get_or-drop d₀ r₀ (i - length p) 0 ∙ ap (λ (j : ℕ). get_or r₀ j 0) (omega arith))
      ])

-- what the colour of v says of its distance
module _ {g : Graph} {u v : ℕ} {w : List ℕ} (a : SettleAsk g u v w) where
  pub far_none : g.n ≤ col (base g) w v → g.n ≤ dist_of g u v
  far_none h = elim (dec_lt (dist_of g u v) g.n) as (λ _. g.n ≤ dist_of g u v) [
    | yes q ↦ absurd (omega (arith, a.known.near v a.vertex q))
    | no q ↦ omega arith
  ]

  pub near_is : col (base g) w v < g.n → dist_of g u v ≡ col (base g) w v
  near_is h = elim (dec_lt (dist_of g u v) g.n) as (λ _. dist_of g u v ≡ col (base g) w v) [
    | yes q ↦ sym (a.known.near v a.vertex q)
    | no q ↦ absurd (omega (arith, a.known.far v a.vertex (omega arith)))
  ]

-- a turn of the loop, which counts d down
module _ {g : Graph} {u v d₀ : ℕ} {w r₀ : List ℕ} (a : WalkAsk g u v d₀ w r₀) {x d : ℕ} {r : List ℕ} (h : 0 < d) (z : Walking g u v d₀ r₀ x d r) where
  down : Walking g u v d₀ r₀ x (suc (d - 1)) r
  down = let e : d ≡ suc (d - 1) = omega arith in subst (λ (y : ℕ). Walking g u v d₀ r₀ x y r) e z

  pub back_turn : Turn g w x
  back_turn = turn a down

  back_at : EdgesAt g.src w (reverse g + g.n + 1) (base g) (get_or w (reverse g + x) 0) (get_or w (reverse g + x + 1) 0)
  back_at = rw (back_turn.begins, back_turn.ends) (own_ask a down)

  -- the edges that enter x, and the colours
  abbrev pub own_edges : List ℕ
  own_edges =
      let eb = reverse g + g.n + 1 in
      take (eb + get_or w (reverse g + x + 1) 0 - (eb + get_or w (reverse g + x) 0)) (drop (eb + get_or w (reverse g + x) 0) w)

  abbrev pub all_colours : List ℕ
  all_colours = take (length w - base g) (drop (base g) w)

  pub back_order : reverse g + g.n + 1 + get_or w (reverse g + x) 0 ≤ reverse g + g.n + 1 + get_or w (reverse g + x + 1) 0
  back_order = omega (arith, back_at.order)

  pub back_fits : reverse g + g.n + 1 + get_or w (reverse g + x + 1) 0 ≤ length w
  back_fits = back_at.fits

  pub back_ask : FirstAsk g.src own_edges all_colours
  back_ask = first_ask back_at

  module _ {i : ℕ} (f : First g.src own_edges all_colours (d - 1) i) where
    abbrev place : ℕ
    place = first (rev g) x + i

    same_first : FirstAt g.src w (reverse g + g.n + 1) (base g) (d - 1) (first (rev g) x) (first (rev g) (suc x)) place
    same_first = rw (back_turn.begins, back_turn.ends) at (first_at back_at f)

    -- the edge stands in the index, and comes from a vertex
    pub back_place : i < length own_edges
    back_place = omega (arith, some_long back_at, found a down same_first, back_turn.begins, back_turn.ends)

    same_edge : get_or own_edges i 0 ≡ get_or w (reverse g + g.n + 1 + place) 0
    same_edge = some_at back_at i back_place ∙ ap (λ (j : ℕ). get_or w (reverse g + g.n + 1 + (j + i)) 0) back_turn.begins

    pub back_edge : get_or own_edges i 0 < edges g
    back_edge = rw same_edge (own a down same_first).low

    pub back_step : Walking g u v d₀ r₀ (source_of g.src own_edges i) (d - 1) (set r (d - 1) (get_or own_edges i 0))
    back_step = rw same_edge (own_step a down same_first)
