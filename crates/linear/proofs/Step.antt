-- The steps of the search, on functions: segments join, a cursor moves on, a vertex is pushed, one is finished.
use Prim.Native.Nat.{ℕ, zero, suc, ◌+◌, ◌-◌, ◌≤◌, ◌<◌, zero-le}
use native.Mathlib.Omega.{arith}
use native.Mathlib.Decide.{ℕ_discrete, dec_lt}
use mathlib.Core.Path.{◌≡◌, sym, ap, ◌∙◌}
use mathlib.Core.Bool.{Bool, true, ◌&&◌}
use mathlib.Core.Logic.{◌⊎◌, inl, inr, ⊎_elim, by_cases}
use lib.Dec.{T, ltb, ltb→lt, lt→ltb}
use Rattle.graph.specs.Graph.{Graph, Reach, all}
use Rattle.graph.specs.Numbers.{many}
use Rattle.graph.proofs.Tests.{and_l, and_r, and_make}
use Rattle.graph.proofs.Counts.{many_le, many_more}
use Rattle.graph.proofs.Chains.{reach_self, reach_join, edge_from_low, edge_to_low}
use Rattle.linear.specs.Path.{Setting, Ahead, Between}
use Rattle.linear.proofs.Moved.{offs_rise, other_low}

module _ {g : Graph} {off other : ℕ → ℕ} (z : Setting g off other) {s k p : ℕ} {col st fr pa cu : ℕ → ℕ} (x : Between g off other s k p col st fr pa cu) where
  -- a colour of the stack is that of a place
  pub hue_low : (v : ℕ) → v < g.n → g.n < col v → col v < g.n + 1 + s
  hue_low v l h = let (i, m, e) = x.whose v l h in omega (arith, x.place i m, ap col e)

  -- what stands on the path is at most its last
  pub path_top : (q : ℕ) → q < p → col (pa q) ≤ col (pa (p - 1))
  path_top q l = by_cases (ℕ_discrete q (p - 1)) (λ e. rw e (omega arith)) (λ o. omega (arith, x.climb q (p - 1) (omega arith) (omega arith)))

  pub front_top : (j : ℕ) → j < k → fr j ≤ col (pa (p - 1))
  front_top j l = let (q, m, e) = x.fronts j l in omega (arith, path_top q m)

  -- each vertex of the stack leads to the last of the path
  pub all_to_top : 0 < p → (v : ℕ) → v < g.n → g.n < col v → Reach g all v (pa (p - 1))
  all_to_top h v l m =
      let (t, above) = x.inside (p - 1) (omega arith) in
      by_cases (dec_lt (col (pa (p - 1))) (col v))
      (λ a. x.back (pa (p - 1)) v t l above (omega arith) (λ j q r. absurd (omega (arith, front_top j q))))
      (λ o. x.on v (pa (p - 1)) l t m (omega arith))

  -- fronts and path are no more than the places, and those no more than the vertices
  front_count : (j : ℕ) → j < k → g.n + 1 + j ≤ fr j
  front_count zero l = let (q, m, e) = x.fronts 0 l in omega (arith, (x.inside q m).1)
  front_count (suc j) l = omega (arith, front_count j (omega arith), x.rise j (suc j) (omega arith) l)

  path_count : (q : ℕ) → q < p → g.n + 1 + q ≤ col (pa q)
  path_count zero l = omega (arith, (x.inside 0 l).1)
  path_count (suc q) l = omega (arith, path_count q (omega arith), x.climb q (suc q) (omega arith) l)

  pub fronts_few : k ≤ s
  fronts_few = by_cases (dec_lt 0 k) (λ h. omega (arith, front_count (k - 1) (omega arith), x.low (k - 1) (omega arith))) (λ o. omega arith)

  pub path_few : p ≤ s
  path_few = by_cases (dec_lt 0 p)
      (λ h. let (t, above) = x.inside (p - 1) (omega arith) in omega (arith, path_count (p - 1) (omega arith), hue_low (pa (p - 1)) t above))
      (λ o. omega arith)

  abbrev below : ℕ → ℕ → Bool
  below j v = ltb g.n (col v) && ltb (col v) (g.n + 1 + j)

  to_below : (j v : ℕ) → g.n < col v → col v < g.n + 1 + j → T (below j v)
  to_below j v a b = and_make (ltb g.n (col v)) (ltb (col v) (g.n + 1 + j)) (lt→ltb g.n (col v) a) (lt→ltb (col v) (g.n + 1 + j) b)

  is_below : (j v : ℕ) → T (below j v) → (g.n < col v) × (col v < g.n + 1 + j)
  is_below j v t =
      (ltb→lt g.n (col v) (and_l (ltb g.n (col v)) (ltb (col v) (g.n + 1 + j)) t), ltb→lt (col v) (g.n + 1 + j) (and_r (ltb g.n (col v)) (ltb (col v) (g.n + 1 + j)) t))

  counted : (j : ℕ) → j ≤ s → j ≤ many (below j) g.n
  counted zero l = zero-le
  counted (suc j) l =
      let q = x.place j (omega arith) in
      omega (
        arith,
        counted j (omega arith),
        many_more (below j) (below (suc j)) g.n
            (λ i m t. let (a, b) = is_below j i t in to_below (suc j) i a (omega arith))
            (st j) (x.vertex j (omega arith)) (λ t. let (a, b) = is_below j (st j) t in omega arith) (to_below (suc j) (st j) (omega arith) (omega arith)),
      )

  pub stack_few : s ≤ g.n
  stack_few = omega (arith, counted s (omega arith), many_le (below s) g.n)

  -- one that is not seen leaves room
  pub stack_room : (v : ℕ) → v < g.n → col v ≡ g.n → s < g.n
  stack_room v l e =
      omega (
        arith,
        counted s (omega arith),
        many_le (λ i. true) g.n,
        many_more (below s) (λ i. true) g.n (λ i m t. tt) v l (λ t. let (a, b) = is_below s v t in omega arith) tt,
      )

  -- no path, no stack
  pub empty : p ≡ 0 → (s ≡ 0) × (k ≡ 0)
  empty e = (by_cases (dec_lt 0 s) (λ h. absurd (none (x.bottom h).0)) (λ o. omega arith), by_cases (dec_lt 0 k) (λ h. absurd (none h)) (λ o. omega arith))
    where
      none : 0 < k → ⊥
      none h = let (q, m, i) = x.fronts 0 h in omega arith

  -- the path's last leads to y on the stack: the segments that begin behind y join the one that has it
  pub joined : (y k' : ℕ) → 0 < p → y < g.n → g.n < col y → Reach g all (pa (p - 1)) y → 0 < k' → k' ≤ k → ((j : ℕ) → k' ≤ j → j < k → col y < fr j)
      → Between g off other s k' p col st fr pa cu
  joined y k' h l m r o f cut =
      record {
        done = x.done;
        shut = x.shut;
        vertex = x.vertex;
        place = x.place;
        whose = x.whose;
        bottom = λ b. (o, (x.bottom b).1);
        rise = λ i j d q. x.rise i j d (omega arith);
        low = λ j q. x.low j (omega arith);
        climb = x.climb;
        inside = x.inside;
        fronts = λ j q. x.fronts j (omega arith);
        begun = x.begun;
        until = x.until;
        looked = λ q c d a b. fewer (pa q) (other c) (x.looked q c d a b);
        ended = λ v a b. ⊎_elim (λ e. inl e) (λ e. inr (λ c d t. fewer v (other c) (e c d t))) (x.ended v a b);
        on = x.on;
        back = λ u v lu lv a b e. by_cases (dec_lt (col v) (col y))
            (λ d. x.back u v lu lv a b (λ j q t. by_cases (dec_lt j k') (λ i. e j i t) (λ i. omega (arith, cut j (omega arith) q))))
            (λ d. reach_join (all_to_top h v lv (omega arith)) (reach_join r (by_cases (dec_lt (col u) (col y))
            (λ i. x.back u y lu l a (omega arith) (λ j q t. by_cases (dec_lt j k') (λ w. omega (arith, e j w t)) (λ w. cut j (omega arith) q)))
            (λ i. x.on y u l lu m (omega arith)))));
      }
    where
      fewer : (v y : ℕ) → Ahead g.n k col fr v y → Ahead g.n k' col fr v y
      fewer v y (inl d) = inl d
      fewer v y (inr d) = inr (λ j q. d j (omega arith))

  -- the cursor at place q of the path moves on
  pub advanced : (cu' : ℕ → ℕ) (q : ℕ) → q < p → cu q ≤ cu' q → cu' q ≤ off (suc (pa q)) → ((i : ℕ) → i < p → (i ≡ q → ⊥) → cu' i ≡ cu i)
      → ((c : ℕ) → cu q ≤ c → c < cu' q → Ahead g.n k col fr (pa q) (other c)) → Between g off other s k p col st fr pa cu'
  advanced cu' q h l m same ahead =
      record {
        done = x.done;
        shut = x.shut;
        vertex = x.vertex;
        place = x.place;
        whose = x.whose;
        bottom = x.bottom;
        rise = x.rise;
        low = x.low;
        climb = x.climb;
        inside = x.inside;
        fronts = x.fronts;
        begun = λ i a. by_cases (ℕ_discrete i q) (λ d. rw d (omega (arith, x.begun q h))) (λ o. rw (same i a o) (x.begun i a));
        until = λ i a. by_cases (ℕ_discrete i q) (λ d. rw d m) (λ o. rw (same i a o) (x.until i a));
        looked = λ i c a b d. by_cases (ℕ_discrete i q) (λ e. rw e (at_q c (rw e at b) (rw e at d))) (λ o. x.looked i c a b (rw (same i a o) at d));
        ended = x.ended;
        on = x.on;
        back = x.back;
      }
    where
      at_q : (c : ℕ) → off (pa q) ≤ c → c < cu' q → Ahead g.n k col fr (pa q) (other c)
      at_q c b d = by_cases (dec_lt c (cu q)) (λ y. x.looked q c h b y) (λ o. ahead c (omega arith) d)

  -- a vertex whose place on the path is not the last is below it
  pub elsewhere : (q : ℕ) → q < p → (col (pa q) ≡ col (pa (p - 1)) → ⊥) → q < p - 1
  elsewhere q m o = by_cases (ℕ_discrete q (p - 1)) (λ e. absurd (o (ap (λ (i : ℕ). col (pa i)) e))) (λ e. omega arith)

  -- the edges of the last of the path, if none is left
  pub last_over : 0 < p → cu (p - 1) ≡ off (suc (pa (p - 1))) → (c : ℕ) → off (pa (p - 1)) ≤ c → c < off (suc (pa (p - 1))) → Ahead g.n k col fr (pa (p - 1)) (other c)
  last_over h e c a b = x.looked (p - 1) c (omega arith) a (omega arith)

  -- the last of the path has no edge left and begins no segment
  pub finished : 0 < p → cu (p - 1) ≡ off (suc (pa (p - 1))) → 0 < k → (col (pa (p - 1)) ≡ fr (k - 1) → ⊥) → Between g off other s k (p - 1) col st fr pa cu
  finished h e f o =
      record {
        done = x.done;
        shut = x.shut;
        vertex = x.vertex;
        place = x.place;
        whose = x.whose;
        bottom = x.bottom;
        rise = x.rise;
        low = x.low;
        climb = λ i j l m. x.climb i j l (omega arith);
        inside = λ q l. x.inside q (omega arith);
        fronts = λ j l. let (q, m, i) = x.fronts j l in (q, elsewhere q m (λ d. under j l (sym i ∙ d)), i);
        begun = λ q l. x.begun q (omega arith);
        until = λ q l. x.until q (omega arith);
        looked = λ q c l a b. x.looked q c (omega arith) a b;
        ended = λ v l m. ⊎_elim (λ (q, a, i). on_path v q a i) (λ d. inr d) (x.ended v l m);
        on = x.on;
        back = x.back;
      }
    where
      -- fronts stand below it
      under : (j : ℕ) → j < k → fr j ≡ col (pa (p - 1)) → ⊥
      under j l d = by_cases (ℕ_discrete j (k - 1)) (λ i. o (sym (rw i at d)))
          (λ i. omega (arith, x.rise j (k - 1) (omega arith) (omega arith), front_top (k - 1) (omega arith)))

      on_path : (v q : ℕ) → q < p → pa q ≡ v
          → ((q : ℕ) × (q < p - 1) × (pa q ≡ v)) ⊎ ((c : ℕ) → off v ≤ c → c < off (suc v) → Ahead g.n k col fr v (other c))
      on_path v q a i = by_cases (ℕ_discrete q (p - 1))
          (λ d. let y : pa (p - 1) ≡ v = rw d at i in inr (rw y at (last_over h e)))
          (λ d. inl (q, omega arith, i))

  -- a vertex is pushed: on the stack as a segment of its own, and on the path
  module _ (v : ℕ) (l : v < g.n) (unseen : col v ≡ g.n) (here : st s ≡ v) (first : fr k ≡ g.n + 1 + s) (last : pa p ≡ v) (start : cu p ≡ off v)
      (col' : ℕ → ℕ) (now : col' v ≡ g.n + 1 + s) (same : (u : ℕ) → u < g.n → (u ≡ v → ⊥) → col' u ≡ col u)
      (reach : (u : ℕ) → u < g.n → g.n < col u → Reach g all u v) where
    -- who is done or on the stack keeps the colour
    seen_kept : (u : ℕ) → u < g.n → (col u ≡ g.n → ⊥) → col' u ≡ col u
    seen_kept u m o = same u m (λ e. o (rw e unseen))

    -- who has another colour than v's had it before
    was : (u : ℕ) → u < g.n → (col' u ≡ g.n + 1 + s → ⊥) → col' u ≡ col u
    was u m o = same u m (λ e. o (rw e now))

    path_kept : (q : ℕ) → q < p → col' (pa q) ≡ col (pa q)
    path_kept q m = let (a, b) = x.inside q m in seen_kept (pa q) a (λ e. omega arith)

    ahead_kept : (u y : ℕ) → u < g.n → g.n < col u → y < g.n → Ahead g.n k col fr u y → Ahead g.n (k + 1) col' fr u y
    ahead_kept u y a b q (inl h) = inl (omega (arith, seen_kept y q (λ e. omega arith)))
    ahead_kept u y a b q (inr h) = inr (λ j i r. by_cases (ℕ_discrete y v)
        (λ e. rw (e, now) (omega (arith, seen_kept u a (λ d. omega arith), hue_low u a b)))
        (λ o. omega (arith, same y q o, h j (old j i (omega (arith, seen_kept u a (λ d. omega arith)))) (omega (arith, seen_kept u a (λ d. omega arith))))))
      where
        old : (j : ℕ) → j < k + 1 → fr j ≤ col u → j < k
        old j i r = by_cases (ℕ_discrete j k) (λ d. absurd (omega (arith, ap fr d, hue_low u a b))) (λ d. omega arith)

    -- a vertex above n is v, or was there
    either : (u : ℕ) → u < g.n → g.n < col' u → (u ≡ v) ⊎ (g.n < col u)
    either u m h = by_cases (ℕ_discrete u v) (λ e. inl e) (λ o. inr (omega (arith, same u m o)))

    pub pushed : Between g off other (s + 1) (k + 1) (p + 1) col' st fr pa cu
    pushed =
        record {
          done = λ u m h. let e = was u m (λ d. omega arith) in rw e (x.done u m (omega arith));
          shut = λ e u w y h.
              let f = was u (edge_from_low z.valid y) (λ d. omega arith) in
              let d = x.shut e u w y (omega arith) in
              omega (arith, seen_kept w (edge_to_low z.valid y) (λ i. omega arith));
          vertex = λ i m. by_cases (ℕ_discrete i s) (λ e. rw (e, here) l) (λ o. x.vertex i (omega arith));
          place = λ i m. by_cases (ℕ_discrete i s) (λ e. rw (e, here) now)
              (λ o. let q = x.place i (omega arith) in seen_kept (st i) (x.vertex i (omega arith)) (λ e. omega arith) ∙ q);
          whose = λ u m h. by_cases (ℕ_discrete u v) (λ e. (s, omega arith, here ∙ sym e))
              (λ o. let (i, q, e) = x.whose u m (omega (arith, same u m o)) in (i, omega arith, e));
          bottom = λ _. (omega arith, bottom');
          rise = λ i j h m. by_cases (ℕ_discrete j k) (λ e. rw (e, first) (x.low i (omega arith))) (λ o. x.rise i j h (omega arith));
          low = λ j m. by_cases (ℕ_discrete j k) (λ e. rw (e, first) (omega arith)) (λ o. omega (arith, x.low j (omega arith)));
          climb = λ i j h m. by_cases (ℕ_discrete j p)
              (λ e. let li : i < p = omega arith in let (a, b) = x.inside i li in rw (e, last, now) (omega (arith, path_kept i li, hue_low (pa i) a b)))
              (λ o. omega (arith, path_kept i (omega arith), path_kept j (omega arith), x.climb i j h (omega arith)));
          inside = λ q m. by_cases (ℕ_discrete q p) (λ e. rw (e, last) (l, omega (arith, now)))
              (λ o. let (a, b) = x.inside q (omega arith) in (a, omega (arith, path_kept q (omega arith))));
          fronts = λ j m. by_cases (ℕ_discrete j k) (λ e. (p, omega arith, new j e))
              (λ o. let (q, a, e) = x.fronts j (omega arith) in (q, omega arith, path_kept q a ∙ e));
          begun = λ q m. by_cases (ℕ_discrete q p) (λ e. rw (e, last, start) (omega arith)) (λ o. x.begun q (omega arith));
          until = λ q m. by_cases (ℕ_discrete q p) (λ e. rw (e, last, start) (offs_rise z v l)) (λ o. x.until q (omega arith));
          looked = λ q c m h i. by_cases (ℕ_discrete q p) (λ e. absurd (none q c e h i)) (λ o. kept q c (omega arith) h i);
          ended = λ u m h. ⊎_elim (λ e. inl (p, omega arith, last ∙ sym e)) (λ h'. old u m h') (either u m h);
          on = on';
          back = back';
        }
      where
        bottom' : fr 0 ≡ g.n + 1
        bottom' = by_cases (dec_lt 0 k)
            (λ h. (x.bottom (omega (arith, x.low 0 h, front_count 0 h))).1)
            (λ o. let c : k ≡ 0 = omega arith in sym (ap fr c) ∙ first ∙ by_cases (dec_lt 0 s) (λ h. absurd (omega (arith, (x.bottom h).0))) (λ h. omega arith))

        new : (j : ℕ) → j ≡ k → col' (pa p) ≡ fr j
        new j e = rw (last, e) (now ∙ sym first)

        none : (q c : ℕ) → q ≡ p → off (pa q) ≤ c → c < cu q → ⊥
        none q c e h i = let h' : off v ≤ c = rw (e, last) at h in let i' : c < off v = rw (e, start) at i in omega arith

        kept : (q c : ℕ) → q < p → off (pa q) ≤ c → c < cu q → Ahead g.n (k + 1) col' fr (pa q) (other c)
        kept q c m h i =
            let (a, b) = x.inside q m in
            ahead_kept (pa q) (other c) a b (other_low z (pa q) c a h (omega (arith, x.until q m))) (x.looked q c m h i)

        old : (u : ℕ) → u < g.n → g.n < col u
            → ((q : ℕ) × (q < p + 1) × (pa q ≡ u)) ⊎ ((c : ℕ) → off u ≤ c → c < off (suc u) → Ahead g.n (k + 1) col' fr u (other c))
        old u m h = ⊎_elim (λ (q, a, e). inl (q, omega arith, e)) (λ f. inr (λ c a b. ahead_kept u (other c) m h (other_low z u c m a b) (f c a b))) (x.ended u m h)

        -- neither is v: both had their colours before
        earlier : (u w : ℕ) → u < g.n → w < g.n → g.n < col' u → col' u ≤ col' w → (w ≡ v → ⊥) → (col' u ≡ col u) × (col' w ≡ col w)
        earlier u w m q h o e =
            let d = same w q e in
            let low = hue_low w q (omega arith) in
            (was u m (λ i. omega arith), d)

        on' : (u w : ℕ) → u < g.n → w < g.n → g.n < col' u → col' u ≤ col' w → Reach g all u w
        on' u w m q h o = by_cases (ℕ_discrete w v)
            (λ e. by_cases (ℕ_discrete u v) (λ d. rw (d, e) (reach_self tt)) (λ d. rw e (reach u m (omega (arith, same u m d)))))
            (λ e. let (a, b) = earlier u w m q h o e in x.on u w m q (omega arith) (omega arith))

        back' : (u w : ℕ) → u < g.n → w < g.n → g.n < col' u → col' u ≤ col' w → ((i : ℕ) → i < k + 1 → col' u < fr i → col' w < fr i) → Reach g all w u
        back' u w m q h o f = by_cases (ℕ_discrete w v)
            (λ e. by_cases (ℕ_discrete u v) (λ d. rw (d, e) (reach_self tt)) (λ d. absurd (apart u w m h e d f)))
            (λ e. let (a, b) = earlier u w m q h o e in
            x.back u w m q (omega arith) (omega arith) (λ i j r. omega (arith, f i (omega arith) (omega arith))))
          where
            apart : (u w : ℕ) → u < g.n → g.n < col' u → w ≡ v → (u ≡ v → ⊥) → ((i : ℕ) → i < k + 1 → col' u < fr i → col' w < fr i) → ⊥
            apart u w m h e d f =
                let c = same u m d in
                omega (arith, first, ap col' e, now, f k (omega arith) (omega (arith, hue_low u m (omega arith))))
