-- A step of the search, on functions: a segment is closed.
use Prim.Native.Nat.{ℕ, suc, ◌+◌, ◌-◌, ◌≤◌, ◌<◌}
use native.Mathlib.Omega.{arith}
use native.Mathlib.Decide.{ℕ_discrete, dec_lt, dec_le}
use mathlib.Core.Path.{◌≡◌, ap, ◌∙◌}
use mathlib.Core.Logic.{◌⊎◌, inl, inr, ⊎_elim, by_cases}
use Rattle.graph.specs.Graph.{Graph, Edge, Chain, stay, step, Reach, Same, IsLabel, all}
use Rattle.graph.proofs.Chains.{edge_from_low, edge_to_low, same_low}
use Rattle.linear.specs.Path.{Setting, Ahead, Between}
use Rattle.linear.proofs.Moved.{place_of, other_low}
use Rattle.linear.proofs.Step.{hue_low, front_top, elsewhere, last_over}

module _ {g : Graph} {off other : ℕ → ℕ} (z : Setting g off other) {s k p : ℕ} {col st fr pa cu : ℕ → ℕ} (x : Between g off other s k p col st fr pa cu) where
  -- the last of the path has no edge left and begins the last segment, from place t of the stack on: it is closed, and lab is the smallest that stands there
  module _ (t : ℕ) (some : 0 < p) (over : cu (p - 1) ≡ off (suc (pa (p - 1)))) (has : 0 < k) (first : col (pa (p - 1)) ≡ fr (k - 1)) (is_t : col (pa (p - 1)) ≡ g.n + 1 + t)
      (lab i₀ : ℕ) (at-or : t ≤ i₀) (in-s : i₀ < s) (is : lab ≡ st i₀) (smallest : (i : ℕ) → t ≤ i → i < s → lab ≤ st i)
      (col' : ℕ → ℕ) (painted : (u : ℕ) → u < g.n → g.n + 1 + t ≤ col u → col' u ≡ lab)
      (kept : (u : ℕ) → u < g.n → col u < g.n + 1 + t → col' u ≡ col u) where
    -- all edges of the segment are looked at
    all_over : (u : ℕ) → u < g.n → g.n + 1 + t ≤ col u → (c : ℕ) → off u ≤ c → c < off (suc u) → Ahead g.n k col fr u (other c)
    all_over u l h = ⊎_elim (λ (q, m, e). here q m e) (λ f. f) (x.ended u l (omega arith))
      where
        here : (q : ℕ) → q < p → pa q ≡ u → (c : ℕ) → off u ≤ c → c < off (suc u) → Ahead g.n k col fr u (other c)
        here q m e = by_cases (ℕ_discrete q (p - 1))
            (λ d. let y : pa (p - 1) ≡ u = rw d at e in rw y at (last_over z x some over))
            (λ d. absurd (omega (arith, x.climb q (p - 1) (omega arith) (omega arith), ap col e)))

    -- within the segment each reaches each
    segment_reach : (u w : ℕ) → u < g.n → w < g.n → g.n + 1 + t ≤ col u → g.n + 1 + t ≤ col w → Reach g all u w
    segment_reach u w l m a b = by_cases (dec_le (col u) (col w)) (λ h. x.on u w l m (omega arith) h)
        (λ o. x.back w u m l (omega arith) (omega arith) (λ j q r. absurd (omega (arith, front_top z x j q))))

    -- done or in the segment
    abbrev Within : ℕ → Type 0
    Within u = (col u < g.n) ⊎ (g.n + 1 + t ≤ col u)

    edge_within : (e u w : ℕ) → Edge g e u w → Within u → Within w
    edge_within e u w y (inl h) = inl (x.shut e u w y h)
    edge_within e u w y (inr h) =
        let (c, lo, hi, q) = place_of z e u w y in
        ⊎_elim (λ d. inl (rw q at d)) (λ d. inr (rw (q, ← first, is_t) at (d (k - 1) (omega arith) (omega arith))))
        (all_over u (edge_from_low z.valid y) h c lo hi)

    chain_within : {h u w : ℕ} → Chain g all h u w → Within u → Within w
    chain_within (stay _) d = d
    chain_within {u = u} (step {v = y} e _ f c) d = chain_within c (edge_within e u y f d)

    chain_done : {h u w : ℕ} → Chain g all h u w → col u < g.n → col w < g.n
    chain_done (stay _) d = d
    chain_done {u = u} (step {v = y} e _ f c) d = chain_done c (x.shut e u y f d)

    lab_low : lab < g.n
    lab_low = rw is (x.vertex i₀ in-s)

    lab_hue : g.n + 1 + t ≤ col lab
    lab_hue = rw is (omega (arith, x.place i₀ in-s))

    segment_label : (u : ℕ) → u < g.n → g.n + 1 + t ≤ col u → IsLabel g u lab
    segment_label u l h =
        record {
          member = record { there = segment_reach u lab l lab_low h lab_hue; back = segment_reach lab u lab_low l lab_hue h };
          least = λ w y. least_of w y (chain_within y.there.1 (inr h));
        }
      where
        least_of : (w : ℕ) → Same g u w → Within w → lab ≤ w
        least_of w y (inl d) = absurd (omega (arith, chain_done y.back.1 d))
        least_of w y (inr d) =
            let (j, m, q) = x.whose w (same_low z.valid y l) (omega arith) in
            omega (arith, smallest j (omega (arith, x.place j m, ap col q)) m)

    -- who is still on the stack was below the segment
    still : (u : ℕ) → u < g.n → g.n < col' u → (col u < g.n + 1 + t) × (col' u ≡ col u)
    still u l h = by_cases (dec_lt (col u) (g.n + 1 + t)) (λ m. (m, kept u l m)) (λ o. absurd (omega (arith, painted u l (omega arith), lab_low)))

    within_done : (u : ℕ) → u < g.n → Within u → col' u < g.n
    within_done u l (inl h) = omega (arith, kept u l (omega arith))
    within_done u l (inr h) = omega (arith, painted u l h, lab_low)

    done_within : (u : ℕ) → u < g.n → col' u < g.n → Within u
    done_within u l h = by_cases (dec_lt (col u) (g.n + 1 + t)) (λ m. inl (omega (arith, kept u l m))) (λ o. inr (omega arith))

    -- the path below its last
    path_low : (q : ℕ) → q < p - 1 → col (pa q) < g.n + 1 + t
    path_low q l = omega (arith, x.climb q (p - 1) l (omega arith))

    path_kept' : (q : ℕ) → q < p - 1 → col' (pa q) ≡ col (pa q)
    path_kept' q l = kept (pa q) (x.inside q (omega arith)).0 (path_low q l)

    front_low : (j : ℕ) → j < k - 1 → fr j < g.n + 1 + t
    front_low j l = omega (arith, x.rise j (k - 1) l (omega arith))

    ahead_closed : (v y : ℕ) → v < g.n → col v < g.n + 1 + t → y < g.n → Ahead g.n k col fr v y → Ahead g.n (k - 1) col' fr v y
    ahead_closed v y lv low l (inl h) = inl (omega (arith, kept y l (omega arith)))
    ahead_closed v y lv low l (inr h) = by_cases (dec_lt (col y) (g.n + 1 + t))
        (λ m. inr (λ j a b. omega (arith, kept y l m, h j (omega arith) (omega (arith, kept v lv low)))))
        (λ o. inl (omega (arith, painted y l (omega arith), lab_low)))

    pub closed : Between g off other t (k - 1) (p - 1) col' st fr pa cu
    closed =
        record {
          done = λ u l h. by_cases (dec_lt (col u) (g.n + 1 + t))
              (λ m. let e = kept u l m in rw e (x.done u l (omega arith)))
              (λ o. rw (painted u l (omega arith)) (segment_label u l (omega arith)));
          shut = λ e u v y h. within_done v (edge_to_low z.valid y) (edge_within e u v y (done_within u (edge_from_low z.valid y) h));
          vertex = λ i l. x.vertex i (omega (arith, t_low));
          place = λ i l. let m : i < s = omega (arith, t_low) in kept (st i) (x.vertex i m) (omega (arith, x.place i m)) ∙ x.place i m;
          whose = λ u l h.
              let (m, e) = still u l h in
              let (i, q, d) = x.whose u l (omega arith) in
              (i, omega (arith, x.place i q, ap col d), d);
          bottom = λ l. let f = (x.bottom (omega (arith, t_low))).1 in
              (by_cases (dec_lt 0 (k - 1)) (λ m. m) (λ o. let e : k - 1 ≡ 0 = omega arith in absurd (omega (arith, ap fr e))), f);
          rise = λ i j l m. x.rise i j l (omega arith);
          low = front_low;
          climb = λ i j l m. omega (arith, path_kept' i (omega arith), path_kept' j m, x.climb i j l (omega arith));
          inside = λ q l. let (a, b) = x.inside q (omega arith) in (a, omega (arith, path_kept' q l));
          fronts = λ j l. let (q, m, e) = x.fronts j (omega arith) in front j q l m e;
          begun = λ q l. x.begun q (omega arith);
          until = λ q l. x.until q (omega arith);
          looked = λ q c l h m.
              let b : q < p = omega arith in
              let v = (x.inside q b).0 in
              ahead_closed (pa q) (other c) v (path_low q l) (other_low z (pa q) c v h (omega (arith, x.until q b))) (x.looked q c b h m);
          ended = λ u l h. let (m, e) = still u l h in ended' u l m (x.ended u l (omega arith));
          on = λ u v l m h o. let (a, b) = still u l h in let (c, d) = still v m (omega arith) in x.on u v l m (omega arith) (omega arith);
          back = λ u v l m h o f. let (a, b) = still u l h in let (c, d) = still v m (omega arith) in
              x.back u v l m (omega arith) (omega arith) (λ i q r. behind u v b c d f i q r);
        }
      where
        t_low : t < s
        t_low = let (a, b) = x.inside (p - 1) (omega arith) in omega (arith, hue_low z x (pa (p - 1)) a b)

        front : (j q : ℕ) → j < k - 1 → q < p → col (pa q) ≡ fr j → (q : ℕ) × (q < p - 1) × (col' (pa q) ≡ fr j)
        front j q l m e = let b = elsewhere z x q m (λ d. omega (arith, front_low j l)) in (q, b, path_kept' q b ∙ e)

        ended' : (u : ℕ) → u < g.n → col u < g.n + 1 + t
            → ((q : ℕ) × (q < p) × (pa q ≡ u)) ⊎ ((c : ℕ) → off u ≤ c → c < off (suc u) → Ahead g.n k col fr u (other c))
            → ((q : ℕ) × (q < p - 1) × (pa q ≡ u)) ⊎ ((c : ℕ) → off u ≤ c → c < off (suc u) → Ahead g.n (k - 1) col' fr u (other c))
        ended' u l m (inl (q, a, e)) = inl (q, elsewhere z x q a (λ d. omega (arith, ap col e)), e)
        ended' u l m (inr f) = inr (λ c a b. ahead_closed u (other c) l m (other_low z u c l a b) (f c a b))

        behind : (u v : ℕ) → col' u ≡ col u → col v < g.n + 1 + t → col' v ≡ col v → ((i : ℕ) → i < k - 1 → col' u < fr i → col' v < fr i)
            → (i : ℕ) → i < k → col u < fr i → col v < fr i
        behind u v b c d f i q r = by_cases (ℕ_discrete i (k - 1)) (λ e. omega (arith, ap fr e)) (λ e. omega (arith, f i (omega arith) (omega arith)))
