-- Handing out the places of a part.
use Prim.Native.Nat.{ℕ, zero, suc, ◌+◌, ◌*◌, ◌≤◌, ◌<◌}
use native.Mathlib.Omega.{arith}
use native.Mathlib.Decide.{ℕ_discrete, dec_lt}
use mathlib.Core.Path.{◌≡◌, refl, sym, ap, ◌∙◌}
use mathlib.Core.Logic.{inl, inr, ⊎_elim}
use mathlib.Core.Bool.{Bool}
use mathlib.Core.List.{List}
use lib.Dec.{eqb, eqb→eq}
use lib.ListN.{length, get_or, set, drop, length-set}
use lib.Seq.{get_or-set_same, get_or-set_other, get_or-drop}
use Rattle.graph.specs.Numbers.{some_below, many}
use Rattle.graph.proofs.Counts.{many_le, many_more}
use Rattle.graph.proofs.Tests.{eq_t, some_below_iff}
use Rattle.memory.specs.Decomposer.{col, ord, own, nxt, lst, head, chains_at, order_at, pending_at}
use Rattle.split.specs.Chain.{Follows, First}
use Rattle.parts.specs.Share.{Linked, HangAsk, Hung, UpTo, Last, Sharing, ShareAsk}

-- PIGEONS: k different numbers below n are at most n
module _ (xs : List ℕ) (n k : ℕ) (low : (i : ℕ) → i < k → get_or xs i 0 < n) (apart : (i j : ℕ) → i < j → j < k → get_or xs i 0 ≡ get_or xs j 0 → ⊥) where
  -- v is one of the first e
  abbrev seen : ℕ → ℕ → Bool
  seen e v = some_below e (λ i. eqb (get_or xs i 0) v)

  -- each is seen for the first time
  grows : (e : ℕ) → e ≤ k → e ≤ many (seen e) n
  grows zero h = omega arith
  grows (suc e) h = omega (
    arith,
    grows e (omega arith),
    many_more (seen e) (seen (suc e)) n
        (λ v l t. let (i, m, y) = (some_below_iff e (λ i. eqb (get_or xs i 0) v)).0 t in (some_below_iff (suc e) (λ i. eqb (get_or xs i 0) v)).1 (i, omega arith, y))
        (get_or xs e 0) (low e (omega arith))
        (λ t. let (i, m, y) = (some_below_iff e (λ i. eqb (get_or xs i 0) (get_or xs e 0))).0 t in apart i e m (omega arith) (eqb→eq (get_or xs i 0) (get_or xs e 0) y))
        ((some_below_iff (suc e) (λ i. eqb (get_or xs i 0) (get_or xs e 0))).1 (e, omega arith, eq_t (get_or xs e 0) (get_or xs e 0) refl)),
  )

  pub pigeons : k ≤ n
  pigeons = omega (arith, grows k (omega arith), many_le (seen k) n)

-- three stores in places of their own
record Stored (w w' : List ℕ) (p x q y r z : ℕ) : Type 0 where
  long : length w' ≡ length w
  first : get_or w' p 0 ≡ x
  second : get_or w' q 0 ≡ y
  third : get_or w' r 0 ≡ z
  else : (j : ℕ) → (j ≡ p → ⊥) → (j ≡ q → ⊥) → (j ≡ r → ⊥) → get_or w' j 0 ≡ get_or w j 0

stored : (w : List ℕ) (p x q y r z : ℕ) → p < length w → q < length w → r < length w → (p ≡ q → ⊥) → (p ≡ r → ⊥) → (q ≡ r → ⊥)
    → Stored w (set (set (set w p x) q y) r z) p x q y r z
stored w p x q y r z hp hq hr pq pr qr =
    let w₁ = set w p x in
    let w₂ = set w₁ q y in
    let l₁ : length w₁ ≡ length w = length-set w p x in
    let l₂ : length w₂ ≡ length w = length-set w₁ q y ∙ l₁ in
    record {
      long = length-set w₂ r z ∙ l₂;
      first = get_or-set_other w₂ r p z 0 pr ∙ get_or-set_other w₁ q p y 0 pq ∙ get_or-set_same w p x 0 hp;
      second = get_or-set_other w₂ r q z 0 qr ∙ get_or-set_same w₁ q y 0 (omega (arith, l₁));
      third = get_or-set_same w₂ r z 0 (omega (arith, l₂));
      else = λ j a b c. get_or-set_other w₂ r j z 0 c ∙ get_or-set_other w₁ q j y 0 b ∙ get_or-set_other w p j x 0 a;
    }

module _ (n b base lim : ℕ) (w₀ : List ℕ) where
  -- places that belong to no new part are passed over
  pub skip : (i y : ℕ) (w : List ℕ) (k : ℕ) → i ≤ y → ((x : ℕ) → i ≤ x → x < y → own n b w₀ x < base)
      → Sharing n b base lim w₀ i w k → Sharing n b base lim w₀ y w k
  skip i y w k h o z = record {
    low = z.low;
    high = z.high;
    long = z.long;
    next = λ u l t. elim (dec_lt u i) as (λ _. UpTo n (own n b w₀) y u (nxt n b w u)) [
      | yes q ↦ let s = z.next u q t in (
        s.0,
        ⊎_elim
            (λ r. inl (r.0, λ x d e f. elim (dec_lt x i) as (λ _. ⊥) [ yes g ↦ r.1 x d g f | no g ↦ omega (arith, o x (omega arith) e, f, t) ]))
            (λ r. inr (omega (arith, r.0), r.1, r.2)) s.1,
      )
      | no q ↦ absurd (omega (arith, o u (omega arith) l, t))
    ];
    rest = λ u l t. z.rest u l (⊎_elim (λ r. inl (omega arith)) (λ r. inr r) t);
    last = λ c l t. ⊎_elim
        (λ r. inl (r.0, λ x e f. elim (dec_lt x i) as (λ _. ⊥) [ yes g ↦ r.1 x g f | no g ↦ omega (arith, o x (omega arith) e, f, l) ]))
        (λ r. inr (omega (arith, r.0), r.1, λ x d e f. elim (dec_lt x i) as (λ _. ⊥) [ yes g ↦ r.2 x d g f | no g ↦ omega (arith, o x (omega arith) e, f, l) ]))
        (z.last c l t);
    above = z.above;
    heads = λ j l. let s = z.heads j l in (s.0, s.1, omega (arith, s.2));
    all = λ u l t. elim (dec_lt u i) as (λ _. (j : ℕ) × (j < k) × (own n b w₀ (head n b w j) ≡ own n b w₀ u)) [
      | yes g ↦ z.all u g t
      | no g ↦ absurd (omega (arith, o u (omega arith) l, t))
    ];
    apart = z.apart;
  }

  -- place i, of the new part own i, is handed out
  module _ (fits : b + 10 * n + 2 ≤ length w₀) (order : n < base) (most : lim ≤ 4 * n + 2)
      (i : ℕ) (w : List ℕ) (k : ℕ) (z : Sharing n b base lim w₀ i w k) (l : i < n) (new : base ≤ own n b w₀ i) (old : own n b w₀ i < lim) where
    few : k ≤ n
    few = pigeons (drop (pending_at n b) w) n k
        (λ j h. rw (get_or-drop (pending_at n b) w j 0) (z.heads j h).0.low)
        (λ j x h q e. z.apart j x h q (ap (own n b w₀) (sym (get_or-drop (pending_at n b) w j 0) ∙ e ∙ get_or-drop (pending_at n b) w x 0)))

    -- no place below i has its colour, if the last of it is not known
    fresh : n ≤ lst n b w (own n b w₀ i) → (x : ℕ) → x < i → own n b w₀ x ≡ own n b w₀ i → ⊥
    fresh t = ⊎_elim (λ r. r.1) (λ r x h q. omega (arith, r.0, t, l)) (z.last (own n b w₀ i) new old)

    apart_i : n ≤ lst n b w (own n b w₀ i) → (j : ℕ) → j < k → own n b w₀ (head n b w j) ≡ own n b w₀ i → ⊥
    apart_i t j h e = fresh t (head n b w j) (z.heads j h).2 e

    pub room : n ≤ lst n b w (own n b w₀ i) → k < n
    room t = omega (
      arith,
      pigeons (drop (pending_at n b) x) n (k + 1)
          (λ j h. rw (get_or-drop (pending_at n b) x j 0) (elim (ℕ_discrete j k) as (λ _. get_or x (pending_at n b + j) 0 < n) [
            | yes q ↦ rw (q, here) l
            | no q ↦ rw (else j q) (z.heads j (omega arith)).0.low
          ]))
          (λ j y h q e.
          let e' : get_or x (pending_at n b + j) 0 ≡ get_or x (pending_at n b + y) 0 = sym (get_or-drop (pending_at n b) x j 0) ∙ e ∙ get_or-drop (pending_at n b) x y 0 in
          elim (ℕ_discrete y k) as (λ _. ⊥) [
            | yes r ↦ apart_i t j (omega arith) (ap (own n b w₀) (sym (else j (omega arith)) ∙ e' ∙ ap (λ (c : ℕ). get_or x (pending_at n b + c) 0) r ∙ here))
            | no r ↦ z.apart j y h (omega arith) (ap (own n b w₀) (sym (else j (omega arith)) ∙ e' ∙ else y r))
          ]),
    )
      where
        x : List ℕ
        x = set w (pending_at n b + k) i

        here : get_or x (pending_at n b + k) 0 ≡ i
        here = get_or-set_same w (pending_at n b + k) i 0 (omega (arith, few, fits, z.long))

        else : (j : ℕ) → (j ≡ k → ⊥) → get_or x (pending_at n b + j) 0 ≡ head n b w j
        else j q = get_or-set_other w (pending_at n b + k) (pending_at n b + j) i 0 (omega arith)

    -- what both ways of handing out have in common
    module _ (w' : List ℕ) (lc : lst n b w' (own n b w₀ i) ≡ i) (le : (d : ℕ) → n ≤ d → d < 4 * n + 2 → (d ≡ own n b w₀ i → ⊥) → lst n b w' d ≡ lst n b w d) where
      last' : (d : ℕ) → base ≤ d → d < lim → Last n (own n b w₀) (i + 1) d (lst n b w' d)
      last' d h t = elim (ℕ_discrete d (own n b w₀ i)) as (λ _. Last n (own n b w₀) (i + 1) d (lst n b w' d)) [
        | yes q ↦ rw (q, lc) (inr (omega arith, refl, λ x e f. absurd (omega arith)))
        | no q ↦ rw (le d (omega arith) (omega arith) q) (⊎_elim
            (λ r. inl (r.0, λ x e f. elim (ℕ_discrete x i) as (λ _. ⊥) [ yes g ↦ q (sym f ∙ ap (own n b w₀) g) | no g ↦ r.1 x (omega arith) f ]))
            (λ r. inr (omega (arith, r.0), r.1, λ x e f s. elim (ℕ_discrete x i) as (λ _. ⊥) [ yes g ↦ q (sym s ∙ ap (own n b w₀) g) | no g ↦ r.2 x e (omega arith) s ]))
            (z.last d h t))
      ]

      above' : (d : ℕ) → lim ≤ d → d < 4 * n + 2 → lst n b w' d ≡ lst n b w₀ d
      above' d h t = le d (omega arith) t (omega arith) ∙ z.above d h t

    the : (y g : ℕ) → chains_at n b + y ≡ chains_at n b + g → y ≡ g
    the y g e = omega arith

    pub hang_more : (w' : List ℕ) (k' : ℕ) → Linked n b i (own n b w₀ i) k w w' k' → Sharing n b base lim w₀ (i + 1) w' k'
    hang_more w' k' (inl (h, p, q)) = rw (p, q) (record {
      low = λ j t. st.else j (omega arith) (omega arith) (omega arith) ∙ z.low j t;
      high = λ j t. st.else j (omega (arith, old, most)) (omega arith) (omega arith) ∙ z.high j t;
      long = st.long ∙ z.long;
      next = λ u a t. elim (ℕ_discrete u i) as (λ _. UpTo n (own n b w₀) (i + 1) u (nxt n b x u)) [
        | yes e ↦ rw (e, st.second) (l, inl (refl, λ y f g. absurd (omega arith)))
        | no e ↦ elim (ℕ_discrete u s) as (λ _. UpTo n (own n b w₀) (i + 1) u (nxt n b x u)) [
          | yes f ↦ rw (f, st.third) (is.0, inr (omega arith, sym is.1, λ y d g m. is.2 y d g (m ∙ is.1)))
          | no f ↦ rw (st.else (chains_at n b + u) (omega arith) (omega arith) (omega arith)) (let y = z.next u (omega arith) t in (
            y.0,
            ⊎_elim
                (λ (r : (nxt n b w u ≡ n) × ((x : ℕ) → u < x → x < i → own n b w₀ x ≡ own n b w₀ u → ⊥)). inl (
                  r.0,
                  λ g d v m. elim (ℕ_discrete g i) as (λ _. ⊥) [
                    | yes o ↦
                        let uc : own n b w₀ u ≡ own n b w₀ i = sym m ∙ ap (own n b w₀) o in
                        elim (dec_lt u s) as (λ _. ⊥) [ yes a ↦ r.1 s a is.0 (is.1 ∙ sym uc) | no a ↦ is.2 u (omega arith) (omega arith) uc ]
                    | no o ↦ r.1 g d (omega arith) m
                  ],
                ))
                (λ r. inr (omega (arith, r.0), r.1, r.2)) y.1,
          ))
        ]
      ];
      rest = λ u a t. st.else (chains_at n b + u) (omega arith) (⊎_elim (λ r. omega arith) (λ r e. omega (arith, ap (own n b w₀) (the u i e), r, new)) t) (⊎_elim (λ r. omega (arith, is.0)) (λ r e. omega (arith, ap (own n b w₀) (the u s e), r, is.1, new)) t)
          ∙ z.rest u a (⊎_elim (λ r. inl (omega arith)) (λ r. inr r) t);
      last = last' x st.first (λ d a m o. st.else (chains_at n b + d) (omega arith) (omega arith) (omega (arith, is.0)));
      above = above' x st.first (λ d a m o. st.else (chains_at n b + d) (omega arith) (omega arith) (omega (arith, is.0)));
      heads = λ j a. rw (stack j) (let y = z.heads j a in (y.0, y.1, omega (arith, y.2)));
      all = λ u a t. elim (ℕ_discrete u i) as (λ _. (j : ℕ) × (j < k) × (own n b w₀ (head n b x j) ≡ own n b w₀ u)) [
        | yes e ↦ let y = z.all s is.0 (omega (arith, is.1, new)) in (y.0, y.1, ap (own n b w₀) (stack y.0) ∙ y.2 ∙ is.1 ∙ ap (own n b w₀) (sym e))
        | no e ↦ let y = z.all u (omega arith) t in (y.0, y.1, ap (own n b w₀) (stack y.0) ∙ y.2)
      ];
      apart = λ j m a d e. z.apart j m a d (ap (own n b w₀) (sym (stack j)) ∙ e ∙ ap (own n b w₀) (stack m));
    })
      where
        s : ℕ
        s = lst n b w (own n b w₀ i)

        is : (lst n b w (own n b w₀ i) < i) × (own n b w₀ (lst n b w (own n b w₀ i)) ≡ own n b w₀ i) × ((x : ℕ) → lst n b w (own n b w₀ i) < x → x < i → own n b w₀ x ≡ own n b w₀ i → ⊥)
        is = ⊎_elim (λ r. absurd (omega (arith, r.0, h))) (λ r. r) (z.last (own n b w₀ i) new old)

        x : List ℕ
        x = set (set (set w (chains_at n b + own n b w₀ i) i) (chains_at n b + i) n) (chains_at n b + lst n b w (own n b w₀ i)) i

        st : Stored w x (chains_at n b + own n b w₀ i) i (chains_at n b + i) n (chains_at n b + lst n b w (own n b w₀ i)) i
        st = stored w (chains_at n b + own n b w₀ i) i (chains_at n b + i) n (chains_at n b + lst n b w (own n b w₀ i)) i (omega (arith, fits, z.long, most, old)) (omega (arith, fits, z.long))
            (omega (arith, fits, z.long)) (λ e. omega (arith, e, new)) (λ e. omega (arith, e, new)) (λ e. omega (arith, e, is.0))

        stack : (j : ℕ) → head n b x j ≡ head n b w j
        stack j = st.else (pending_at n b + j) (omega (arith, old, most)) (omega arith) (omega (arith, is.0))
    hang_more w' k' (inr (h, p, q)) = rw (p, q) (record {
      low = λ j t. st.else j (omega arith) (omega arith) (omega arith) ∙ z.low j t;
      high = λ j t. st.else j (omega (arith, old, most)) (omega arith) (omega (arith, room h)) ∙ z.high j t;
      long = st.long ∙ z.long;
      next = λ u a t. elim (ℕ_discrete u i) as (λ _. UpTo n (own n b w₀) (i + 1) u (nxt n b x u)) [
        | yes e ↦ rw (e, st.second) (l, inl (refl, λ y f g. absurd (omega arith)))
        | no e ↦ rw (st.else (chains_at n b + u) (omega arith) (omega arith) (omega arith)) (let y = z.next u (omega arith) t in (
          y.0,
          ⊎_elim
              (λ r. inl (
                r.0,
                λ g d v m. elim (ℕ_discrete g i) as (λ _. ⊥) [
                  | yes o ↦ fresh h u (omega arith) (sym m ∙ ap (own n b w₀) o)
                  | no o ↦ r.1 g d (omega arith) m
                ],
              ))
              (λ r. inr (omega (arith, r.0), r.1, r.2)) y.1,
        ))
      ];
      rest = λ u a t. st.else (chains_at n b + u) (omega arith) (⊎_elim (λ r. omega arith) (λ r e. omega (arith, ap (own n b w₀) (the u i e), r, new)) t) (omega arith)
          ∙ z.rest u a (⊎_elim (λ r. inl (omega arith)) (λ r. inr r) t);
      last = last' x st.first (λ d a m o. st.else (chains_at n b + d) (omega arith) (omega arith) (omega arith));
      above = above' x st.first (λ d a m o. st.else (chains_at n b + d) (omega arith) (omega arith) (omega arith));
      heads = λ j a. elim (ℕ_discrete j k) as (λ _. First n (own n b w₀) (head n b x j) × (base ≤ own n b w₀ (head n b x j)) × (head n b x j < i + 1)) [
        | yes e ↦ rw (e, st.third) (record { low = l; part = omega (arith, new, order); none = fresh h }, new, omega arith)
        | no e ↦ rw (stack j (omega arith)) (let y = z.heads j (omega arith) in (y.0, y.1, omega (arith, y.2)))
      ];
      all = λ u a t. elim (ℕ_discrete u i) as (λ _. (j : ℕ) × (j < k + 1) × (own n b w₀ (head n b x j) ≡ own n b w₀ u)) [
        | yes e ↦ (k, omega arith, ap (own n b w₀) (st.third ∙ sym e))
        | no e ↦ let y = z.all u (omega arith) t in (y.0, omega (arith, y.1), ap (own n b w₀) (stack y.0 y.1) ∙ y.2)
      ];
      apart = λ j m a d e. elim (ℕ_discrete m k) as (λ _. ⊥) [
        | yes y ↦ apart_i h j (omega arith) (ap (own n b w₀) (sym (stack j (omega arith))) ∙ e ∙ ap (own n b w₀) (ap (head n b x) y ∙ st.third))
        | no y ↦ z.apart j m a (omega arith) (ap (own n b w₀) (sym (stack j (omega arith))) ∙ e ∙ ap (own n b w₀) (stack m (omega arith)))
      ];
    })
      where
        x : List ℕ
        x = set (set (set w (chains_at n b + own n b w₀ i) i) (chains_at n b + i) n) (pending_at n b + k) i

        st : Stored w x (chains_at n b + own n b w₀ i) i (chains_at n b + i) n (pending_at n b + k) i
        st = stored w (chains_at n b + own n b w₀ i) i (chains_at n b + i) n (pending_at n b + k) i (omega (arith, fits, z.long, most, old)) (omega (arith, fits, z.long))
            (omega (arith, fits, z.long, room h)) (λ e. omega (arith, e, new)) (λ e. omega (arith, e, old, most)) (λ e. omega (arith, e))

        stack : (j : ℕ) → j < k → head n b x j ≡ head n b w j
        stack j a = st.else (pending_at n b + j) (omega (arith, old, most)) (omega arith) (omega arith)

module _ {n b base lim h : ℕ} {w₀ : List ℕ} (a : ShareAsk n b base lim h w₀) where
  pub share_start : Sharing n b base lim w₀ h w₀ 0
  share_start = skip n b base lim w₀ 0 h w₀ 0 (omega arith)
      (λ x l t. elim (dec_lt (own n b w₀ x) base) as (λ _. own n b w₀ x < base) [ yes q ↦ q | no q ↦ absurd (a.first.none x t (a.ours x (omega (arith, a.first.low)) (omega arith))) ])
      (record {
        low = λ j t. refl;
        high = λ j t. refl;
        long = refl;
        next = λ u l t. absurd (omega arith);
        rest = λ u l t. refl;
        last = λ c l t. inl (a.none c l t, λ x e f. omega arith);
        above = λ c l t. refl;
        heads = λ j l. absurd (omega arith);
        all = λ u l t. absurd (omega arith);
        apart = λ j m l t e. omega arith;
      })

  module _ {i : ℕ} {w : List ℕ} {k : ℕ} (z : Sharing n b base lim w₀ i w k) (l : i < n) (here : a.past i ≡ a.past h) where
    pub next_of : Follows n a.past i (nxt n b w i)
    next_of = rw (z.rest i l (inl (omega arith))) (a.chain i l here)

    ord_same : ord n b w i ≡ ord n b w₀ i
    ord_same = z.high (order_at n b + i) (omega arith)

    own_same : own n b w i ≡ own n b w₀ i
    own_same = ap (col b w) ord_same ∙ z.low (b + ord n b w₀ i) (omega (arith, a.vertex i l))

    newer : n ≤ own n b w i → base ≤ own n b w₀ i
    newer t = ⊎_elim (λ r. absurd (omega (arith, r, t, own_same))) (λ r. r) (a.split i l here)

    pub hang_ask : HangAsk n b i k w
    hang_ask = record {
      small = a.small;
      fits = omega (arith, a.fits, z.long);
      low = l;
      vertex = rw ord_same (a.vertex i l);
      link = λ t. record {
        small = a.small;
        fits = omega (arith, a.fits, z.long);
        low = l;
        part = t;
        most = omega (arith, own_same, a.below i l, a.most);
        room = λ s. room n b base lim w₀ a.fits a.order a.most i w k z l (newer t) (a.below i l) (rw own_same at s);
      };
    }

    next_past : (x : ℕ) → i + 1 ≤ x → x < nxt n b w i → own n b w₀ x < base
    next_past x s t = elim (dec_lt (own n b w₀ x) base) as (λ _. own n b w₀ x < base) [
      | yes q ↦ q
      | no q ↦ absurd (next_of.none x (omega arith) t (a.ours x (omega (arith, next_of.most)) (omega arith) ∙ sym here))
    ]

    pub share_step : {w' : List ℕ} {k' : ℕ} → Hung n b i k w w' k' → Sharing n b base lim w₀ (nxt n b w i) w' k'
    share_step {w'} {k'} g = skip n b base lim w₀ (i + 1) (nxt n b w i) w' k' (omega (arith, next_of.more)) next_past (go g)
      where
        go : Hung n b i k w w' k' → Sharing n b base lim w₀ (i + 1) w' k'
        go (inl (o, p, q)) = rw (p, q) (skip n b base lim w₀ i (i + 1) w k (omega arith)
            (λ x s t. let e : x ≡ i = omega arith in rw e (omega (arith, o, own_same, a.order))) z)
        go (inr (o, y)) = hang_more n b base lim w₀ a.fits a.order a.most i w k z l (newer o) (a.below i l) w' k' (rw own_same at y)

    pub share_here : nxt n b w i < n → a.past (nxt n b w i) ≡ a.past h
    share_here t = next_of.same t ∙ here
