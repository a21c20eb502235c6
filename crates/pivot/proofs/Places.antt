-- Filling the order: one vertex placed, and the end.
use Rattle.std.proofs.Common.{◌≡◌, ℕ, zero, suc, ◌+◌, ◌<◌, ◌≤◌, Bool, true, false, cond, ◌&&◌, T, eqb, ltb, List, [], ◌∷◌, length, get_or, drop, set, sym, refl, ap, ◌∙◌, subst, not-suc-le-zero, add-one, arith, eqb→eq, ltb→lt, lt→ltb, length-set, drop-cons, get_or-set_other, get_or-set_same}
use native.Mathlib.Decide.{dec_lt, ℕ_discrete}
use lib.Seq.{drop-length}
use Rattle.memory.specs.Memory.{Framed, Put}
use Rattle.memory.specs.Decomposer.{order_at, ord}
use Rattle.graph.specs.Numbers.{least, many}
use Rattle.graph.specs.Pivot.{listed}
use Rattle.graph.proofs.Counts.{many_all, many_none, many_le, many_mono, many_more, many_one}
use Rattle.graph.proofs.Pivot.{lowest_in}
use Rattle.graph.proofs.Tests.{and_l, and_r, and_make, eq_t, cond_true, cond_false, least_first, least_passes}
use Rattle.pivot.specs.Order.{Arranged, Beside, Ordered}
use Rattle.pivot.specs.Placing.{marked, Room, Placed, outside, again, placed, Filling, Leads, Listing, AllPlaced}

pub beside_none : (n b : ℕ) (w : List ℕ) → Beside n b w w
beside_none n b w = record { long = refl; low = λ j h. refl; between = λ j h k. refl; high = λ j h. refl }

pub beside_more : {b n : ℕ} {w w₁ w₂ : List ℕ} → Beside n b w w₁ → Beside n b w₁ w₂ → Beside n b w w₂
beside_more f g =
    record {
      long = g.long ∙ f.long;
      low = λ j h. g.low j h ∙ f.low j h;
      between = λ j h k. g.between j h k ∙ f.between j h k;
      high = λ j h. g.high j h ∙ f.high j h;
    }

pub beside_framed : {b n : ℕ} {w w' : List ℕ} → Framed b (b + n) w w' → Beside n b w w'
beside_framed {b} {n} f = record { long = f.long; low = f.low; between = λ j h k. f.high j h; high = λ j h. f.high j (omega arith) }

module _ {n k : ℕ} {mark ord : ℕ → ℕ} (f : Filling n k mark ord) where
  -- where a vertex is not marked, a place is free
  pub filling_free : (v : ℕ) → v < n → mark v ≡ 0 → k < n
  filling_free v l e =
      let more : many (λ u. eqb (mark u) 1) n < many (λ u. true) n = many_more (λ u. eqb (mark u) 1) (λ u. true) n (λ i m t. tt) v l (λ t. omega (arith, eqb→eq (mark v) 1 t)) tt in
      omega (arith, f.size, many_all n)

  -- all marked: all places are filled
  pub filling_full : ((v : ℕ) → v < n → mark v ≡ 1) → k ≡ n
  filling_full h =
      let all : many (λ u. true) n ≤ many (λ u. eqb (mark u) 1) n = many_mono (λ u. true) (λ u. eqb (mark u) 1) n (λ i m t. eq_t (mark i) 1 (h i m)) in
      omega (arith, f.size, many_all n, many_le (λ u. eqb (mark u) 1) n)

  pub filling_more : (mark' ord' : ℕ → ℕ) (v : ℕ) → v < n → mark v ≡ 0
      → mark' v ≡ 1 → ((u : ℕ) → u < n → (u ≡ v → ⊥) → mark' u ≡ mark u)
      → ord' k ≡ v → ((i : ℕ) → i < k → ord' i ≡ ord i)
      → Filling n (k + 1) mark' ord'
  filling_more mark' ord' v l z m ms o os =
      record {
        low = λ i h. elim (dec_lt i k) as (λ _. ord' i < n) [
          | yes q ↦ omega (arith, f.low i q, os i q)
          | no q ↦ let e : i ≡ k = omega arith in omega (arith, ap ord' e)
        ];
        one = one;
        inside = inside;
        out = out;
        binary = λ u h. elim (ℕ_discrete u v) as (λ _. mark' u ≤ 1) [
          | yes e ↦ omega (arith, ap mark' e)
          | no d ↦ omega (arith, ms u h d, f.binary u h)
        ];
        size = omega (arith, f.size, more, less);
      }
    where
      -- v is none of the vertices placed before
      fresh : (i : ℕ) → i < k → ord i ≡ v → ⊥
      fresh i q e = omega (arith, f.inside i q, ap mark e)

      one : (i j : ℕ) → i < k + 1 → j < k + 1 → ord' i ≡ ord' j → i ≡ j
      one i j hi hj e = elim (dec_lt i k) as (λ _. i ≡ j) [
        | yes qi ↦ elim (dec_lt j k) as (λ _. i ≡ j) [
          | yes qj ↦ f.one i j qi qj (sym (os i qi) ∙ e ∙ os j qj)
          | no qj ↦ let d : j ≡ k = omega arith in absurd (fresh i qi (sym (os i qi) ∙ e ∙ ap ord' d ∙ o))
        ]
        | no qi ↦ elim (dec_lt j k) as (λ _. i ≡ j) [
          | yes qj ↦ let d : i ≡ k = omega arith in absurd (fresh j qj (sym (os j qj) ∙ sym e ∙ ap ord' d ∙ o))
          | no qj ↦ omega arith
        ]
      ]

      inside : (i : ℕ) → i < k + 1 → mark' (ord' i) ≡ 1
      inside i h = elim (dec_lt i k) as (λ _. mark' (ord' i) ≡ 1) [
        | yes q ↦ ap mark' (os i q) ∙ ms (ord i) (f.low i q) (fresh i q) ∙ f.inside i q
        | no q ↦ let e : i ≡ k = omega arith in ap mark' (ap ord' e ∙ o) ∙ m
      ]

      out : (u : ℕ) → u < n → mark' u ≡ 1 → (i : ℕ) × (i < k + 1) × (ord' i ≡ u)
      out u h e = elim (ℕ_discrete u v) as (λ _. (i : ℕ) × (i < k + 1) × (ord' i ≡ u)) [
        | yes q ↦ (k, omega arith, o ∙ sym q)
        | no d ↦ let (i, a, s) = f.out u h (sym (ms u h d) ∙ e) in (i, omega arith, os i a ∙ s)
      ]

      more : many (λ u. eqb (mark u) 1) n < many (λ u. eqb (mark' u) 1) n
      more = many_more (λ u. eqb (mark u) 1) (λ u. eqb (mark' u) 1) n keeps v l (λ t. omega (arith, eqb→eq (mark v) 1 t)) (eq_t (mark' v) 1 m)
        where
          keeps : (i : ℕ) → i < n → T (eqb (mark i) 1) → T (eqb (mark' i) 1)
          keeps i h t = elim (ℕ_discrete i v) as (λ _. T (eqb (mark' i) 1)) [
            | yes e ↦ eq_t (mark' i) 1 (ap mark' e ∙ m)
            | no d ↦ eq_t (mark' i) 1 (ms i h d ∙ eqb→eq (mark i) 1 t)
          ]

      less : many (λ u. eqb (mark' u) 1) n ≤ many (λ u. eqb (mark u) 1) n + 1
      less = many_one (λ u. eqb (mark u) 1) (λ u. eqb (mark' u) 1) n v (λ i h d t. eq_t (mark i) 1 (sym (ms i h d) ∙ eqb→eq (mark' i) 1 t))

-- rest is v's turn and then rest', as far as no place before passes
abbrev pub Turn : ℕ → ℕ → (ℕ → ℕ) → ℕ → ((ℕ → Bool) → ℕ) → ((ℕ → Bool) → ℕ) → Type 0
Turn n k ord v rest rest' = (p : ℕ → Bool) → ((j : ℕ) → j < k → T (p (ord j)) → ⊥) → rest p ≡ cond (ltb v n && p v) v (rest' p)

module _ {n k : ℕ} {list : List ℕ} {ord : ℕ → ℕ} {rest rest' : (ℕ → Bool) → ℕ} (d : Leads n list k ord rest) (v : ℕ) (turn : Turn n k ord v rest rest') where
  -- v does not pass where no place before does
  pub leads_same : ((p : ℕ → Bool) → ((j : ℕ) → j < k → T (p (ord j)) → ⊥) → T (ltb v n && p v) → ⊥) → Leads n list k ord rest'
  leads_same h = record { hit = d.hit; miss = λ p none. sym (cond_false (ltb v n && p v) v (rest' p) (h p none)) ∙ sym (turn p none) ∙ d.miss p none }

  pub leads_more : (ord' : ℕ → ℕ) → v < n → ord' k ≡ v → ((i : ℕ) → i < k → ord' i ≡ ord i) → Leads n list (k + 1) ord' rest'
  leads_more ord' l o os = record { hit = hit; miss = miss }
    where
      back : (p : ℕ → Bool) (m : ℕ) → m ≤ k → ((j : ℕ) → j < m → T (p (ord' j)) → ⊥) → (j : ℕ) → j < m → T (p (ord j)) → ⊥
      back p m h none j q t = none j q (subst (λ (u : ℕ). T (p u)) (sym (os j (omega arith))) t)

      hit : (p : ℕ → Bool) (i : ℕ) → i < k + 1 → T (p (ord' i)) → ((j : ℕ) → j < i → T (p (ord' j)) → ⊥) → ord' i ≡ listed n p list
      hit p i h t none = elim (dec_lt i k) as (λ _. ord' i ≡ listed n p list) [
        | yes q ↦ os i q ∙ d.hit p i q (subst (λ (u : ℕ). T (p u)) (os i q) t) (back p i (omega arith) none)
        | no q ↦
            let e : i ≡ k = omega arith in
            let s : ord' i ≡ v = ap ord' e ∙ o in
            let all : (j : ℕ) → j < k → T (p (ord j)) → ⊥ = back p k (omega arith) (λ j h'. none j (omega arith)) in
            s ∙ sym (cond_true (ltb v n && p v) v (rest' p) (and_make (ltb v n) (p v) (lt→ltb v n l) (subst (λ (u : ℕ). T (p u)) s t))) ∙ sym (turn p all) ∙ d.miss p all
      ]

      miss : (p : ℕ → Bool) → ((j : ℕ) → j < k + 1 → T (p (ord' j)) → ⊥) → rest' p ≡ listed n p list
      miss p none =
          let all : (j : ℕ) → j < k → T (p (ord j)) → ⊥ = back p k (omega arith) (λ j h'. none j (omega arith)) in
          sym (cond_false (ltb v n && p v) v (rest' p) (λ t. none k (omega arith) (subst (λ (u : ℕ). T (p u)) (sym o) (and_r (ltb v n) (p v) t)))) ∙ sym (turn p all) ∙ d.miss p all

-- what placing v leaves
pub record Step (n b k v : ℕ) (w w' : List ℕ) (r : ℕ) : Type 0 where
  pub beside : Beside n b w w'
  pub filling : Filling n r (marked b w') (ord n b w')
  pub here : v < n → marked b w' v ≡ 1
  pub kept : (u : ℕ) → u < n → marked b w u ≡ 1 → marked b w' u ≡ 1
  pub leads : (list : List ℕ) (rest rest' : (ℕ → Bool) → ℕ) → Turn n k (ord n b w) v rest rest' → Leads n list k (ord n b w) rest → Leads n list r (ord n b w') rest'

pub place_step : {b n k v : ℕ} {w w' : List ℕ} {r : ℕ} → Room n b w → Filling n k (marked b w) (ord n b w) → Placed n b k v w w' r → Step n b k v w w' r
place_step {b} {n} {k} {v} {w} room f (outside h) =
    record {
      beside = beside_none n b w;
      filling = f;
      here = λ l. absurd (omega arith);
      kept = λ u l e. e;
      leads = λ list rest rest' turn d. leads_same d v turn (λ p none t. omega (arith, ltb→lt v n (and_l (ltb v n) (p v) t)));
    }
place_step {b} {n} {k} {v} {w} room f (again h m) =
    let is : marked b w v ≡ 1 = omega (arith, f.binary v h) in
    record {
      beside = beside_none n b w;
      filling = f;
      here = λ l. is;
      kept = λ u l e. e;
      leads = λ list rest rest' turn d. leads_same d v turn (λ p none t. let (i, q, e) = f.out v h is in none i q (subst (λ (u : ℕ). T (p u)) (sym e) (and_r (ltb v n) (p v) t)));
    }
place_step {b} {n} {k} {v} {w} room f (placed h z) =
    record {
      beside = record {
        long = length-set w₁ _ v ∙ length-set w _ 1;
        low = λ j l. else j (λ e. omega arith) (λ e. omega arith);
        between = λ j l m. else j (λ e. omega arith) (λ e. omega arith);
        high = λ j l. else j (λ e. omega arith) (λ e. omega (arith, free));
      };
      filling = filling_more f (marked b w₂) (ord n b w₂) v h z here others there before;
      here = λ l. here;
      kept = λ u l e. elim (ℕ_discrete u v) as (λ _. marked b w₂ u ≡ 1) [
        | yes q ↦ ap (marked b w₂) q ∙ here
        | no d ↦ others u l d ∙ e
      ];
      leads = λ list rest rest' turn d. leads_more d v turn (ord n b w₂) h there before;
    }
  where
    w₁ : List ℕ
    w₁ = set w (b + v) 1

    w₂ : List ℕ
    w₂ = set w₁ (order_at n b + k) v

    free : k < n
    free = filling_free f v h z

    else : (j : ℕ) → (j ≡ b + v → ⊥) → (j ≡ order_at n b + k → ⊥) → get_or w₂ j 0 ≡ get_or w j 0
    else j p q = get_or-set_other w₁ (order_at n b + k) j v 0 q ∙ get_or-set_other w (b + v) j 1 0 p

    here : marked b w₂ v ≡ 1
    here = get_or-set_other w₁ (order_at n b + k) (b + v) v 0 (λ e. omega arith) ∙ get_or-set_same w (b + v) 1 0 (omega (arith, room.fits))

    others : (u : ℕ) → u < n → (u ≡ v → ⊥) → marked b w₂ u ≡ marked b w u
    others u l d = else (b + u) (λ e. d (omega arith)) (λ e. omega arith)

    there : ord n b w₂ k ≡ v
    there = get_or-set_same w₁ (order_at n b + k) v 0 (omega (arith, free, room.fits, length-set w (b + v) 1))

    before : (i : ℕ) → i < k → ord n b w₂ i ≡ ord n b w i
    before i l = else (order_at n b + i) (λ e. omega arith) (λ e. omega arith)

-- the list's own turn
pub listed_turn : (n k : ℕ) (ord : ℕ → ℕ) (a : ℕ) (l : List ℕ) → Turn n k ord a (λ p. listed n p (a ∷ l)) (λ p. listed n p l)
unfolding listed
listed_turn n k ord a l p none = refl

pub listed_end : (n : ℕ) (p : ℕ → Bool) → listed n p [] ≡ least n p
unfolding listed
listed_end n p = refl

-- the rising turn: what stands below v is placed already
pub rising_turn : {n k : ℕ} {mark ord : ℕ → ℕ} → Filling n k mark ord → (v : ℕ) → v < n → ((u : ℕ) → u < v → mark u ≡ 1) → Turn n k ord v (least n) (least n)
rising_turn {n} {k} {mark} {ord} f v l below p none = go (ltb v n && p v) (λ t. and_r (ltb v n) (p v) t)
  where
    first : T (p v) → least n p ≡ v
    first t = elim (dec_lt (least n p) v) as (λ _. least n p ≡ v) [
      | yes q ↦
          let (i, m, e) = f.out (least n p) (omega arith) (below (least n p) q) in
          absurd (none i m (subst (λ (u : ℕ). T (p u)) (sym e) (least_passes n p (omega arith))))
      | no q ↦ omega (arith, least_first n p v l t)
    ]

    go : (c : Bool) → (T c → T (p v)) → least n p ≡ cond c v (least n p)
    go true h = first (h tt)
    go false h = refl

pub leads_none : (n : ℕ) (list : List ℕ) (ord : ℕ → ℕ) → Leads n list 0 ord (λ p. listed n p list)
leads_none n list ord = record { hit = λ p i h. absurd (not-suc-le-zero h); miss = λ p none. refl }

pub filling_none : (n : ℕ) (mark ord : ℕ → ℕ) → ((v : ℕ) → v < n → mark v ≡ 0) → Filling n 0 mark ord
filling_none n mark ord z =
    record {
      low = λ i h. absurd (not-suc-le-zero h);
      one = λ i j h. absurd (not-suc-le-zero h);
      inside = λ i h. absurd (not-suc-le-zero h);
      out = λ v l e. absurd (omega (arith, z v l));
      binary = λ v l. omega (arith, z v l);
      size = many_none (λ v. eqb (mark v) 1) n (λ v l t. omega (arith, z v l, eqb→eq (mark v) 1 t));
    }

pub leads_all : {n k : ℕ} {list : List ℕ} {mark ord : ℕ → ℕ} → Filling n k mark ord → ((v : ℕ) → v < n → mark v ≡ 1) → Leads n list k ord (least n) → Arranged n list ord
leads_all {n} {k} {list} {mark} {ord} f all d =
    record { low = λ i l. f.low i (omega (arith, full)); one = λ i j h m. f.one i j (omega (arith, full)) (omega (arith, full)); all = every_place; exact = exact }
  where
    full : k ≡ n
    full = filling_full f all

    every_place : (v : ℕ) → v < n → (i : ℕ) × (i < n) × (ord i ≡ v)
    every_place v l = let (i, q, e) = f.out v l (all v l) in (i, omega (arith, full), e)

    exact : (p : ℕ → Bool) (v : ℕ) → v < n → T (p v) → ord (least n (λ i. p (ord i))) ≡ listed n p list
    exact p v l t =
        let (i, q, e) = f.out v l (all v l) in
        let (m, s) = lowest_in n (λ j. p (ord j)) i (omega (arith, full)) (subst (λ (u : ℕ). T (p u)) (sym e) t) in
        d.hit p (least n (λ j. p (ord j))) (omega (arith, full)) s (λ j h u. omega (arith, least_first n (λ j. p (ord j)) j (omega arith) u))

pub room_kept : {b n : ℕ} {w w' : List ℕ} → length w' ≡ length w → Room n b w → Room n b w'
room_kept e r = record { small = r.small; fits = omega (arith, r.fits) }

-- the first i entries of the list have their places
pub record Listed (n b : ℕ) (list : List ℕ) (i k : ℕ) (w w' : List ℕ) : Type 0 where
  pub room : Room n b w'
  pub beside : Beside n b w w'
  pub filling : Filling n k (marked b w') (ord n b w')
  pub leads : Leads n list k (ord n b w') (λ p. listed n p (drop i list))

pub listed_begin : {b n : ℕ} {w : List ℕ} (list : List ℕ) → Room n b w → ((v : ℕ) → v < n → marked b w v ≡ 0) → Listed n b list 0 0 w w
listed_begin {b} {n} {w} list room z = record { room = room; beside = beside_none n b w; filling = filling_none n (marked b w) (ord n b w) z; leads = leads_none n list (ord n b w) }

pub listed_step : {b n : ℕ} {list : List ℕ} {i k : ℕ} {w w₁ w₂ : List ℕ} {r : ℕ} → i < length list → Listed n b list i k w w₁ → Placed n b k (get_or list i 0) w₁ w₂ r → Listed n b list (i + 1) r w w₂
listed_step {b} {n} {list} {i} {k} {w} {w₁} {w₂} {r} l s p =
    let t = place_step s.room s.filling p in
    let e : drop i list ≡ get_or list i 0 ∷ drop (i + 1) list = rw add-one (drop-cons list i 0 l) in
    record {
      room = room_kept t.beside.long s.room;
      beside = beside_more s.beside t.beside;
      filling = t.filling;
      leads = t.leads list (λ p. listed n p (drop i list)) (λ p. listed n p (drop (i + 1) list)) (rw e (listed_turn n k (ord n b w₁) (get_or list i 0) (drop (i + 1) list))) s.leads;
    }

pub listed_all : {b n i k : ℕ} {list w w' : List ℕ} → i ≤ length list → length list ≤ i → Listed n b list i k w w' → Listing n b list w w' k
listed_all {n = n} {i = i} {list = list} l h s =
    let e : i ≡ length list = omega arith in
    let none_left : drop i list ≡ [] = rw e (drop-length list) in
    record { beside = s.beside; filling = s.filling; leads = record { hit = s.leads.hit; miss = λ p none. sym (listed_end n p) ∙ ap (listed n p) (sym none_left) ∙ s.leads.miss p none } }

-- the vertices below v have their places, after whatever list led here
pub record Rising (n b k₀ v k : ℕ) (w w' : List ℕ) : Type 0 where
  pub room : Room n b w'
  pub beside : Beside n b w w'
  pub filling : Filling n k (marked b w') (ord n b w')
  pub below : (u : ℕ) → u < v → marked b w' u ≡ 1
  pub leads : (list : List ℕ) → Leads n list k₀ (ord n b w) (least n) → Leads n list k (ord n b w') (least n)

pub rising_step : {b n k₀ v k : ℕ} {w w₁ w₂ : List ℕ} {r : ℕ} → v < n → Rising n b k₀ v k w w₁ → Placed n b k v w₁ w₂ r → Rising n b k₀ (v + 1) r w w₂
rising_step {b} {n} {k₀} {v} {k} {w} {w₁} {w₂} {r} l s p =
    let t = place_step s.room s.filling p in
    record {
      room = room_kept t.beside.long s.room;
      beside = beside_more s.beside t.beside;
      filling = t.filling;
      below = λ u h. elim (ℕ_discrete u v) as (λ _. marked b w₂ u ≡ 1) [
        | yes e ↦ ap (marked b w₂) e ∙ t.here l
        | no d ↦ t.kept u (omega arith) (s.below u (omega arith))
      ];
      leads = λ list d. t.leads list (least n) (least n) (rising_turn s.filling v l s.below) (s.leads list d);
    }

pub rising_all : {b n k₀ v k : ℕ} {w w' : List ℕ} → n ≤ v → Rising n b k₀ v k w w' → AllPlaced n b k₀ w w'
rising_all l s = record { beside = s.beside; order = λ list d. leads_all s.filling (λ v h. s.below v (omega arith)) (s.leads list d) }

-- the rising order is the order of no list
pub arranged_plain : {n : ℕ} {ord : ℕ → ℕ} → ((i : ℕ) → i < n → ord i ≡ i) → Arranged n [] ord
arranged_plain {n} {ord} own = record { low = λ i l. omega (arith, own i l); one = λ i j l m e. sym (own i l) ∙ e ∙ own j m; all = λ v l. (v, l, own v l); exact = exact }
  where
    exact : (p : ℕ → Bool) (v : ℕ) → v < n → T (p v) → ord (least n (λ i. p (ord i))) ≡ listed n p []
    exact p v l t =
        let (m, s) = lowest_in n (λ i. p (ord i)) v l (subst (λ (u : ℕ). T (p u)) (sym (own v l)) t) in
        let (m', s') = lowest_in n p v l t in
        let up : least n p ≤ least n (λ i. p (ord i)) = least_first n p (least n (λ i. p (ord i))) m (subst (λ (u : ℕ). T (p u)) (own (least n (λ i. p (ord i))) m) s) in
        let down : least n (λ i. p (ord i)) ≤ least n p = least_first n (λ i. p (ord i)) (least n p) m' (subst (λ (u : ℕ). T (p u)) (sym (own (least n p) m')) s') in
        omega (arith, own (least n (λ i. p (ord i))) m, up, down, listed_end n p)

pub counted_ordered : {n b : ℕ} {w w' : List ℕ} → Put (order_at n b) n (λ i. i + 0) w w' → Ordered n [] b w w'
counted_ordered {n} {b} {w} {w'} p =
    record {
      order = arranged_plain {ord = ord n b w'} (λ i l. p.each i l ∙ omega arith);
      beside = record { long = p.framed.long; low = λ j h. p.framed.low j (omega arith); between = λ j h k. p.framed.low j k; high = p.framed.high };
    }

least_same : (n : ℕ) (f h : ℕ → Bool) → ((i : ℕ) → f i ≡ h i) → least n f ≡ least n h
unfolding least
least_same zero f h e = refl
least_same (suc n) f h e = rw (e zero, least_same n (λ i. f (suc i)) (λ i. h (suc i)) (λ i. e (suc i)))

-- the same order in another memory
pub arranged_same : {n : ℕ} {list : List ℕ} {f h : ℕ → ℕ} → ((i : ℕ) → h i ≡ f i) → Arranged n list f → Arranged n list h
arranged_same {n} {list} {f} {h} e a =
    record {
      low = λ i l. omega (arith, e i, a.low i l);
      one = λ i j l m q. a.one i j l m (sym (e i) ∙ q ∙ e j);
      all = λ v l. let (i, q, m) = a.all v l in (i, q, e i ∙ m);
      exact = λ p v l t. e (least n (λ i. p (h i))) ∙ ap f (least_same n (λ i. p (h i)) (λ i. p (f i)) (λ i. ap p (e i))) ∙ a.exact p v l t;
    }
