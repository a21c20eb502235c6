-- The parts that wait: at most n, and what dividing one of them makes of them.
use Prim.Native.Nat.{ℕ, ◌+◌, ◌-◌, ◌≤◌, ◌<◌}
use native.Mathlib.Omega.{arith}
use native.Mathlib.Decide.{dec_lt, ℕ_discrete}
use mathlib.Core.Path.{◌≡◌, refl, sym, ap, ◌∙◌}
use mathlib.Core.Logic.{◌⊎◌, inl, inr, ⊎_elim}
use mathlib.Core.List.{List}
use Rattle.graph.specs.Graph.{Graph}
use Rattle.graph.specs.Apart.{other, ListAfter}
use Rattle.graph.specs.Numbers.{each}
use Rattle.graph.proofs.Tests.{get_or_each}
use Rattle.memory.specs.Decomposer.{col, ord, own, nxt, head, order_at}
use Rattle.split.specs.Chain.{Follows, First}
use Rattle.parts.proofs.Sharing.{pigeons}
use Rattle.parts.specs.Divide.{DivideAsk, Handed, Blank}
use Rattle.machine.specs.Waits.{Waits}

module _ {g : Graph} {b top k : ℕ} {h : ℕ → ℕ} {w : List ℕ} (z : Waits g b top k h w) where
  -- each part has its own first place
  pub waits_few : k ≤ g.n
  waits_few = pigeons (each k h) g.n k
      (λ i l. rw (get_or_each k h 0 i l) (z.first i l).low)
      (λ i j l m e. omega (arith, z.one i j (omega arith) m (ap (own g.n b w) (sym (get_or_each k h 0 i (omega arith)) ∙ e ∙ get_or_each k h 0 j m))))

  pub waits_same : (h' : ℕ → ℕ) → ((i : ℕ) → i < k → h' i ≡ h i) → Waits g b top k h' w
  waits_same h' e =
      record {
        stage = z.stage;
        next = z.next;
        none = z.none;
        first = λ i l. rw (e i l) (z.first i l);
        all = λ u l t. let (i, q, m) = z.all u l t in (i, q, ap (own g.n b w) (e i q) ∙ m);
        one = λ i j l m q. z.one i j l m (ap (own g.n b w) (sym (e i l)) ∙ q ∙ ap (own g.n b w) (e j m));
      }

  pub waits_divide : {t : ℕ} {ws : List ℕ} → t < k → Blank g.n ws → DivideAsk g b (h t) top w ws
  waits_divide {t} l e =
      let f = z.first t l in
      record { stage = z.stage; first = f; chain = λ i m q. z.next i m (omega (arith, f.part)); none = z.none; blank = e }

-- all places below k but t, in some order
pub record Without (k t : ℕ) (m : ℕ → ℕ) : Type 0 where
  pub low : (i : ℕ) → i + 1 < k → m i < k
  pub other : (i : ℕ) → i + 1 < k → m i ≡ t → ⊥
  pub one : (i j : ℕ) → i + 1 < k → j + 1 < k → m i ≡ m j → i ≡ j
  pub all : (i : ℕ) → i < k → (i ≡ t → ⊥) → (j : ℕ) × (j + 1 < k) × (m j ≡ i)

pub without_last : (k : ℕ) → 0 < k → Without k (k - 1) (λ i. i)
without_last k p =
    record {
      low = λ i l. omega arith;
      other = λ i l e. omega arith;
      one = λ i j l m e. e;
      all = λ i l e. (i, elim (ℕ_discrete (i + 1) k) as (λ _. i + 1 < k) [ yes q ↦ absurd (e (omega arith)) | no q ↦ omega arith ], refl);
    }

pub without_first : (k : ℕ) → Without k 0 (λ i. i + 1)
without_first k =
    record {
      low = λ i l. l;
      other = λ i l e. omega arith;
      one = λ i j l m e. omega arith;
      all = λ i l e. (i - 1, elim (ℕ_discrete i 0) as (λ _. i - 1 + 1 < k) [ yes q ↦ absurd (e q) | no q ↦ omega arith ], elim (ℕ_discrete i 0) as (λ _. i - 1 + 1 ≡ i) [ yes q ↦ absurd (e q) | no q ↦ omega arith ]);
    }

module _ {g : Graph} {b top k : ℕ} {h : ℕ → ℕ} {w : List ℕ} (z : Waits g b top k h w) (t : ℕ) (l : t < k) (m : ℕ → ℕ) (o : Without k t m)
    {ws w' ws' : List ℕ} {top' children : ℕ} (v : Handed g b (h t) top w ws w' ws' top' children) where
  ord_same : (i : ℕ) → ord g.n b w' i ≡ ord g.n b w i
  ord_same i = v.high (order_at g.n b + i) (omega arith)

  own_same : (i : ℕ) → i < g.n → (own g.n b w i ≡ own g.n b w (h t) → ⊥) → own g.n b w' i ≡ own g.n b w i
  own_same i a e = ap (col b w') (ord_same i) ∙ v.others (ord g.n b w i) (z.stage.placed.low i a) e

  -- a place whose part is neither new nor a label was in another part, and is as it was
  elsewhere : (i : ℕ) → i < g.n → g.n ≤ own g.n b w' i → own g.n b w' i < top → own g.n b w i ≡ own g.n b w (h t) → ⊥
  elsewhere i a p q e =
      let s : own g.n b w' i ≡ col b w' (ord g.n b w i) = ap (col b w') (ord_same i) in
      ⊎_elim (λ r. omega (arith, r)) (λ r. omega (arith, r)) (v.ours (ord g.n b w i) (z.stage.placed.low i a) e)

  old : (i : ℕ) → i < g.n → g.n ≤ own g.n b w' i → own g.n b w' i < top → own g.n b w' i ≡ own g.n b w i
  old i a p q = own_same i a (elsewhere i a p q)

  below : (i : ℕ) → i < g.n → own g.n b w i < top
  below i a = z.stage.owned.below (ord g.n b w i) (z.stage.placed.low i a)

  old_next : (i : ℕ) → i < g.n → g.n ≤ own g.n b w' i → own g.n b w' i < top → Follows g.n (own g.n b w') i (nxt g.n b w' i)
  old_next i a p q =
      let e : own g.n b w' i ≡ own g.n b w i = old i a p q in
      let f : Follows g.n (own g.n b w) i (nxt g.n b w i) = z.next i a (omega (arith, e)) in
      rw (v.rest i a (elsewhere i a p q)) (record {
        more = f.more;
        most = f.most;
        same = λ c. own_same (nxt g.n b w i) c (λ r. elsewhere i a p q (sym (f.same c) ∙ r)) ∙ f.same c ∙ sym e;
        none = λ x c y s. let u = old x (omega (arith, f.most)) (omega (arith, s)) (omega (arith, s)) in f.none x c y (sym u ∙ s ∙ e);
      })

  -- the i-th of the others
  rest_low : (i : ℕ) → i + 1 < k → h (m i) < g.n
  rest_low i a = (z.first (m i) (o.low i a)).low

  rest_other : (i : ℕ) → i + 1 < k → own g.n b w (h (m i)) ≡ own g.n b w (h t) → ⊥
  rest_other i a e = o.other i a (z.one (m i) t (o.low i a) l e)

  rest_same : (i : ℕ) → i + 1 < k → own g.n b w' (h (m i)) ≡ own g.n b w (h (m i))
  rest_same i a = own_same (h (m i)) (rest_low i a) (rest_other i a)

  rest_first : (i : ℕ) → i + 1 < k → First g.n (own g.n b w') (h (m i))
  rest_first i a =
      let f = z.first (m i) (o.low i a) in
      let e = rest_same i a in
      let y = below (h (m i)) f.low in
      record {
        low = f.low;
        part = omega (arith, f.part);
        none = λ u c s. f.none u c (sym (old u (omega (arith, f.low)) (omega (arith, s, f.part)) (omega (arith, s))) ∙ s ∙ e);
      }

  module _ (k' : ℕ) (sum : k' + 1 ≡ k + children) (h' : ℕ → ℕ) (front : (i : ℕ) → i + 1 < k → h' i ≡ h (m i)) (back : (j : ℕ) → j < children → h' (k - 1 + j) ≡ head g.n b w' j) where
    -- the i-th is one of the others, or a new one
    abbrev Which : ℕ → Type 0
    Which i = (i + 1 < k) ⊎ ((j : ℕ) × (j < children) × (k - 1 + j ≡ i))

    which : (i : ℕ) → i < k' → Which i
    which i a = elim (dec_lt (i + 1) k) as (λ _. Which i) [
      | yes q ↦ inl q
      | no q ↦ inr (i - (k - 1), omega arith, omega arith)
    ]

    new_is : (i j : ℕ) → j < children → k - 1 + j ≡ i → h' i ≡ head g.n b w' j
    new_is i j a e = ap h' (sym e) ∙ back j a

    first : (i : ℕ) → Which i → First g.n (own g.n b w') (h' i)
    first i (inl a) = rw (front i a) (rest_first i a)
    first i (inr (j, a, e)) = rw (new_is i j a e) (v.heads j a).0

    all : (u : ℕ) → u < g.n → g.n ≤ own g.n b w' u → (i : ℕ) × (i < k') × (own g.n b w' (h' i) ≡ own g.n b w' u)
    all u a p = elim (dec_lt (own g.n b w' u) top) as (λ _. (i : ℕ) × (i < k') × (own g.n b w' (h' i) ≡ own g.n b w' u)) [
      | yes q ↦
          let e = old u a p q in
          let (i, c, s) = z.all u a (omega arith) in
          let (j, y, r) = o.all i c (λ x. elsewhere u a p q (sym s ∙ ap (λ (x : ℕ). own g.n b w (h x)) x)) in
          (j, omega arith, ap (own g.n b w') (front j y) ∙ rest_same j y ∙ ap (λ (x : ℕ). own g.n b w (h x)) r ∙ s ∙ sym e)
      | no q ↦
          let (j, c, s) = v.all u a (omega arith) in
          (k - 1 + j, omega arith, ap (own g.n b w') (back j c) ∙ s)
    ]

    -- an old part is not a new one
    mixed : (i j : ℕ) → i + 1 < k → j < children → own g.n b w' (h (m i)) ≡ own g.n b w' (head g.n b w' j) → ⊥
    mixed i j a c e = omega (arith, rest_same i a, below (h (m i)) (rest_low i a), (v.heads j c).1)

    one : (i j : ℕ) → Which i → Which j → own g.n b w' (h' i) ≡ own g.n b w' (h' j) → i ≡ j
    one i j (inl a) (inl c) e =
        o.one i j a c (z.one (m i) (m j) (o.low i a) (o.low j c)
        (sym (rest_same i a) ∙ ap (own g.n b w') (sym (front i a)) ∙ e ∙ ap (own g.n b w') (front j c) ∙ rest_same j c))
    one i j (inl a) (inr (y, c, s)) e = absurd (mixed i y a c (ap (own g.n b w') (sym (front i a)) ∙ e ∙ ap (own g.n b w') (new_is j y c s)))
    one i j (inr (x, a, r)) (inl c) e = absurd (mixed j x c a (ap (own g.n b w') (sym (front j c)) ∙ sym e ∙ ap (own g.n b w') (new_is i x a r)))
    one i j (inr (x, a, r)) (inr (y, c, s)) e =
        let q : own g.n b w' (head g.n b w' x) ≡ own g.n b w' (head g.n b w' y) = ap (own g.n b w') (sym (new_is i x a r)) ∙ e ∙ ap (own g.n b w') (new_is j y c s) in
        elim (dec_lt x y) as (λ _. i ≡ j) [
          | yes p ↦ absurd (v.apart x y p c q)
          | no p ↦ elim (dec_lt y x) as (λ _. i ≡ j) [
            | yes p' ↦ absurd (v.apart y x p' a (sym q))
            | no p' ↦ omega arith
          ]
        ]

    pub waits_divided : Waits g b top' k' h' w'
    waits_divided =
        record {
          stage = v.stage;
          next = λ i a p. elim (dec_lt (own g.n b w' i) top) as (λ _. Follows g.n (own g.n b w') i (nxt g.n b w' i)) [
            | yes q ↦ old_next i a p q
            | no q ↦ v.next i a (omega arith)
          ];
          none = v.none;
          first = λ i a. first i (which i a);
          all = all;
          one = λ i j a c e. one i j (which i a) (which j c) e;
        }

    -- the list after it, as the order says which were the others
    pub list_divided : (order : ℕ) → ((i : ℕ) → m i ≡ other order i)
        → ListAfter g.n order top k (λ i. own g.n b w (h i)) (col b w') k' (λ i. own g.n b w' (h' i))
    list_divided order s =
        record {
          front = λ i a. (omega (arith, a, sum), ap (own g.n b w') (front i a) ∙ rest_same i a ∙ ap (λ (x : ℕ). own g.n b w (h x)) (s i));
          new = λ i a c. new i (which i c) a;
          all = found;
          once = λ i j a c e. one i j (which i a) (which j c) e;
        }
      where
        new : (i : ℕ) → Which i → k ≤ i + 1 → (top ≤ own g.n b w' (h' i)) × ((u : ℕ) × (u < g.n) × (col b w' u ≡ own g.n b w' (h' i)))
        new i (inl a) c = absurd (omega arith)
        new i (inr (j, a, e)) c =
            let (f, q) = v.heads j a in
            rw (new_is i j a e) (q, (ord g.n b w' (head g.n b w' j), v.stage.placed.low (head g.n b w' j) f.low, refl))

        found : (u : ℕ) → u < g.n → top ≤ col b w' u → (i : ℕ) × (k ≤ i + 1) × (i < k') × (own g.n b w' (h' i) ≡ col b w' u)
        found u a q =
            let (x, y, e) = v.stage.placed.all u a in
            let (j, c, f) = v.all x y (rw e q) in
            (k - 1 + j, omega arith, omega (arith, sum), ap (own g.n b w') (back j c) ∙ f ∙ ap (col b w') e)
