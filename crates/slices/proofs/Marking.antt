-- Marking seeds: none, one, more.
use Prim.Native.Nat.{ℕ, ◌+◌, ◌≤◌, ◌<◌}
use native.Mathlib.Omega.{arith}
use native.Mathlib.Decide.{ℕ_discrete, dec_lt}
use mathlib.Core.Path.{◌≡◌, refl, sym, ◌∙◌}
use mathlib.Core.Logic.{◌⊎◌, ◌↔◌, inl, inr, ⊎_elim}
use mathlib.Core.Bool.{false, ◌&&◌}
use mathlib.Core.List.{List}
use lib.ListN.{get_or, set, length-set}
use lib.Seq.{get_or-set_same, get_or-set_other}
use lib.Dec.{T, eqb, eqb→eq}
use Rattle.graph.specs.Graph.{Part}
use Rattle.graph.proofs.Tests.{and_l, and_r, and_make, eq_t}
use Rattle.graph.proofs.Counts.{many_mono, many_more, many_one}
use Rattle.memory.specs.Decomposer.{col, flag, seed, marks_at, seeds_at}
use Rattle.slices.specs.Seeds.{unmarked, MarkAsk, Mark, Marked}

module _ (n b r : ℕ) where
  pub marked_none : (w : List ℕ) (e : ℕ) (Done : Part) → ((v : ℕ) → v < n → Done v → col b w v ≡ r → flag n b w v ≡ 0 → ⊥) → Marked n b r w e w e Done
  marked_none w e Done d = record {
    more = omega arith;
    front = λ i h. refl;
    fresh = λ i h k. absurd (omega arith);
    each = λ v h. inl refl;
    keeps = λ v h o. o;
    done = d;
    only = λ v h z o. absurd (o z);
    marks = λ i h k. absurd (omega arith);
    moved = refl;
    low = λ j h. refl;
    high = λ j h. refl;
    long = refl;
  }

  pub marked_more : (w w₁ w₂ : List ℕ) (e e₁ e₂ : ℕ) (D₁ D₂ D : Part) → ((v : ℕ) → D v ↔ (D₁ v ⊎ D₂ v))
      → Marked n b r w e w₁ e₁ D₁ → Marked n b r w₁ e₁ w₂ e₂ D₂ → Marked n b r w e w₂ e₂ D
  marked_more w w₁ w₂ e e₁ e₂ D₁ D₂ D f x y = record {
    more = omega (arith, x.more, y.more);
    front = λ i h. y.front i (omega (arith, x.more)) ∙ x.front i h;
    fresh = λ i h k. elim (dec_lt i e₁) as (λ _. seed n b w₂ i < n) [ yes l ↦ rw (y.front i l) (x.fresh i h l) | no l ↦ y.fresh i (omega arith) k ];
    each = λ v h. ⊎_elim
        (λ s. ⊎_elim (λ t. inl (t ∙ s)) (λ t. inr (sym (x.low (b + v) (omega arith)) ∙ t.0, t.1, (t.2.0, omega (arith, x.more, t.2.1), t.2.2, t.2.3))) (y.each v h))
        (λ s. inr (s.0, y.keeps v h s.1, (s.2.0, s.2.1, omega (arith, y.more, s.2.2), y.front s.2.0 s.2.2 ∙ s.2.3)))
        (x.each v h);
    keeps = λ v h o. y.keeps v h (x.keeps v h o);
    done = λ v h d c. ⊎_elim (λ s. y.keeps v h (x.done v h s c)) (λ s. y.done v h s (x.low (b + v) (omega arith) ∙ c)) ((f v).0 d);
    only = λ v h z o. elim (ℕ_discrete (flag n b w₁ v) 0) as (λ _. D v) [ yes q ↦ (f v).1 (inr (y.only v h q o)) | no q ↦ (f v).1 (inl (x.only v h z q)) ];
    marks = λ i h k. elim (dec_lt i e₁) as (λ _. flag n b w₂ (seed n b w₂ i) ≡ 0 → ⊥) [
      | yes l ↦ rw (y.front i l) (y.keeps (seed n b w₁ i) (x.fresh i h l) (x.marks i h l))
      | no l ↦ y.marks i (omega arith) k
    ];
    moved = y.moved ∙ x.moved;
    low = λ j h. y.low j h ∙ x.low j h;
    high = λ j h. y.high j h ∙ x.high j h;
    long = y.long ∙ x.long;
  }

  -- y is marked and listed
  module _ (w : List ℕ) (e y : ℕ) (a : MarkAsk n b y r e w) (here : col b w y ≡ r) (none : flag n b w y ≡ 0) where
    abbrev w₁ : List ℕ
    w₁ = set w (marks_at n b + y) 1

    abbrev w₂ : List ℕ
    w₂ = set w₁ (seeds_at n b + e) y

    e_low : e < n
    e_low = a.room here none

    flagged : flag n b w₂ y ≡ 1
    flagged = get_or-set_other w₁ (seeds_at n b + e) (marks_at n b + y) y 0 (omega (arith, a.low)) ∙ get_or-set_same w (marks_at n b + y) 1 0 (omega (arith, a.low, a.long))

    else : (j : ℕ) → (j ≡ marks_at n b + y → ⊥) → (j ≡ seeds_at n b + e → ⊥) → get_or w₂ j 0 ≡ get_or w j 0
    else j p q = get_or-set_other w₁ (seeds_at n b + e) j y 0 q ∙ get_or-set_other w (marks_at n b + y) j 1 0 p

    listed : seed n b w₂ e ≡ y
    listed = get_or-set_same w₁ (seeds_at n b + e) y 0 (omega (arith, e_low, a.long, length-set w (marks_at n b + y) 1))

    col_same : (v : ℕ) → v < n → col b w₂ v ≡ col b w v
    col_same v h = else (b + v) (omega arith) (omega arith)

    flag_same : (v : ℕ) → v < n → (v ≡ y → ⊥) → flag n b w₂ v ≡ flag n b w v
    flag_same v h o = else (marks_at n b + v) (omega arith) (omega arith)

    set_flag : flag n b w₂ y ≡ 0 → ⊥
    set_flag z = omega (arith, z, flagged)

    was_free : (v : ℕ) → v < n → T (eqb (col b w₂ v) r && eqb (flag n b w₂ v) 0) → T (eqb (col b w v) r && eqb (flag n b w v) 0)
    was_free v h t = elim (ℕ_discrete v y) as (λ _. T (eqb (col b w v) r && eqb (flag n b w v) 0)) [
      | yes q ↦ absurd (set_flag (rw q at (eqb→eq (flag n b w₂ v) 0 (and_r (eqb (col b w₂ v) r) _ t))))
      | no q ↦ rw (col_same v h, flag_same v h q) at t
    ]

    still_free : (v : ℕ) → v < n → (v ≡ y → ⊥) → T (eqb (col b w v) r && eqb (flag n b w v) 0) → T (eqb (col b w₂ v) r && eqb (flag n b w₂ v) 0)
    still_free v h q t = rw (col_same v h, flag_same v h q) t

    one_less : unmarked n b r w₂ + 1 ≡ unmarked n b r w
    one_less = omega (
      arith,
      many_more (λ v. eqb (col b w₂ v) r && eqb (flag n b w₂ v) 0) (λ v. eqb (col b w v) r && eqb (flag n b w v) 0) n was_free y a.low
          (λ t. set_flag (eqb→eq (flag n b w₂ y) 0 (and_r (eqb (col b w₂ y) r) _ t)))
          (and_make (eqb (col b w y) r) _ (eq_t (col b w y) r here) (eq_t (flag n b w y) 0 none)),
      many_one (λ v. eqb (col b w₂ v) r && eqb (flag n b w₂ v) 0) (λ v. eqb (col b w v) r && eqb (flag n b w v) 0) n y still_free,
    )

    pub marked_one : Marked n b r w e (set (set w (marks_at n b + y) 1) (seeds_at n b + e) y) (e + 1) (λ v. v ≡ y)
    marked_one = record {
      more = omega arith;
      front = λ i h. else (seeds_at n b + i) (omega (arith, a.low)) (omega arith);
      fresh = λ i h k. let q : i ≡ e = omega arith in rw (q, listed) a.low;
      each = λ v h. elim (ℕ_discrete v y) as (λ _. (flag n b w₂ v ≡ flag n b w v) ⊎ ((col b w v ≡ r) × (flag n b w₂ v ≡ 0 → ⊥) × ((i : ℕ) × (e ≤ i) × (i < e + 1) × (seed n b w₂ i ≡ v)))) [
        | yes q ↦ inr (rw q here, rw q set_flag, (e, omega arith, omega arith, listed ∙ sym q))
        | no q ↦ inl (flag_same v h q)
      ];
      keeps = λ v h o z. elim (ℕ_discrete v y) as (λ _. ⊥) [ yes q ↦ set_flag (rw q at z) | no q ↦ o (sym (flag_same v h q) ∙ z) ];
      done = λ v h d c. rw d set_flag;
      only = λ v h z o. elim (ℕ_discrete v y) as (λ _. v ≡ y) [ yes q ↦ q | no q ↦ absurd (o (flag_same v h q ∙ z)) ];
      marks = λ i h k. let q : i ≡ e = omega arith in rw (q, listed) set_flag;
      moved = omega (arith, one_less);
      low = λ j h. else j (omega arith) (omega (arith, a.low));
      high = λ j h. else j (omega (arith, a.low)) (omega (arith, e_low));
      long = length-set w₁ (seeds_at n b + e) y ∙ length-set w (marks_at n b + y) 1;
    }

  pub mark_step : (w : List ℕ) (e y : ℕ) → MarkAsk n b y r e w → (w' : List ℕ) (e' : ℕ) → Mark n b y r e w w' e' → Marked n b r w e w' e' (λ v. v ≡ y)
  mark_step w e y a w' e' (inl (h, z, p, q)) = rw (p, q) (marked_one w e y a h z)
  mark_step w e y a w' e' (inr (o, p, q)) = rw (p, q) (marked_none w e (λ v. v ≡ y) (λ v l d. rw d o))

-- what has no mark yet has room in the list
pub free_room : (n b r : ℕ) (w : List ℕ) (y : ℕ) → y < n → col b w y ≡ r → flag n b w y ≡ 0 → 1 ≤ unmarked n b r w
free_room n b r w y l h z = omega (
  arith,
  many_more (λ v. false) (λ v. eqb (col b w v) r && eqb (flag n b w v) 0) n (λ i q t. absurd t) y l (λ t. t)
      (and_make (eqb (col b w y) r) _ (eq_t (col b w y) r h) (eq_t (flag n b w y) 0 z)),
)

-- what remains with the mark it had
pub free_less : (n b r : ℕ) (w w' : List ℕ) → ((u : ℕ) → u < n → col b w' u ≡ r → (col b w u ≡ r) × (flag n b w' u ≡ flag n b w u)) → unmarked n b r w' ≤ unmarked n b r w
free_less n b r w w' s = many_mono (λ u. eqb (col b w' u) r && eqb (flag n b w' u) 0) (λ u. eqb (col b w u) r && eqb (flag n b w u) 0) n (λ u h t.
    let y = s u h (eqb→eq (col b w' u) r (and_l (eqb (col b w' u) r) _ t)) in
    and_make (eqb (col b w u) r) _ (eq_t (col b w u) r y.0) (rw y.1 at (and_r (eqb (col b w' u) r) _ t)))
