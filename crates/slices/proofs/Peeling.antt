-- Peeling: none, and one after the other. What remains only shrinks, marks stay, and what stays does so until it is looked at again.
use Prim.Native.Nat.{ℕ, ◌≤◌, ◌<◌}
use native.Mathlib.Omega.{arith}
use native.Mathlib.Decide.{ℕ_discrete, dec_lt}
use mathlib.Core.Path.{◌≡◌, refl, sym, ◌∙◌}
use mathlib.Core.Logic.{◌⊎◌, inl, inr, ⊎_elim}
use mathlib.Core.List.{List}
use Rattle.graph.specs.Graph.{Graph, Part}
use Rattle.graph.specs.Apart.{begins}
use Rattle.memory.specs.Decomposer.{que, flag, seed}
use Rattle.memory.proofs.Memory.{touched_more, touched_none}
use Rattle.slices.specs.Seeds.{Rest}
use Rattle.slices.specs.Peel.{Standing, Due, Peeled, Stays, Settled}
use Rattle.slices.proofs.Steps.{slicing_then}

-- the queue grew from k to k'
module _ (g : Graph) (b : ℕ) (w w' : List ℕ) (k k' : ℕ) (line : (i : ℕ) → i < k → que g.n b w' i ≡ que g.n b w i) (late : k ≤ k') (h v : ℕ) where
  due_on : Due g b w h k v → Due g b w' h k' v
  due_on (i, p, q, d) = (i, p, omega (arith, late), rw (line i q) d)

  pub due_from : Due g b w' h k' v → Due g b w h k v ⊎ Due g b w' k k' v
  due_from (i, p, q, d) = elim (dec_lt i k) as (λ _. Due g b w h k v ⊎ Due g b w' k k' v) [ yes l ↦ inl (i, p, l, rw (line i l) at d) | no l ↦ inr (i, omega arith, q, d) ]

pub stays_wider : (g : Graph) (b r : ℕ) (w : List ℕ) (h h' k v : ℕ) → h' ≤ h → Stays g b r w h k v → Stays g b r w h' k v
stays_wider g b r w h h' k v l (inl d) = inl d
stays_wider g b r w h h' k v l (inr (i, p, q, d)) = inr (i, omega arith, q, d)

module _ {g : Graph} {b r : ℕ} where
  -- what remains was there before
  pub rest_before : {w w' : List ℕ} {e k e' k' : ℕ} → Peeled g b r w e k w' e' k' → (v : ℕ) → Rest g.n b r w' v → Rest g.n b r w v
  rest_before p v (h, c) = (h, ⊎_elim (λ t. sym t ∙ c) (λ t. t.0) (p.went v h))

  pub peeled_none : {w : List ℕ} {e k : ℕ} → Standing g b r w → Peeled g b r w e k w e k
  peeled_none {w} {e} {k} s = record {
    standing = s;
    steps = λ s. begins (λ v h. refl) (λ v h. refl);
    went = λ v h. inl refl;
    kept = λ v h o. (refl, refl);
    keeps = λ v h o. o;
    more = omega arith;
    front = λ i h. refl;
    fresh = λ i h q. absurd (omega arith);
    marks = λ i h q. absurd (omega arith);
    each = λ v h. inl refl;
    room = omega arith;
    gone = omega arith;
    line = λ i h. refl;
    behind = λ i h q. absurd (omega arith);
    queued = λ v h c. inl c;
    due = λ v h d. absurd (omega (arith, d.1, d.2));
    only = λ v h z o. absurd (o z);
    late = omega arith;
    inside = touched_none g.n b _ w;
  }

  pub peeled_more : {w w₁ w₂ : List ℕ} {e e₁ e₂ k k₁ k₂ : ℕ} → Peeled g b r w e k w₁ e₁ k₁ → Peeled g b r w₁ e₁ k₁ w₂ e₂ k₂ → Peeled g b r w e k w₂ e₂ k₂
  peeled_more {w} {w₁} {w₂} {e} {e₁} {e₂} {k} {k₁} {k₂} x y = record {
    standing = y.standing;
    steps = λ s. slicing_then (x.steps s) (y.steps s);
    went = λ v h. ⊎_elim
        (λ s. ⊎_elim (λ t. inl (t ∙ s)) (λ t. inr (sym s ∙ t.0, t.1, t.2)) (y.went v h))
        (λ s. ⊎_elim (λ t. inr (s.0, t ∙ s.1, s.2)) (λ t. absurd (omega (arith, s.1, t.0, h, y.standing.over))) (y.went v h))
        (x.went v h);
    kept = λ v h o. let s = x.kept v h o in let t = y.kept v h (λ q. ⊎_elim (λ z. o (sym z ∙ q)) (λ z. o z.0) (x.went v h)) in (t.0 ∙ s.0, t.1 ∙ s.1);
    keeps = λ v h o. y.keeps v h (x.keeps v h o);
    more = omega (arith, x.more, y.more);
    front = λ i h. y.front i (omega (arith, x.more)) ∙ x.front i h;
    fresh = λ i h q. elim (dec_lt i e₁) as (λ _. seed g.n b w₂ i < g.n) [ yes l ↦ rw (y.front i l) (x.fresh i h l) | no l ↦ y.fresh i (omega arith) q ];
    marks = λ i h q. elim (dec_lt i e₁) as (λ _. flag g.n b w₂ (seed g.n b w₂ i) ≡ 0 → ⊥) [
      | yes l ↦ rw (y.front i l) (y.keeps (seed g.n b w₁ i) (x.fresh i h l) (x.marks i h l))
      | no l ↦ y.marks i (omega arith) q
    ];
    each = λ v h. ⊎_elim
        (λ s. ⊎_elim (λ t. inl (t ∙ s)) (λ t. inr (t.0, omega (arith, x.more, t.1), t.2, t.3)) (y.each v h))
        (λ s. inr (s.0, s.1, omega (arith, y.more, s.2), y.front s.0 s.2 ∙ s.3))
        (x.each v h);
    room = omega (arith, x.room, y.room);
    gone = omega (arith, x.gone, y.gone);
    line = λ i h. y.line i (omega (arith, x.late)) ∙ x.line i h;
    behind = λ i h q. elim (dec_lt i k₁) as (λ _. que g.n b w₂ i < g.n) [ yes l ↦ rw (y.line i l) (x.behind i h l) | no l ↦ y.behind i (omega arith) q ];
    queued = λ v h c. ⊎_elim
        (λ q. ⊎_elim (λ t. inl t) (λ (i, l, m, t). inr (i, omega (arith, x.late, l), m, t)) (y.queued v h q))
        (λ (i, l, m, t). inr (i, l, omega (arith, y.late, m), y.line i m ∙ t))
        (x.queued v h c);
    due = λ v h d c. ⊎_elim (λ t. y.keeps v h (x.due v h t (rest_before y v (h, c)).1)) (λ t. y.due v h t c) (due_from g b w₁ w₂ k₁ k₂ y.line y.late k v d);
    only = λ v h z o. elim (ℕ_discrete (flag g.n b w₁ v) 0) as (λ _. Due g b w₂ k k₂ v) [
      | yes q ↦ let (i, l, m, d) = y.only v h q o in (i, omega (arith, x.late, l), m, d)
      | no q ↦ due_on g b w₁ w₂ k₁ k₂ y.line y.late k v (x.only v h z q)
    ];
    late = omega (arith, x.late, y.late);
    inside = touched_more x.inside y.inside;
  }

  -- what stays does so until it is looked at
  pub stays_on : {w w' : List ℕ} {e k e' k' : ℕ} → Peeled g b r w e k w' e' k' → (h v : ℕ) → h ≤ k → Stays g b r w h k v → Stays g b r w' h k' v
  stays_on {w} {w'} {e} {k} {e'} {k'} p h v l (inl (i, u, (m, c), d)) =
      ⊎_elim (λ t. inl (i, u, (m, t), d)) (λ (j, q, t, s). inr (j, omega (arith, q), t, (i, rw s d))) (p.queued u m c)
  stays_on {w} {w'} {e} {k} {e'} {k'} p h v l (inr d) = inr (due_on g b w w' k k' p.line p.late h v d)

  -- marks stay
  pub marked_on : {w w' : List ℕ} {e k e' k' : ℕ} {X : Part} → Peeled g b r w e k w' e' k' → ((v : ℕ) → Rest g.n b r w v → X v → flag g.n b w v ≡ 0 → ⊥)
      → (v : ℕ) → Rest g.n b r w' v → X v → flag g.n b w' v ≡ 0 → ⊥
  marked_on p f v i x = p.keeps v i.0 (f v (rest_before p v i) x)

  pub settled_none : {w : List ℕ} {e k : ℕ} {X : Part} → Standing g b r w → ((v : ℕ) → Rest g.n b r w v → X v → ⊥) → Settled g b r w e k w e k X
  settled_none s o = record { peeled = peeled_none s; stays = λ v i x. absurd (o v i x) }

  pub settled_less : {w w' : List ℕ} {e k e' k' : ℕ} {X Y : Part} → ((v : ℕ) → Y v → X v) → Settled g b r w e k w' e' k' X → Settled g b r w e k w' e' k' Y
  settled_less f z = record { peeled = z.peeled; stays = λ v i y. z.stays v i (f v y) }

  pub settled_more : {w w₁ w₂ : List ℕ} {e e₁ e₂ k k₁ k₂ : ℕ} {X₁ X₂ X : Part} → ((v : ℕ) → X v → X₁ v ⊎ X₂ v)
      → Settled g b r w e k w₁ e₁ k₁ X₁ → Settled g b r w₁ e₁ k₁ w₂ e₂ k₂ X₂ → Settled g b r w e k w₂ e₂ k₂ X
  settled_more {w} {w₁} {w₂} {e} {e₁} {e₂} {k} {k₁} {k₂} f x y = record {
    peeled = peeled_more x.peeled y.peeled;
    stays = λ v i d. ⊎_elim
        (λ t. stays_on y.peeled k v x.peeled.late (x.stays v (rest_before y.peeled v i) t))
        (λ t. stays_wider g b r w₂ k₁ k k₂ v x.peeled.late (y.stays v i t))
        (f v d);
  }
