-- Each pivot finishes at most one component of two or more vertices.
use Prim.Native.Nat.{ℕ, ◌+◌, ◌≤◌, ◌<◌}
use native.Mathlib.Omega.{arith}
use mathlib.Core.Path.{◌≡◌, sym, ◌∙◌}
use mathlib.Core.Logic.{◌⊎◌, inl, inr, ⊎_elim}
use mathlib.Core.Bool.{not, ◌&&◌}
use lib.Dec.{T, eqb, eqb→eq, T_not, not_T}
use Rattle.graph.specs.Graph.{Graph, IsLabel}
use Rattle.graph.specs.Parts.{Alone}
use Rattle.graph.specs.Numbers.{many}
use Rattle.graph.proofs.Chains.{same_sym}
use Rattle.graph.proofs.Tests.{and_l, and_r, and_make, eq_t, some_below_iff}
use Rattle.graph.proofs.Counts.{many_one, many_mono}
use Rattle.split.specs.State.{Owned, ring}

-- ring, taken apart and made
pub ring_is : (n : ℕ) (own : ℕ → ℕ) (l : ℕ) → T (ring n own l) → (own l ≡ l) × ((v : ℕ) × (v < n) × (v ≡ l → ⊥) × (own v ≡ l))
unfolding ring
ring_is n own l t =
    let (v, h, s) = (some_below_iff n (λ v. not (eqb v l) && eqb (own v) l)).0 (and_r (eqb (own l) l) _ t) in
    (eqb→eq (own l) l (and_l (eqb (own l) l) _ t), (v, h, λ e. T_not (eqb v l) (and_l (not (eqb v l)) _ s) (eq_t v l e), eqb→eq (own v) l (and_r (not (eqb v l)) _ s)))

pub is_ring : (n : ℕ) (own : ℕ → ℕ) (l v : ℕ) → own l ≡ l → v < n → (v ≡ l → ⊥) → own v ≡ l → T (ring n own l)
unfolding ring
is_ring n own l v e h o f =
    and_make (eqb (own l) l) _ (eq_t (own l) l e) ((some_below_iff n (λ v. not (eqb v l) && eqb (own v) l)).1
    (v, h, and_make (not (eqb v l)) _ (not_T (eqb v l) (λ t. o (eqb→eq v l t))) (eq_t (own v) l f)))

-- new labels are all j
pub rings_one : (n : ℕ) (own own' : ℕ → ℕ) (j : ℕ) → ((v : ℕ) → v < n → own' v < n → (own' v ≡ own v) ⊎ (own' v ≡ j))
    → many (ring n own') n ≤ many (ring n own) n + 1
rings_one n own own' j one = many_one (ring n own) (ring n own') n j (λ i l o t.
    let (e, (v, h, d, f)) = ring_is n own' i t in
    let keep : (u : ℕ) → u < n → own' u ≡ i → own u ≡ i = λ u m g. ⊎_elim (λ s. sym s ∙ g) (λ s. absurd (o (sym g ∙ s))) (one u m (omega (arith, g))) in
    is_ring n own i v (keep i l e) h d (keep v h f))

-- new labels are each a vertex's own, of a vertex alone
pub rings_none : (n : ℕ) (own own' : ℕ → ℕ) → ((v : ℕ) → v < n → own' v < n → (own' v ≡ own v) ⊎ ((own' v ≡ v) × ((u : ℕ) → u < n → own' u ≡ v → u ≡ v)))
    → many (ring n own') n ≤ many (ring n own) n
rings_none n own own' one = many_mono (ring n own') (ring n own) n (λ i l t.
    let (e, (v, h, d, f)) = ring_is n own' i t in
    let p : own i ≡ i = ⊎_elim (λ s. sym s ∙ e) (λ s. absurd (d (s.1 v h f))) (one i l (omega (arith, e))) in
    is_ring n own i v p h d (⊎_elim (λ s. sym s ∙ f) (λ s. absurd (d (sym s.0 ∙ f))) (one v h (omega (arith, f)))))

-- new labels are those of components alone
pub rings_alone : {g : Graph} (own own' : ℕ → ℕ) {top : ℕ} → Owned g own' top → ((v : ℕ) → v < g.n → own' v < g.n → (own' v ≡ own v) ⊎ ((own' v ≡ v) × Alone g v))
    → many (ring g.n own') g.n ≤ many (ring g.n own) g.n
rings_alone {g} own own' o one = rings_none g.n own own' (λ v l t. ⊎_elim
    (λ x. inl x)
    (λ x. inr (x.0, λ u h e. let i : IsLabel g u (own' u) = o.right u h (omega (arith, e)) in sym (x.1 u (same_sym (rw e at i.member)))))
    (one v l t))
