-- For which edge a vertex waits.
use Prim.Native.Nat.{ℕ, ◌<◌}
use native.Mathlib.Omega.{arith}
use native.Mathlib.Decide.{ℕ_discrete}
use mathlib.Core.Path.{◌≡◌, refl, sym, ◌∙◌}
use mathlib.Core.Logic.{◌⊎◌, inl, inr, by_cases}
use mathlib.Core.Bool.{Bool, true, false, cond, not, ◌&&◌}
use mathlib.Core.List.{List}
use lib.Dec.{T, eqb}
use borrow.Author.Tests.{eq-eqb, ne_eqb}
use Rattle.graph.specs.Graph.{Graph, from, to}
use Rattle.graph.specs.Checker.{at}
use Rattle.graph.proofs.Tests.{t_dec, cond_true, cond_false}
use Rattle.ranks.specs.Ranks.{lead_of, lead, rise}

pub lead_same : (g : Graph) (lab : List ℕ) (f h : ℕ → ℕ) (e : ℕ) → f (to g e) ≡ h (to g e) → lead g lab f e ≡ lead g lab h e
unfolding lead
lead_same g lab f h e q = rw q

module _ (g : Graph) (lab : List ℕ) (in_edge : ℕ → ℕ) (e : ℕ) where
  -- by which vertex an edge that counts is awaited, its ends tell
  pub lead_counted : T (g.counted e) → lead g lab in_edge e ≡ lead_of g.n lab in_edge (from g e) (to g e) e
  unfolding lead
  lead_counted c = cond_true (g.counted e) (lead_of g.n lab in_edge (from g e) (to g e) e) g.n c

  -- an edge that does not count is awaited by none
  pub lead_uncounted : (T (g.counted e) → ⊥) → lead g lab in_edge e ≡ g.n
  unfolding lead
  lead_uncounted o = cond_false (g.counted e) (lead_of g.n lab in_edge (from g e) (to g e) e) g.n o

  pub lead_counts : lead g lab in_edge e < g.n → T (g.counted e)
  lead_counts l = by_cases (t_dec (g.counted e)) (λ c. c) (λ o. absurd (omega (arith, lead_uncounted o)))

  -- its ends name v, and it counts: v waits for it
  pub lead_test : (v : ℕ) → v < g.n → (eqb (lead_of g.n lab in_edge (from g e) (to g e) e) v && g.counted e) ≡ (eqb (lead g lab in_edge e) v && not false)
  unfolding lead
  lead_test v l = go (lead_of g.n lab in_edge (from g e) (to g e) e) (g.counted e)
    where
      and_false : (a : Bool) → (a && false) ≡ false
      and_false true = refl
      and_false false = refl

      and_true : (a : Bool) → (a && true) ≡ a
      and_true true = refl
      and_true false = refl

      go : (t : ℕ) (c : Bool) → (eqb t v && c) ≡ (eqb (cond c t g.n) v && true)
      go t true = refl
      go t false = and_false (eqb t v) ∙ sym (and_true (eqb g.n v) ∙ ne_eqb g.n v (λ q. omega arith))

  -- an edge that changes the label is awaited by the label it leads to
  pub lead_change : T (g.counted e) → (at lab (from g e) ≡ at lab (to g e) → ⊥) → (lead g lab in_edge e ≡ at lab (to g e)) × (rise g lab e ≡ 1)
  unfolding rise
  lead_change c o = (lead_counted c ∙ rw (ne_eqb _ _ o), rw (ne_eqb _ _ o))

  -- an in-edge is awaited by the vertex it enters
  pub lead_in : T (g.counted e) → at lab (from g e) ≡ at lab (to g e) → in_edge (to g e) ≡ e → (lead g lab in_edge e ≡ to g e) × (rise g lab e ≡ 0)
  unfolding rise
  lead_in c s q = (lead_counted c ∙ rw (eq-eqb _ _ s, eq-eqb _ _ q), rw (eq-eqb _ _ s))

  -- no other is awaited
  pub lead_none : T (g.counted e) → at lab (from g e) ≡ at lab (to g e) → (in_edge (to g e) ≡ e → ⊥) → lead g lab in_edge e ≡ g.n
  lead_none c s o = lead_counted c ∙ rw (eq-eqb _ _ s, ne_eqb _ _ o)

  -- the ways in which v awaits e
  pub awaits : (v : ℕ) → v < g.n → lead g lab in_edge e ≡ v
      → ((at lab (from g e) ≡ at lab (to g e)) × (in_edge v ≡ e) × (to g e ≡ v) × (rise g lab e ≡ 0))
      ⊎ ((at lab (from g e) ≡ at lab (to g e) → ⊥) × (at lab (to g e) ≡ v) × (rise g lab e ≡ 1))
  awaits v l q = go (lead_counts (omega arith)) (ℕ_discrete (at lab (from g e)) (at lab (to g e))) (ℕ_discrete (in_edge (to g e)) e)
    where
      go : T (g.counted e) → Dec (at lab (from g e) ≡ at lab (to g e)) → Dec (in_edge (to g e) ≡ e)
          → ((at lab (from g e) ≡ at lab (to g e)) × (in_edge v ≡ e) × (to g e ≡ v) × (rise g lab e ≡ 0))
          ⊎ ((at lab (from g e) ≡ at lab (to g e) → ⊥) × (at lab (to g e) ≡ v) × (rise g lab e ≡ 1))
      go c (yes s) (yes i) =
          let (a, r) = lead_in c s i in
          let t : to g e ≡ v = sym a ∙ q in
          inl (s, rw t at i, t, r)
      go c (yes s) (no o) = absurd (omega (arith, lead_none c s o))
      go c (no o) _ = let (a, r) = lead_change c o in inr (o, sym a ∙ q, r)
