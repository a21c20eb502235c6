-- In- and out-edges: the smallest edges that fit the distances are those of the certificate.
use Prim.Native.Nat.{ℕ, zero, suc, ◌+◌, ◌≤◌, ◌<◌}
use native.Mathlib.Omega.{arith}
use native.Mathlib.Decide.{ℕ_discrete}
use mathlib.Core.Path.{◌≡◌, refl, sym, ◌∙◌}
use mathlib.Core.Logic.{inl, inr, by_cases}
use mathlib.Core.Bool.{Bool, true, false, cond, ◌&&◌}
use mathlib.Core.List.{List}
use lib.Dec.{eqb}
use borrow.Author.Tests.{eq-eqb, ne_eqb, lt-ltb, eqb-true}
use Rattle.graph.specs.Graph.{Graph, Valid, Edge, Chain, stay, edges, from, to}
use Rattle.graph.specs.Numbers.{least}
use Rattle.graph.specs.Checker.{at, no_edge, entry}
use Rattle.graph.proofs.Tests.{T_true}
use Rattle.graph.proofs.Chains.{chain_end, chain_last, chain_snoc, chain_still, edge_from_low}
use Rattle.graph.proofs.Least.{least_found}
use Rattle.classes.specs.Classes.{class, OwnLabels, Distances}
use Rattle.certificate.specs.Entries.{Fit, fits, FirstFit, Entries}

four : (a b c d : Bool) → (a && b && c && d) ≡ true → (a ≡ true) × (b ≡ true) × (c ≡ true) × (d ≡ true)
four true true true true q = (refl, refl, refl, refl)
four true true true false q = let z : ◌≡◌ {A = ℕ} 0 1 = cc in absurd (omega arith)
four true true false d q = let z : ◌≡◌ {A = ℕ} 0 1 = cc in absurd (omega arith)
four true false c d q = let z : ◌≡◌ {A = ℕ} 0 1 = cc in absurd (omega arith)
four false b c d q = let z : ◌≡◌ {A = ℕ} 0 1 = cc in absurd (omega arith)

module _ (g : Graph) (lab : List ℕ) (d : ℕ → ℕ) (e v : ℕ) where
  pub fits_says : fits g lab d e v ≡ true → Fit g lab d e v
  unfolding fits
  fits_says q =
      let (k, a, b, c) = four (g.counted e) (eqb (to g e) v) (eqb (at lab (from g e)) (at lab v)) (eqb (d v) (d (from g e) + 1)) q in
      record { counts = rw k tt; enters = eqb-true (to g e) v a; same = eqb-true (at lab (from g e)) (at lab v) b; nearer = eqb-true (d v) (d (from g e) + 1) c }

  pub fits_make : Fit g lab d e v → fits g lab d e v ≡ true
  unfolding fits
  fits_make f = rw (T_true (g.counted e) f.counts, eq-eqb (to g e) v f.enters, eq-eqb (at lab (from g e)) (at lab v) f.same, eq-eqb (d v) (d (from g e) + 1) f.nearer)

-- the checker's test of an in-edge is this one
module _ {g : Graph} (ok : Valid g) (lab dist : List ℕ) (d : ℕ → ℕ) (same : (v : ℕ) → v < g.n → d v ≡ at dist v) (low : (v : ℕ) → v < g.n → d v < g.n) where
  pub entry_fits : (e v : ℕ) → e < edges g → v < g.n → entry g lab dist e v ≡ fits g lab d e v
  unfolding entry fits
  entry_fits e v m l =
      let lx : from g e < g.n = ok.from_low e m in
      rw (lt-ltb e (edges g) m, ← (same v l), ← (same (from g e) lx), lt-ltb (d v) g.n (low v l))
      (and_true (g.counted e) (eqb (to g e) v) (eqb (at lab (from g e)) (at lab v)) (eqb (d v) (d (from g e) + 1)))
    where
      and_true : (k a b c : Bool) → (k && a && b && true && c) ≡ (k && a && b && c)
      and_true true true true c = refl
      and_true true true false c = refl
      and_true true false b c = refl
      and_true false a b c = refl

module _ {g : Graph} (ok : Valid g) (lab : List ℕ) (own : OwnLabels g.n lab) (d : ℕ → ℕ) (near : Distances g lab d) where
  -- a label is at distance 0, and no edge fits it
  pub own_zero : (v : ℕ) → v < g.n → at lab v ≡ v → d v ≡ 0
  own_zero v l q = let z : d v ≤ 0 = (near v l).shortest 0 (rw q (stay q)) in omega arith

  -- any other vertex has an edge that fits
  pub fit_there : (v : ℕ) → v < g.n → (at lab v ≡ v → ⊥) → (e : ℕ) × (e < edges g) × (fits g lab d e v ≡ true)
  fit_there v l o = go (d v) refl (near v l).chain
    where
      go : (k : ℕ) → d v ≡ k → Chain g (class lab (at lab v)) k (at lab v) v → (e : ℕ) × (e < edges g) × (fits g lab d e v ≡ true)
      go zero q c = absurd (o (chain_still c))
      go (suc k) q c = last (chain_end c)
        where
          last : (x f : ℕ) × Chain g (class lab (at lab v)) k (at lab v) x × Edge g f x v × (at lab v ≡ at lab v) → (e : ℕ) × (e < edges g) × (fits g lab d e v ≡ true)
          last (x, e, b, y, _) =
              let s : at lab x ≡ at lab v = chain_last b in
              let lx : x < g.n = edge_from_low ok y in
              let p : d x ≤ k = (near x lx).shortest k (rw s b) in
              let c' : Chain g (class lab (at lab v)) (suc (d x)) (at lab v) v = chain_snoc e (rw s at (near x lx).chain) y refl in
              let r : d v ≤ suc (d x) = (near v l).shortest (suc (d x)) c' in
              (e, y.low, fits_make g lab d e v (record { counts = y.counts; enters = y.enters; same = rw y.leaves s; nearer = rw y.leaves (omega arith) }))

  module _ (edge : ℕ → ℕ) (first : Entries g lab d edge) where
    pub own_none : (v : ℕ) → v < g.n → at lab v ≡ v → edge v ≡ no_edge
    own_none v l q = go (first v l)
      where
        go : FirstFit g lab d 0 (edge v) v → edge v ≡ no_edge
        go (inl (z, _)) = z
        go (inr (_, m, f, _)) = absurd (omega (arith, own_zero v l q, (fits_says g lab d (edge v) v f).nearer))

    -- the in-edge of any other vertex fits
    pub edge_fits : (v : ℕ) → v < g.n → (at lab v ≡ v → ⊥) → (edge v < edges g) × Fit g lab d (edge v) v
    edge_fits v l o = go (first v l)
      where
        go : FirstFit g lab d 0 (edge v) v → (edge v < edges g) × Fit g lab d (edge v) v
        go (inl (_, none)) =
            let (e, m, t) = fit_there v l o in
            let z : true ≡ false = sym t ∙ none e (omega arith) m in
            let y : ◌≡◌ {A = ℕ} 0 1 = cc in
            absurd (omega arith)
        go (inr (_, m, f, _)) = (m, fits_says g lab d (edge v) v f)

    -- the certificate's entry
    module _ (dist : List ℕ) (same : (v : ℕ) → v < g.n → d v ≡ at dist v) (low : (v : ℕ) → v < g.n → d v < g.n) where
      pub edge_least : (v : ℕ) → v < g.n → edge v ≡ cond (eqb (at lab v) v) no_edge (least (edges g) (λ e. entry g lab dist e v))
      edge_least v l = by_cases (ℕ_discrete (at lab v) v)
          (λ q. own_none v l q ∙ rw (eq-eqb (at lab v) v q))
          (λ o. rw (ne_eqb (at lab v) v o) (other o (first v l)))
        where
          other : (at lab v ≡ v → ⊥) → FirstFit g lab d 0 (edge v) v → edge v ≡ least (edges g) (λ e. entry g lab dist e v)
          other o (inl (z, none)) = let (e, m, t) = fit_there v l o in let y : true ≡ false = sym t ∙ none e (omega arith) m in let x : ◌≡◌ {A = ℕ} 0 1 = cc in absurd (omega arith)
          other o (inr (_, m, f, none)) =
              least_found (edges g) (λ e. entry g lab dist e v) (edge v) m
              (λ e k. entry_fits ok lab dist d same low e v (omega arith) l ∙ none e (omega arith) k)
              (entry_fits ok lab dist d same low (edge v) v m l ∙ f)
