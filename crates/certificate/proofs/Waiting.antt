-- Peeling: what it gives when every vertex goes, and that with right labels none stays.
use Prim.Native.Nat.{ℕ, zero, suc, ◌+◌, ◌≤◌, ◌<◌}
use native.Mathlib.Omega.{arith}
use native.Mathlib.Decide.{ℕ_discrete}
use mathlib.Core.Path.{◌≡◌, refl, sym, ap, ◌∙◌}
use mathlib.Core.Logic.{◌⊎◌, inl, inr, by_cases}
use mathlib.Core.List.{List}
use lib.Dec.{eqb}
use Rattle.graph.specs.Graph.{Graph, Valid, IsEdge, Edge, Reach, all, rev, edges, from, to}
use Rattle.graph.specs.Limits.{most_edges}
use Rattle.graph.specs.Search.{every, reached}
use Rattle.graph.specs.Checker.{at, no_edge}
use Rattle.graph.specs.Certificate.{Right}
use Rattle.graph.proofs.Chains.{reach_edge}
use Rattle.graph.proofs.Search.{count}
use Rattle.graph.proofs.Rank.{behind_le, behind_lt}
use Rattle.classes.specs.Classes.{OwnLabels, Distances}
use Rattle.certificate.specs.Entries.{Fit, FirstFit, Entries}
use Rattle.ranks.specs.Ranks.{lead, rise, Peeled, Stuck, Ranks}
use Rattle.classes.proofs.Inside.{right_tells}
use Rattle.certificate.proofs.Fitting.{fits_says, own_none, edge_fits}
use Rattle.ranks.proofs.Leads.{lead_counts, lead_change, lead_in, awaits}

module _ {g : Graph} (ok : Valid g) (lab : List ℕ) (own : OwnLabels g.n lab) (d in_edge : ℕ → ℕ) (near : Distances g lab d) (first : Entries g lab d in_edge) (few : edges g ≤ most_edges) where
  low : (v : ℕ) → v < g.n → at lab v < g.n
  low v l = omega (arith, (own v l).0)

  -- "no edge" is no edge
  not_edge : (e : ℕ) → e < edges g → (e ≡ no_edge → ⊥)
  not_edge e m q = omega (arith, few)

  first_fit : (v : ℕ) → v < g.n → (e : ℕ) → in_edge v ≡ e → e < edges g → Fit g lab d e v
  first_fit v l e i m = go (first v l)
    where
      go : FirstFit g lab d 0 (in_edge v) v → Fit g lab d e v
      go (inl (z, _)) = absurd (not_edge e m (sym i ∙ z))
      go (inr (_, _, f, _)) = fits_says g lab d e v (rw i at f)

  module _ (rank : ℕ → ℕ) (all-gone : Peeled g lab in_edge rank) where
    abbrev up_to : ℕ → Type 0
    up_to v = (rank v ≡ 0) ⊎ ((e : ℕ) × (e < edges g) × (lead g lab in_edge e ≡ v) × (rank v ≡ rank (from g e) + rise g lab e))

    -- a vertex that is not its own label has the rank at its in-edge
    from_in : (v : ℕ) → v < g.n → (at lab v ≡ v → ⊥) → rank v ≡ rank (from g (in_edge v))
    from_in v l o = go (edge_fits ok lab own d near in_edge first v l o) (all-gone.attained v l)
      where
        go : (in_edge v < edges g) × Fit g lab d (in_edge v) v → up_to v → rank v ≡ rank (from g (in_edge v))
        go (m, f) way =
            let s : at lab (from g (in_edge v)) ≡ at lab (to g (in_edge v)) = rw f.enters f.same in
            let i : in_edge (to g (in_edge v)) ≡ in_edge v = ap in_edge f.enters in
            let (a, r) = lead_in g lab in_edge (in_edge v) f.counts s i in
            let t : lead g lab in_edge (in_edge v) ≡ v = a ∙ f.enters in
            let more : rank (from g (in_edge v)) + rise g lab (in_edge v) ≤ rank (lead g lab in_edge (in_edge v)) = all-gone.raised (in_edge v) m (omega arith) in
            by way (rw (t, r) at more)
          where
            by : up_to v → rank (from g (in_edge v)) + 0 ≤ rank v → rank v ≡ rank (from g (in_edge v))
            by (inl z) more = omega arith
            by (inr (e, m, q, z)) more = pick (awaits g lab in_edge e v l q)
              where
                pick : ((at lab (from g e) ≡ at lab (to g e)) × (in_edge v ≡ e) × (to g e ≡ v) × (rise g lab e ≡ 0))
                    ⊎ ((at lab (from g e) ≡ at lab (to g e) → ⊥) × (at lab (to g e) ≡ v) × (rise g lab e ≡ 1)) → rank v ≡ rank (from g (in_edge v))
                pick (inl (s, i, t, r)) = rw i (omega arith)
                pick (inr (n, t, r)) = absurd (o (rw t at (own (to g e) (ok.to_low e m)).1))

    -- so a class has one rank
    one_class : (k v : ℕ) → v < g.n → d v ≤ k → rank v ≡ rank (at lab v)
    one_class zero v l q = by_cases (ℕ_discrete (at lab v) v) (λ s. rw s) (λ o. absurd (omega (arith, (edge_fits ok lab own d near in_edge first v l o).1.nearer)))
    one_class (suc k) v l q = go (ℕ_discrete (at lab v) v) (one_class k)
      where
        go : Dec (at lab v ≡ v) → ((u : ℕ) → u < g.n → d u ≤ k → rank u ≡ rank (at lab u)) → rank v ≡ rank (at lab v)
        go (yes s) ih = rw s
        go (no o) ih =
            let (m, f) = edge_fits ok lab own d near in_edge first v l o in
            let u : ℕ = from g (in_edge v) in
            let z : rank u ≡ rank (at lab u) = ih u (ok.from_low (in_edge v) m) (omega (arith, f.nearer)) in
            from_in v l o ∙ z ∙ ap rank f.same

    same_rank : (v : ℕ) → v < g.n → rank v ≡ rank (at lab v)
    same_rank v l = one_class (d v) v l (omega arith)

    grows_there : (e : ℕ) → IsEdge g e → (at lab (from g e) ≡ at lab (to g e) → ⊥) → rank (from g e) < rank (to g e)
    grows_there e (m, t) o =
        let (a, r) = lead_change g lab in_edge e t o in
        let l : to g e < g.n = ok.to_low e m in
        let more : rank (from g e) + rise g lab e ≤ rank (lead g lab in_edge e) = all-gone.raised e m (omega (arith, low (to g e) l)) in
        let more' : rank (from g e) + 1 ≤ rank (at lab (to g e)) = rw (a, r) at more in
        omega (arith, same_rank (to g e) l)

    reached_there : (v : ℕ) → v < g.n → (rank v ≡ 0)
        ⊎ ((e : ℕ) × IsEdge g e × (at lab (from g e) ≡ at lab (to g e) → ⊥) × (at lab (to g e) ≡ at lab v) × (rank v ≡ rank (from g e) + 1))
    reached_there v l = go (all-gone.attained (at lab v) (low v l))
      where
        go : up_to (at lab v) → (rank v ≡ 0)
            ⊎ ((e : ℕ) × IsEdge g e × (at lab (from g e) ≡ at lab (to g e) → ⊥) × (at lab (to g e) ≡ at lab v) × (rank v ≡ rank (from g e) + 1))
        go (inl z) = inl (same_rank v l ∙ z)
        go (inr (e, m, q, z)) = pick (awaits g lab in_edge e (at lab v) (low v l) q)
          where
            pick : ((at lab (from g e) ≡ at lab (to g e)) × (in_edge (at lab v) ≡ e) × (to g e ≡ at lab v) × (rise g lab e ≡ 0))
                ⊎ ((at lab (from g e) ≡ at lab (to g e) → ⊥) × (at lab (to g e) ≡ at lab v) × (rise g lab e ≡ 1))
                → (rank v ≡ 0) ⊎ ((e : ℕ) × IsEdge g e × (at lab (from g e) ≡ at lab (to g e) → ⊥) × (at lab (to g e) ≡ at lab v) × (rank v ≡ rank (from g e) + 1))
            pick (inl (s, i, t, r)) = absurd (not_edge e m (sym i ∙ own_none ok lab own d near in_edge first (at lab v) (low v l) (own v l).1))
            pick (inr (o, t, r)) = inr (e, (m, lead_counts g lab in_edge e (omega (arith, low v l))), o, t, omega (arith, same_rank v l))

    -- EVERY VERTEX GONE: one rank a class, greater where the label changes, and each reached
    pub gone_ranks : Ranks g lab rank
    gone_ranks = record { same = same_rank; grows = grows_there; attained = reached_there }

  -- WITH RIGHT LABELS NO VERTEX STAYS: it would wait for one that fewer reach, or for one nearer to the label
  module _ (right : Right g lab) (counts : ℕ → ℕ) (stuck : Stuck g lab in_edge counts) where
    abbrev behind : ℕ → ℕ
    behind v = count (reached (rev g) every (eqb v))

    abbrev Gone : ℕ → ℕ → Type 0
    Gone a b = (v : ℕ) → v < g.n → behind v ≤ a → d v ≤ b → (counts v ≡ 0 → ⊥) → ⊥

    table_edge : (e : ℕ) → IsEdge g e → Edge g e (from g e) (to g e)
    table_edge e (m, t) = record { low = m; counts = t; leaves = refl; enters = refl }

    next : (a b v : ℕ) → v < g.n → behind v ≤ a → d v ≤ b
        → ((u : ℕ) → u < g.n → behind u < a → (counts u ≡ 0 → ⊥) → ⊥)
        → ((u : ℕ) → u < g.n → behind u ≤ a → d u < b → (counts u ≡ 0 → ⊥) → ⊥)
        → (counts v ≡ 0 → ⊥) → ⊥
    next a b v l p q fewer nearer o = go (stuck.waits v l o)
      where
        go : (e : ℕ) × (e < edges g) × (lead g lab in_edge e ≡ v) × (counts (from g e) ≡ 0 → ⊥) → ⊥
        go (e, m, w, c) = pick (awaits g lab in_edge e v l w)
          where
            lu : from g e < g.n
            lu = ok.from_low e m

            lt : to g e < g.n
            lt = ok.to_low e m

            there : Reach g all (from g e) (to g e)
            there = reach_edge e tt tt (table_edge e (m, lead_counts g lab in_edge e (omega arith)))

            pick : ((at lab (from g e) ≡ at lab (to g e)) × (in_edge v ≡ e) × (to g e ≡ v) × (rise g lab e ≡ 0))
                ⊎ ((at lab (from g e) ≡ at lab (to g e) → ⊥) × (at lab (to g e) ≡ v) × (rise g lab e ≡ 1)) → ⊥
            pick (inl (s, i, t, r)) =
                let f = first_fit v l e i m in
                let k : behind (from g e) ≤ behind v = rw t at (behind_le ok (from g e) (to g e) there) in
                nearer (from g e) lu (omega arith) (omega (arith, f.nearer)) c
            pick (inr (n, t, r)) =
                let back : Reach g all (to g e) (from g e) → ⊥ = λ z. n ((right_tells ok lab right (from g e) (to g e) lu lt).1 (record { there = there; back = z })) in
                let k : behind (from g e) < behind (to g e) = behind_lt ok (from g e) (to g e) lt there back in
                let j : behind (to g e) ≤ behind v = rw t at (behind_le ok (to g e) (at lab (to g e)) (right (to g e) lt).member.there) in
                fewer (from g e) lu (omega arith) c

    none_nearer : (a : ℕ) → ((u : ℕ) → u < g.n → behind u < a → (counts u ≡ 0 → ⊥) → ⊥) → (b : ℕ) → Gone a b
    none_nearer a fewer zero v l p q o = next a zero v l p q fewer (λ u k x y c. omega arith) o
    none_nearer a fewer (suc b) v l p q o = next a (suc b) v l p q fewer (λ u k x y c. none_nearer a fewer b u k x (omega arith) c) o

    none : (a b : ℕ) → Gone a b
    none zero b = none_nearer zero (λ u k x c. omega arith) b
    none (suc a) b = none_nearer (suc a) (λ u k x c. none a (d u) u k (omega arith) (omega arith) c) b

    pub none_stays : ⊥
    none_stays = let (v, l, o) = stuck.stays in none (behind v) (d v) v l (omega arith) (omega arith) o
