-- What the writer finds makes the labels right: one rank a class, growing with every change of label.
use Prim.Native.Nat.{ℕ, zero, suc, ◌+◌, ◌≤◌, ◌<◌}
use native.Mathlib.Omega.{arith}
use native.Mathlib.Decide.{ℕ_discrete}
use mathlib.Core.Path.{◌≡◌, refl, sym, ap, ◌∙◌}
use mathlib.Core.Logic.{◌⊎◌, inl, inr}
use mathlib.Core.List.{List}
use Rattle.graph.specs.Graph.{Graph, Valid, IsEdge, Edge, Chain, stay, step, Same, all, rev, from, to}
use Rattle.graph.specs.Checker.{at}
use Rattle.graph.specs.Certificate.{Right, Climb, here, flat, up, rank_of}
use Rattle.graph.proofs.Chains.{chain_wider, chain_to_low, edge_from_low, edge_to_low, reach_rev}
use Rattle.graph.proofs.Loops.{ranks_end}
use Rattle.graph.proofs.Rank.{climb_on, rank_is, rank_unique}
use Rattle.classes.specs.Classes.{OwnLabels, Distances}
use Rattle.ranks.specs.Ranks.{Ranks}
use Rattle.classes.proofs.Inside.{right_tells}

module _ {g : Graph} (ok : Valid g) (lab : List ℕ) (own : OwnLabels g.n lab) (rank : ℕ → ℕ) (ranks : Ranks g lab rank) where
  one_rank : (u v : ℕ) → u < g.n → v < g.n → at lab u ≡ at lab v → rank u ≡ rank v
  one_rank u v k l p = ranks.same u k ∙ ap rank p ∙ sym (ranks.same v l)

  grows_by : (e : ℕ) {u v : ℕ} → Edge g e u v → (at lab u ≡ at lab v → ⊥) → rank u < rank v
  grows_by e x o = rw (← x.leaves, ← x.enters) (ranks.grows e (x.low, x.counts) (λ q. o (rw (x.leaves, x.enters) at q)))

  -- along a chain the label stays, or the rank grows
  along : {h u v : ℕ} → u < g.n → Chain g all h u v → (at lab u ≡ at lab v) ⊎ (rank u < rank v)
  along l (stay p) = inl refl
  along {u = u} {v = v} l (step {v = w} e p x d) =
      let k : w < g.n = edge_to_low ok x in
      join (ℕ_discrete (at lab u) (at lab w)) (along k d) k (chain_to_low ok d k)
    where
      join : Dec (at lab u ≡ at lab w) → (at lab w ≡ at lab v) ⊎ (rank w < rank v) → w < g.n → v < g.n → (at lab u ≡ at lab v) ⊎ (rank u < rank v)
      join (yes p) (inl q) k m = inl (p ∙ q)
      join (yes p) (inr q) k m = inr (omega (arith, one_rank u w l k p))
      join (no p) (inl q) k m = inr (omega (arith, one_rank w v k m q, grows_by e x p))
      join (no p) (inr q) k m = inr (omega (arith, grows_by e x p))

  one_label : {u v : ℕ} → u < g.n → Same g u v → at lab u ≡ at lab v
  one_label {u} {v} l s = go (along l s.there.1) (along (chain_to_low ok s.there.1 l) s.back.1)
    where
      go : (at lab u ≡ at lab v) ⊎ (rank u < rank v) → (at lab v ≡ at lab u) ⊎ (rank v < rank u) → at lab u ≡ at lab v
      go (inl p) q = p
      go (inr p) (inl q) = sym q
      go (inr p) (inr q) = absurd (omega arith)

  module _ (d out : ℕ → ℕ) (near : Distances g lab d) (back : Distances (rev g) lab out) where
    -- THE LABELS ARE RIGHT
    pub labels_right : Right g lab
    labels_right v l =
        record {
          member =
              record {
                there = reach_rev (out v, chain_wider (λ y t. tt) (back v l).chain);
                back = (d v, chain_wider (λ y t. tt) (near v l).chain);
              };
          least = λ w s. let q : at lab v ≡ at lab w = one_label l s in omega (arith, (own w (chain_to_low ok s.there.1 l)).0);
        }

    right : Right g lab
    right = labels_right

    level : (e u v : ℕ) → Edge g e u v → at lab u ≡ at lab v → rank u ≤ rank v
    level e u v x q = omega (arith, one_rank u v (edge_from_low ok x) (edge_to_low ok x) q)

    most : (u : ℕ) {k w : ℕ} → Climb g (at lab) k u w → k ≤ rank w
    most u here = omega arith
    most u (flat {v = x} {w = w} e c y q) = omega (arith, most u c, level e x w y q)
    most u (up {v = x} {w = w} e c y q) = omega (arith, most u c, grows_by e y q)

    -- each rank is the number of label-changing edges on some chain
    path : (r v : ℕ) → v < g.n → rank v ≡ r → (u : ℕ) × Climb g (at lab) r u v
    path zero v l q = (v, here)
    path (suc r) v l q = go (path r) (ranks.attained v l)
      where
        exact : (u k : ℕ) → suc r ≤ k → Climb g (at lab) k u v → (u : ℕ) × Climb g (at lab) (suc r) u v
        exact u k m c = let z : k ≡ suc r = omega (arith, most u c) in (u, rw z at c)

        go : ((v : ℕ) → v < g.n → rank v ≡ r → (u : ℕ) × Climb g (at lab) r u v)
            → (rank v ≡ 0) ⊎ ((e : ℕ) × IsEdge g e × (at lab (from g e) ≡ at lab (to g e) → ⊥) × (at lab (to g e) ≡ at lab v) × (rank v ≡ rank (from g e) + 1))
            → (u : ℕ) × Climb g (at lab) (suc r) u v
        go ih (inl z) = absurd (omega arith)
        go ih (inr (e, (m, t), o, s, z)) =
            let x : Edge g e (from g e) (to g e) = record { low = m; counts = t; leaves = refl; enters = refl } in
            let (u, c) = ih (from g e) (edge_from_low ok x) (omega arith) in
            let same : Same g (to g e) v = (right_tells ok lab right (to g e) v (edge_to_low ok x) l).0 s in
            let (k, more, c') = climb_on ok (at lab) (up e c x o) same.there.1 in
            exact u k more c'

    pub rank_right : (v : ℕ) → v < g.n → rank v ≡ rank_of g (at lab) v
    rank_right v l =
        rank_unique
        (ranks_end (at lab) rank level (λ e u v x o. grows_by e x o) v (path (rank v) v l refl))
        (rank_is ok (at lab) (right_tells ok lab right) v l)
