-- Classes of right labels: every chain from a label to a vertex of its class stays in the class.
use Prim.Native.Nat.{ℕ, suc, ◌<◌}
use mathlib.Core.Path.{◌≡◌, sym}
use mathlib.Core.List.{List}
use Rattle.graph.specs.Graph.{Graph, Valid, Chain, stay, step, Reach, Same, all}
use Rattle.graph.specs.Checker.{at}
use Rattle.graph.specs.Certificate.{Right, dist_of}
use Rattle.graph.proofs.Chains.{chain_wider, reach_join, reach_edge, same_refl, same_sym, same_trans, same_low, label_unique, label_same}
use Rattle.graph.proofs.Distance.{dist_unique, dist_is}
use Rattle.graph.proofs.Rank.{Tells}
use Rattle.classes.specs.Classes.{class, OwnLabels, Near}

module _ {g : Graph} (ok : Valid g) (lab : List ℕ) (right : Right g lab) where
  -- right labels tell components apart
  pub right_tells : Tells g (at lab)
  right_tells u v k l = (
    λ q. same_trans (right u k).member (rw (← q) at (same_sym (right v l).member)),
    λ s. label_unique (label_same s (right u k)) (right v l),
  )

  pub right_low : (v : ℕ) → v < g.n → at lab v < g.n
  right_low v l = same_low ok (right v l).member l

  pub right_own : OwnLabels g.n lab
  right_own v l = (
    (right v l).least v same_refl,
    (right_tells (at lab v) v (right_low v l) l).1 (same_sym (right v l).member),
  )

  module _ (v : ℕ) (l : v < g.n) where
    -- what the label reaches and what reaches v is in the class
    between : (x : ℕ) → Reach g all (at lab v) x → Reach g all x v → class lab (at lab v) x
    between x there back =
        let s : Same g v x = record { there = reach_join (right v l).member.there there; back = back } in
        sym ((right_tells v x l (same_low ok s l)).1 s)

    inside : {h x : ℕ} → Chain g all h x v → Reach g all (at lab v) x → Chain g (class lab (at lab v)) h x v
    inside {x = x} (stay p) r = stay (between v r (0, stay tt))
    inside {x = x} (step {h = h} {v = w} e p y c) r =
        step e (between x r (suc h, step e p y c)) y (inside c (reach_join r (reach_edge e tt tt y)))

    pub stays_inside : (h : ℕ) → Chain g all h (at lab v) v → Chain g (class lab (at lab v)) h (at lab v) v
    stays_inside h c = inside c (0, stay tt)

    -- so every vertex is reached inside its class
    pub reached_inside : (h : ℕ) × Chain g (class lab (at lab v)) h (at lab v) v
    reached_inside = let (h, c) = (right v l).member.back in (h, stays_inside h c)

    -- and the distance inside the class is the distance
    pub near_is : (d : ℕ) → Near g lab v d → d ≡ dist_of g (at lab v) v
    near_is d x =
        dist_unique
        (record { chain = chain_wider (λ y t. tt) x.chain; shortest = λ h c. x.shortest h (stays_inside h c) })
        (dist_is ok (at lab v) v (right_low v l) l (right v l).member.back)
