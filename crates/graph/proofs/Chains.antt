-- Chains of edges: joined, turned, restricted. Components: an equivalence, the same with every arrow turned.
use Prim.Native.Nat.{ℕ, zero, suc, ◌+◌, ◌≤◌, ◌<◌}
use native.Mathlib.Omega.{arith}
use native.Mathlib.Nat.{zero-add, suc-add}
use mathlib.Core.Path.{◌≡◌, refl, ap}
use mathlib.Core.List.{List}
use lib.ListN.{length, get_or}
use Rattle.graph.specs.Graph.{Graph, Part, Valid, Edge, Chain, stay, step, Reach, Same, IsLabel, in_mask, table, rev}

module _ {g : Graph} {P : Part} where
  pub chain_first : {h u v : ℕ} → Chain g P h u v → P u
  chain_first (stay p) = p
  chain_first (step e p x c) = p

  pub chain_last : {h u v : ℕ} → Chain g P h u v → P v
  chain_last (stay p) = p
  chain_last (step e p x c) = chain_last c

  pub chain_join : {h k u v w : ℕ} → Chain g P h u v → Chain g P k v w → Chain g P (h + k) u w
  chain_join (stay p) d = rw zero-add d
  chain_join (step e p x c) d = rw suc-add (step e p x (chain_join c d))

  pub chain_snoc : {h u v w : ℕ} (e : ℕ) → Chain g P h u v → Edge g e v w → P w → Chain g P (suc h) u w
  chain_snoc e (stay p) x q = step e p x (stay q)
  chain_snoc e (step f p y c) x q = step f p y (chain_snoc e c x q)

  -- the last edge of a chain that has one
  pub chain_unsnoc : {h u v w : ℕ} (e : ℕ) → P u → Edge g e u v → Chain g P h v w
      → (x f : ℕ) × Chain g P h u x × Edge g f x w × P w
  chain_unsnoc {u = u} e p x (stay q) = (u, e, stay p, x, q)
  chain_unsnoc e p x (step f q y c) =
      let (a, b, c', y', r) = chain_unsnoc f q y c in
      (a, b, step e p x c', y', r)

  pub chain_end : {h u v : ℕ} → Chain g P (suc h) u v → (x f : ℕ) × Chain g P h u x × Edge g f x v × P v
  chain_end (step e p x c) = chain_unsnoc e p x c

  -- a chain of no edge stands still
  pub chain_still : {u v : ℕ} → Chain g P zero u v → u ≡ v
  chain_still (stay p) = refl

  pub reach_self : {u : ℕ} → P u → Reach g P u u
  reach_self p = (zero, stay p)

  pub reach_join : {u v w : ℕ} → Reach g P u v → Reach g P v w → Reach g P u w
  reach_join a b = (a.0 + b.0, chain_join a.1 b.1)

  pub reach_edge : {u v : ℕ} (e : ℕ) → P u → P v → Edge g e u v → Reach g P u v
  reach_edge e p q x = (1, step e p x (stay q))

-- a larger part
module _ {g : Graph} {P Q : Part} (f : (v : ℕ) → P v → Q v) where
  pub chain_wider : {h u v : ℕ} → Chain g P h u v → Chain g Q h u v
  chain_wider (stay {u = u} p) = stay (f u p)
  chain_wider (step {u = u} e p x c) = step e (f u p) x (chain_wider c)

  pub reach_wider : {u v : ℕ} → Reach g P u v → Reach g Q u v
  reach_wider r = (r.0, chain_wider r.1)

-- the turned table
pub valid_rev : {g : Graph} → Valid g → Valid (rev g)
valid_rev ok =
    record {
      long = ok.same;
      same = ok.long;
      from_low = ok.to_low;
      to_low = ok.from_low;
    }

pub edge_rev : {g : Graph} {e u v : ℕ} → Edge g e u v → Edge (rev g) e v u
edge_rev x = record { low = x.low; counts = x.counts; leaves = x.enters; enters = x.leaves }

pub chain_rev : {g : Graph} {P : Part} {h u v : ℕ} → Chain g P h u v → Chain (rev g) P h v u
chain_rev (stay p) = stay p
chain_rev (step e p x c) = chain_snoc e (chain_rev c) (edge_rev x) p

pub reach_rev : {g : Graph} {P : Part} {u v : ℕ} → Reach g P u v → Reach (rev g) P v u
reach_rev r = (r.0, chain_rev r.1)

pub same_rev : {g : Graph} {u v : ℕ} → Same g u v → Same (rev g) u v
same_rev s = record { there = reach_rev s.back; back = reach_rev s.there }

pub label_rev : {g : Graph} {v l : ℕ} → IsLabel g v l → IsLabel (rev g) v l
label_rev l = record { member = same_rev l.member; least = λ w s. l.least w (same_rev s) }

-- components
module _ {g : Graph} where
  pub same_refl : {u : ℕ} → Same g u u
  same_refl = record { there = reach_self tt; back = reach_self tt }

  pub same_sym : {u v : ℕ} → Same g u v → Same g v u
  same_sym s = record { there = s.back; back = s.there }

  pub same_trans : {u v w : ℕ} → Same g u v → Same g v w → Same g u w
  same_trans s t = record { there = reach_join s.there t.there; back = reach_join t.back s.back }

  pub label_unique : {v l m : ℕ} → IsLabel g v l → IsLabel g v m → l ≡ m
  label_unique {l = l} {m = m} a b =
      let p : l ≤ m = a.least m b.member in
      let q : m ≤ l = b.least l a.member in
      omega arith

  -- the members of one component have one label
  pub label_same : {u v l : ℕ} → Same g u v → IsLabel g u l → IsLabel g v l
  label_same s a = record { member = same_trans (same_sym s) a.member; least = λ w t. a.least w (same_trans s t) }

-- a chain from or to a vertex of the table stays in it
module _ {g : Graph} (ok : Valid g) where
  pub edge_from_low : {e u v : ℕ} → Edge g e u v → u < g.n
  edge_from_low {e} x = rw (← x.leaves) (ok.from_low e x.low)

  pub edge_to_low : {e u v : ℕ} → Edge g e u v → v < g.n
  edge_to_low {e} x = rw (← x.enters) (ok.to_low e x.low)

  pub chain_to_low : {P : Part} {h u v : ℕ} → Chain g P h u v → u < g.n → v < g.n
  chain_to_low (stay p) l = l
  chain_to_low (step e p x c) l = chain_to_low c (edge_to_low x)

pub same_low : {g : Graph} {u v : ℕ} → Valid g → Same g u v → u < g.n → v < g.n
same_low ok s l = chain_to_low ok s.there.1 l

-- the columns changed places: the same as the table turned
pub table_turned : (n : ℕ) (s t kinds : List ℕ) (mask : ℕ) → length t ≡ length s → table n t s kinds mask ≡ rev (table n s t kinds mask)
table_turned n s t kinds mask e = ap {B = Graph} (λ (m : ℕ). record { n = n; m = m; src = t; tgt = s; counted = λ e. in_mask mask (get_or kinds e 0) }) e
