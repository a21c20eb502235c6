-- The set that the search promises is the one that rounds over the edges compute.
use Prim.Native.Nat.{ℕ, ◌<◌}
use mathlib.Core.Path.{◌≡◌, sym}
use mathlib.Core.Logic.{◌↔◌}
use mathlib.Core.Bool.{Bool, true, false}
use mathlib.Core.List.{List}
use lib.Dec.{T}
use Rattle.graph.specs.Numbers.{mark}
use Rattle.graph.specs.Graph.{Graph, Part, Valid}
use Rattle.graph.specs.Parts.{Fwd}
use Rattle.graph.specs.Search.{reached}
use Rattle.graph.specs.Sets.{bit, members}
use Rattle.graph.proofs.Chains.{reach_wider, valid_rev}
use Rattle.graph.proofs.Search.{reached_iff}
use Rattle.sets.proofs.Sizes.{members_in, members_out}
use Rattle.reach.specs.Search.{Call, collection, table_of, Finished, Promise}
use Rattle.std.proofs.Common.{Ok}
use Rattle.reach.proofs.Outcome.{table_ask}

-- what is reached does not depend on how the sets are given
fwd_wider : {g : Graph} {P Q X Y : Part} → ((v : ℕ) → P v → Q v) → ((v : ℕ) → X v → Y v) → (v : ℕ) → Fwd g P X v → Fwd g Q Y v
fwd_wider {g} {P} {Q} f h v (x, i, r) = (x, h x i, reach_wider {g = g} {P = P} {Q = Q} f r)

module _ (c : Call) (r w ws : List ℕ) (k e : ℕ) where
  computed : (b : Bool) → Valid (table_of c b) → Finished (collection c) c b r w ws k e → (v : ℕ) → v < (table_of c b).n
      → (bit r v ≡ 1) ↔ T (mark (reached (table_of c b) (members c.n c.permitted) (members c.n c.starts)) v)
  computed b ok f v l =
      let it = reached_iff {g = table_of c b} ok (members c.n c.permitted) (members c.n c.starts) v l in (
        λ h. it.1 (fwd_wider {g = table_of c b} (members_in c.n c.permitted) (members_in c.n c.starts) v (f.sound v h)),
        λ t. f.complete v (fwd_wider {g = table_of c b} (members_out c.n c.permitted) (members_out c.n c.starts) v (it.0 t)),
      )

  pub search_computed : (b : Bool) → Promise c b r w ws (Ok (record { vertices = k; edges = e })) → (v : ℕ) → v < c.n
      → (bit r v ≡ 1) ↔ T (mark (reached (table_of c b) (members c.n c.permitted) (members c.n c.starts)) v)
  search_computed true p v l = computed true (valid_rev (table_ask c (sym p.refusal)).valid) p.gives v l
  search_computed false p v l = computed false (table_ask c (sym p.refusal)).valid p.gives v l
