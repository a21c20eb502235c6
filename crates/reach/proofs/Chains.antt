-- What the search promises, by chains and columns.
use Prim.Native.Nat.{ℕ}
use mathlib.Core.Path.{◌≡◌, ap, subst₂, ◌∙◌}
use mathlib.Core.Logic.{◌↔◌}
use mathlib.Core.Bool.{Bool, true, false, ◌&&◌}
use mathlib.Core.List.{List}
use lib.ListN.{length, get_or}
use Rattle.graph.specs.Numbers.{many}
use Rattle.graph.specs.Graph.{Graph, Chain, Kinds, graph, in_mask, table, full_mask}
use Rattle.graph.specs.Refusal.{plain_refusal}
use Rattle.graph.specs.Search.{looked}
use Rattle.graph.specs.Sets.{bit, Members, members}
use Rattle.graph.proofs.Masks.{table_full, refusal_full}
use Rattle.reach.specs.Search.{Call, bare, refusal_on, table_of, PromiseOn, Promise}
use Rattle.std.proofs.Common.{Result, Ok, Err}
use Rattle.graph.specs.declared.refusal.Refusal.{Refusal}
use Rattle.reach.specs.declared.Found.{Found}

module _ (c : Call) (r w ws : List ℕ) (k e : ℕ) where
  -- v is in the set exactly if a chain of counted edges leads to it from a start x, and all vertices of the chain, x and v among them, are permitted
  pub search_chain : (b : Bool) → Promise c b r w ws (Ok (record { vertices = k; edges = e })) → (v : ℕ)
      → (bit r v ≡ 1) ↔ ((x h : ℕ) × Members c.n c.starts x × Chain (table_of c b) (Members c.n c.permitted) h x v)
  search_chain b p v = (
    λ i. let (x, s, (h, y)) = p.gives.sound v i in (x, h, s, y),
    λ (x, h, s, y). p.gives.complete v (x, s, (h, y)),
  )

  -- the number of counted edges whose source is in the set
  pub search_edges : Promise c false r w ws (Ok (record { vertices = k; edges = e }))
      → e ≡ many (λ i. in_mask c.mask (get_or c.kinds i 0) && members c.n r (get_or c.sources i 0)) (length c.sources)
  unfolding looked
  search_edges p = p.gives.edges

  -- backward, of those whose target is in it
  pub search_edges_back : Promise c true r w ws (Ok (record { vertices = k; edges = e }))
      → e ≡ many (λ i. in_mask c.mask (get_or c.kinds i 0) && members c.n r (get_or c.targets i 0)) (length c.sources)
  unfolding looked
  search_edges_back p = p.gives.edges

-- a promise reads kinds and mask by its graph and its number alone
bared : {k : ℕ} {g : Graph} (c : Call) (b : Bool) (r w ws : List ℕ) (a : Result Found Refusal) → PromiseOn k g c b r w ws a → PromiseOn k g (bare c) b r w ws a
unfolding refusal_on
bared c b r w ws (Ok f) p =
    let x = p.gives in
    record {
      refusal = p.refusal;
      gives = record {
        long = x.long;
        fit = x.fit;
        sound = x.sound;
        complete = x.complete;
        above = x.above;
        vertices = x.vertices;
        edges = x.edges;
        numbers = x.numbers;
        words = x.words;
      };
    }
bared c b r w ws (Err k) p =
    let x = p.gives in
    record {
      refusal = p.refusal;
      gives = record { refused = x.refused; reached = x.reached; numbers = x.numbers; words = x.words };
    }

-- with kinds from 0 to 7 and the full mask: what is promised of the table without kinds
pub search_full : (c : Call) (b : Bool) (r w ws : List ℕ) (a : Result Found Refusal) → Kinds (length c.sources) c.kinds → c.mask ≡ full_mask → Promise c b r w ws a
    → PromiseOn (plain_refusal c.n c.sources c.targets) (graph c.n c.sources c.targets) (bare c) b r w ws a
search_full c b r w ws a k e p =
    bared c b r w ws a
    (subst₂ (λ (x : ℕ) (g : Graph). PromiseOn x g c b r w ws a)
    (refusal_full c.n c.sources c.targets c.kinds k)
    (ap (table c.n c.sources c.targets c.kinds) e ∙ table_full k c.n c.sources c.targets)
    p)
