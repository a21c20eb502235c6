-- What is left is the greatest tight part of the part given.
use Prim.Native.Nat.{ℕ}
use native.Mathlib.Omega.{arith}
use mathlib.Core.Path.{◌≡◌, ap, subst₂, ◌∙◌}
use mathlib.Core.Logic.{◌↔◌}
use mathlib.Core.List.{List}
use lib.ListN.{length}
use lib.Dec.{T}
use Rattle.graph.specs.Graph.{Graph, Part, Kinds, graph, table, full_mask}
use Rattle.graph.specs.Numbers.{mark}
use Rattle.graph.specs.Parts.{IsCore}
use Rattle.graph.specs.Search.{part}
use Rattle.graph.specs.Refusal.{plain_refusal}
use Rattle.graph.specs.Sets.{Members, members}
use Rattle.graph.proofs.Tests.{t_dec, cond_true, cond_false}
use Rattle.graph.proofs.Masks.{table_full, refusal_full}
use Rattle.graph.proofs.Trim.{core_is}
use Rattle.sets.proofs.Sizes.{members_in, members_out}
use Rattle.trim.specs.Promise.{Call, refusal_on, collection, bare, left_of, PromiseOn, Promise}
use Rattle.std.proofs.Common.{Result, Ok, Err}
use Rattle.graph.specs.declared.refusal.Refusal.{Refusal}

-- what trimming leaves does not depend on how the sets are given
greatest_same : {g : Graph} {A B K L : Part} → ((v : ℕ) → A v ↔ B v) → ((v : ℕ) → K v ↔ L v) → IsCore g A K → IsCore g B L
greatest_same a k i = record {
  inside = λ v t. (a v).0 (i.inside v ((k v).1 t));
  tight = λ v t. let ((e, u, s, x), (f, w, m, y)) = i.tight v ((k v).1 t) in ((e, u, (k u).0 s, x), (f, w, (k w).0 m, y));
  greatest = λ X s t v x. (k v).0 (i.greatest X (λ u z. (a u).1 (s u z)) t v x);
}

module _ (c : Call) (r w ws : List ℕ) (k : ℕ) (p : Promise c r w ws (Ok k)) where
  computed : IsCore (collection c) (part (members c.n c.part)) (part (mark (left_of (collection c) c)))
  computed = core_is (collection c) (members c.n c.part) (λ v t. (members_out c.n c.part v t).0)

  marked : (v : ℕ) → T (mark (left_of (collection c) c) v) → Members c.n r v
  marked v t = ((members_out c.n c.part v (computed.inside v t)).0, p.gives.set v ∙ cond_true (mark (left_of (collection c) c) v) 1 0 t)

  set_marked : (v : ℕ) → Members c.n r v → T (mark (left_of (collection c) c) v)
  set_marked v (l, e) = elim (t_dec (mark (left_of (collection c) c) v)) as (λ _. T (mark (left_of (collection c) c) v)) [
    | yes t ↦ t
    | no o ↦ absurd (omega (arith, e, p.gives.set v, cond_false {A = ℕ} (mark (left_of (collection c) c) v) 1 0 o))
  ]

  -- the vertices of the set `left` are the greatest subset of the part in which counted edges enter and leave every vertex
  pub left_is : IsCore (collection c) (Members c.n c.part) (Members c.n r)
  left_is = greatest_same (λ v. (members_out c.n c.part v, members_in c.n c.part v)) (λ v. (marked v, set_marked v)) computed

-- a promise reads kinds and mask by its graph and its number alone
bared : {k : ℕ} {g : Graph} (c : Call) (r w ws : List ℕ) (a : Result ℕ Refusal) → PromiseOn k g c r w ws a → PromiseOn k g (bare c) r w ws a
unfolding refusal_on
bared c r w ws (Ok k) p =
    let x = p.gives in
    record {
      refusal = p.refusal;
      gives = record {
        long = x.long;
        fit = x.fit;
        set = x.set;
        above = x.above;
        vertices = x.vertices;
        numbers = x.numbers;
        words = x.words;
      };
    }
bared c r w ws (Err k) p =
    let x = p.gives in
    record {
      refusal = p.refusal;
      gives = record { refused = x.refused; left = x.left; numbers = x.numbers; words = x.words };
    }

-- with kinds from 0 to 7 and the full mask: what is promised of the table without kinds
pub trim_full : (c : Call) (r w ws : List ℕ) (a : Result ℕ Refusal) → Kinds (length c.sources) c.kinds → c.mask ≡ full_mask → Promise c r w ws a
    → PromiseOn (plain_refusal c.n c.sources c.targets) (graph c.n c.sources c.targets) (bare c) r w ws a
trim_full c r w ws a k e p =
    bared c r w ws a
    (subst₂ (λ (x : ℕ) (g : Graph). PromiseOn x g c r w ws a)
    (refusal_full c.n c.sources c.targets c.kinds k)
    (ap (table c.n c.sources c.targets c.kinds) e ∙ table_full k c.n c.sources c.targets)
    p)
