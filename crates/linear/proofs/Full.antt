-- What the promise of a completed call says, in the words of the relations, and that with the full mask kinds change nothing.
use Prim.Native.Nat.{ℕ, ◌<◌}
use mathlib.Core.Path.{◌≡◌, refl, sym, ap, subst₂, ◌∙◌}
use mathlib.Core.List.{List}
use lib.ListN.{length, get_or}
use Rattle.graph.specs.Graph.{Graph, graph, table, full_mask, Kinds, IsLabel}
use Rattle.graph.specs.Refusal.{plain_refusal}
use Rattle.graph.proofs.Certificate.{right_labels}
use Rattle.graph.proofs.Masks.{table_full, refusal_full}
use Rattle.linear.specs.Promise.{Call, refusal_on, collection, bare, PromiseOn, Promise}
use Rattle.linear.proofs.Whole.{valid}

-- the label of v is the smallest vertex of its component
pub label_right : {c : Call} {l w ws : List ℕ} → Promise c l w ws 0 → (v : ℕ) → v < c.n → IsLabel (collection c) v (get_or l v 0)
label_right {c} p v h = rw (p.finished refl).label (right_labels (valid c (sym p.refusal)) v h)

-- what is promised of a graph does not look at the call's kinds and mask
bared : {k : ℕ} {g : Graph} {c : Call} {l w ws : List ℕ} {r : ℕ} → PromiseOn k g c l w ws r → PromiseOn k g (bare c) l w ws r
unfolding refusal_on
bared p = record {
  refusal = p.refusal;
  finished = λ e. let x = p.finished e in record { label = x.label; numbers = x.numbers; words = x.words };
  untouched = λ o. let x = p.untouched o in record { label = x.label; numbers = x.numbers; words = x.words };
}

-- with kinds from 0 to 7 and the full mask: what is promised of the table without kinds
pub label_full : (c : Call) (l w ws : List ℕ) (r : ℕ) → Kinds (length c.sources) c.kinds → c.mask ≡ full_mask → Promise c l w ws r
    → PromiseOn (plain_refusal c.n c.sources c.targets) (graph c.n c.sources c.targets) (bare c) l w ws r
label_full c l w ws r k e p =
    bared
    (subst₂ (λ (x : ℕ) (g : Graph). PromiseOn x g c l w ws r)
    (refusal_full c.n c.sources c.targets c.kinds k)
    (ap (table c.n c.sources c.targets c.kinds) e ∙ table_full k c.n c.sources c.targets)
    p)
