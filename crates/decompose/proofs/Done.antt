-- What the promise of a completed call says, in the words of the relations.
use Prim.Native.Nat.{ℕ, ◌<◌}
use mathlib.Core.Path.{◌≡◌, sym, ap, subst₂, ◌∙◌}
use lib.ListN.{length, get_or}
use Rattle.graph.specs.Graph.{Graph, graph, table, full_mask, Kinds, IsLabel}
use Rattle.graph.specs.Refusal.{plain_refusal}
use Rattle.graph.specs.Apart.{ChoiceAt}
use Rattle.graph.proofs.Certificate.{right_labels}
use Rattle.graph.proofs.Masks.{table_full, refusal_full}
use Rattle.std.proofs.Common.{Result, Ok, Err}
use Rattle.graph.specs.declared.refusal.Refusal.{Refusal}
use Rattle.decompose.specs.Promise.{Call, After, collection, bare, PromiseOn, Promise}
use Rattle.decompose.proofs.Accepting.{accepted}
use Rattle.decompose.proofs.Coursing.{course_choice}

module _ {c : Call} {a : After} {d : ℕ} (p : Promise c a (Ok d)) where
  -- the label of v is the smallest vertex of its component
  pub done_label : (v : ℕ) → v < c.n → IsLabel (collection c) v (get_or a.label v 0)
  done_label v l = rw p.gives.label (right_labels ((accepted (sym p.refusal)).lent.valid c.mask) v l)

  -- every choice was made where the course stood, and was the pivot that the pivot kind gives
  pub done_choice : (i : ℕ) → i < p.gives.choices → ChoiceAt (collection c) c.method c.order c.chooser.kind c.chooser.state c.list i
  done_choice = course_choice p.gives.course.course

-- what is promised of a graph does not look at the call's kinds and mask
bared : {k : ℕ} {g : Graph} {c : Call} {a : After} (r : Result ℕ Refusal) → PromiseOn k g c a r → PromiseOn k g (bare c) a r
bared (Ok d) p =
    let x = p.gives in
    record {
      refusal = p.refusal;
      gives =
          record {
            label = x.label;
            choices = x.choices;
            course = x.course;
            drawn = x.drawn;
            never = x.never;
            least = x.least;
            most = x.most;
            state = x.state;
            kind = x.kind;
            waiting = x.waiting;
            numbers = x.numbers;
            words = x.words;
          };
    }
bared (Err k) p =
    let x = p.gives in
    record { refusal = p.refusal; gives = record { refused = x.refused; chooser = x.chooser; waiting = x.waiting; label = x.label; numbers = x.numbers; words = x.words } }

-- with kinds from 0 to 7 and the full mask: what is promised of the table without kinds
pub decompose_full : {c : Call} {a : After} {r : Result ℕ Refusal} → Kinds (length c.sources) c.kinds → c.mask ≡ full_mask → Promise c a r
    → PromiseOn (plain_refusal c.n c.sources c.targets) (graph c.n c.sources c.targets) (bare c) a r
decompose_full {c} {a} {r} k e p =
    let as_plain : collection c ≡ graph c.n c.sources c.targets = ap (table c.n c.sources c.targets c.kinds) e ∙ table_full k c.n c.sources c.targets in
    bared r (subst₂ (λ (x : ℕ) (g : Graph). PromiseOn x g c a r) (refusal_full c.n c.sources c.targets c.kinds k) as_plain p)
