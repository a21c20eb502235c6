-- Demand 3: the checker accepts right labels only, and what the writer writes for them; given other labels the writer refuses.
use Prim.Native.Nat.{ℕ}
use mathlib.Core.Path.{◌≡◌, ap, ◌∙◌}
use mathlib.Core.List.{List}
use lib.ListN.{length}
use Rattle.graph.specs.Graph.{Graph}
use Rattle.graph.specs.Search.{labels}
use Rattle.graph.specs.Limits.{wrong_labels}
use Rattle.graph.specs.Checker.{Sized}
use Rattle.graph.specs.Certificate.{ranks, distances, entries, certificate}
use Rattle.graph.proofs.Tests.{length_each}
use Rattle.graph.proofs.Refusals.{or_none}
use Rattle.checker.specs.Promise.{checker_refusal, number, outcome}
use Rattle.checker.specs.Promise as checker
use Rattle.std.specs.Prelude.{Result, Ok}
use Rattle.graph.specs.declared.refusal.Refusal.{Refusal}
use Rattle.checker.specs.declared.Verdict.{Verdict}
use Rattle.checker.specs.declared.Verdict.TheVariants.{Accepted}
use Rattle.checker.proofs.Laws.{ready_call}
use Rattle.checker.proofs.Unique.{check_number, accepted_right, certificate_accepted}
use Rattle.certificate.specs.Promise.{Lent, Call, collection, checked, early_on, early_refusal, Promise}
use Rattle.certificate.proofs.Writing.{early_ready, right_none, other_ten}

-- for every outcome of the checker and of the writer that meets its promise
pub record Demand3 : Type 0 where
  -- the checker accepts six columns only if the label column is the right one
  pub accepts : (c : checker.Call) → checker.Promise c (Ok Accepted) → c.given_columns.label ≡ labels (checker.collection c)
  -- the writer, given that column, writes columns the checker accepts
  pub writes : (c : Call) (r : ℕ) (after : Lent) → Promise c r after → early_refusal c ≡ 0 → c.label ≡ labels (collection c)
      → (r ≡ 0) × ((answer : Result Verdict Refusal) → checker.Promise (checked c after) answer → (number (outcome answer) ≡ 0) × (answer ≡ Ok Accepted))
  -- and given any other, refuses
  pub refuses : (c : Call) (r : ℕ) (after : Lent) → Promise c r after → early_refusal c ≡ 0 → (c.label ≡ labels (collection c) → ⊥) → r ≡ wrong_labels

-- columns that are a certificate have its sizes
certificate_sized : (g : Graph) (lab : List ℕ) → length lab ≡ g.n → Sized g.n (certificate g lab)
unfolding certificate ranks distances entries
certificate_sized g lab e =
    record {
      label = e;
      rank = length_each g.n _;
      in_edge = length_each g.n _;
      in_dist = length_each g.n _;
      out_edge = length_each g.n _;
      out_dist = length_each g.n _;
    }

-- the writer, given the labels
module _ (c : Call) (r : ℕ) (after : Lent) (p : Promise c r after) (fine : early_refusal c ≡ 0) (right : c.label ≡ labels (collection c)) where
  done : r ≡ 0
  done = p.number ∙ right_none c fine right

  not_refused : checker_refusal (checked c after) ≡ 0
  unfolding early_on checker.refusal_on
  not_refused =
      ready_call (checked c after) (or_none _ _ (or_none _ _ fine).0).0 (rw (p.written done).0 (certificate_sized (collection c) c.label (early_ready c fine).sized.label))

  judged : (answer : Result Verdict Refusal) → checker.Promise (checked c after) answer → (number (outcome answer) ≡ 0) × (answer ≡ Ok Accepted)
  judged a q = (
    check_number (checked c after) a q ∙ not_refused,
    certificate_accepted (checked c after) a not_refused ((p.written done).0 ∙ ap (certificate (collection c)) right) q,
  )

-- DEMAND 3
pub demand_3 : Demand3
demand_3 =
    record {
      accepts = accepted_right;
      writes = λ c r after p e q. (done c r after p e q, judged c r after p e q);
      refuses = λ c r after p e o. p.number ∙ other_ten c e o;
    }
