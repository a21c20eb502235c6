-- The answers in words: the vertices are tested in rising order, each by checks 1 to 4, then the edges in rising order by check 5.
use Rattle.std.specs.Prelude.{ℕ, ◌<◌, ◌≡◌, T, Result, Ok, Err}
use Rattle.graph.specs.Graph.{Graph, rev, edges}
use Rattle.graph.specs.Checker.{Columns, check1, check2, check3, check5}
use Rattle.graph.specs.Checker as graph_checker
use Rattle.graph.specs.Reasons.{number_of}
use Rattle.graph.specs.declared.refusal.Refusal.{Refusal}
use Rattle.checker.specs.Promise.{Call, collection, checker_refusal}
use Rattle.checker.specs.declared.Verdict.{Verdict}
use Rattle.checker.specs.declared.Verdict.TheVariants.{Accepted, Failed}

-- k is the first of checks 1 to 4 that vertex v fails
pub data Fails (g : Graph) (c : Columns) (v : ℕ) : ℕ → Type 0 where
  one : (T (check1 c v) → ⊥) → Fails g c v 1
  two : T (check1 c v) → (T (check2 g c v) → ⊥) → Fails g c v 2
  three : T (check1 c v) → T (check2 g c v) → (T (check3 g c.label c.in_edge c.in_dist v) → ⊥) → Fails g c v 3
  four : T (check1 c v) → T (check2 g c v) → T (check3 g c.label c.in_edge c.in_dist v)
      → (T (check3 (rev g) c.label c.out_edge c.out_dist v) → ⊥) → Fails g c v 4

-- check k is the first that fails, at x: the smallest vertex that fails, or where none does the smallest edge
pub data FirstFailed (g : Graph) (c : Columns) : ℕ → ℕ → Type 0 where
  at_vertex : {k v : ℕ} → ((u j : ℕ) → u < v → Fails g c u j → ⊥) → v < g.n → Fails g c v k → FirstFailed g c k v
  at_edge : {e : ℕ} → ((v j : ℕ) → v < g.n → Fails g c v j → ⊥) → ((d : ℕ) → d < e → T (check5 g c d)) → e < edges g → (T (check5 g c e) → ⊥) → FirstFailed g c 5 e

-- what each answer says of a call
unfoldable pub Says : Call → Result Verdict Refusal → Type 0
Says c (Ok Accepted) = (checker_refusal c ≡ 0) × graph_checker.Accepted (collection c) c.given_columns
Says c (Ok (Failed k x)) = (checker_refusal c ≡ 0) × FirstFailed (collection c) c.given_columns k x
Says c (Err r) = checker_refusal c ≡ number_of r
