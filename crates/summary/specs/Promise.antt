-- What the summary of a label column promises.
use Rattle.std.specs.Prelude.{ℕ, ◌≡◌, not, List, length, eqb, ltb, Result, IfOk}
use Rattle.graph.specs.Limits.{most_vertices, too_many_vertices, wrong_length, vertex_outside}
use Rattle.graph.specs.Reasons.{said}
use Rattle.graph.specs.declared.refusal.Refusal.{Refusal}
use Rattle.graph.specs.Refusal.{given, ◌or◌, outside}
use Rattle.graph.specs.Summary.{summary}
use Rattle.summary.specs.declared.answer.Summary.{Summary}

-- what the function is given
pub record Call : Type 0 where
  pub n : ℕ
  pub label : List ℕ

unfoldable pub summary_refusal : Call → ℕ
summary_refusal c =
    given too_many_vertices (ltb most_vertices c.n)
    or given wrong_length (not (eqb (length c.label) c.n))
    or given vertex_outside (outside c.n c.label)

-- the three numbers, and none with a refusal
pub record Promise (c : Call) (a : Result Summary Refusal) : Type 0 where
  pub refusal : said a ≡ summary_refusal c
  pub gives : IfOk a (λ s. summary c.n c.label ≡ record { own = s.own; rings = s.rings; largest = s.largest })
