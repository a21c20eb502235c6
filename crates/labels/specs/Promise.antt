-- The writer's promise.
use Rattle.std.specs.Prelude.{ℕ, ◌≡◌, cond, List, ◌++◌, eqb, ltb, length, drop, Result, IfOk}
use Rattle.graph.specs.Limits.{most_vertices, too_many_vertices, room_short}
use Rattle.graph.specs.Reasons.{said}
use Rattle.graph.specs.Refusal.{given, ◌or◌}
use Rattle.graph.specs.declared.refusal.Refusal.{Refusal}
use Rattle.labels.specs.File.{label_file}

unfoldable pub write_refusal : List ℕ → List ℕ → ℕ
write_refusal label out =
    given too_many_vertices (ltb most_vertices (length label))
    or given room_short (ltb (length out) (length (label_file label)))

-- the buffer afterwards: as it was, or with the file at its front
unfoldable pub after : ℕ → List ℕ → List ℕ → List ℕ
after k label out = cond (eqb k 0) (label_file label ++ drop (length (label_file label)) out) out

pub record Promise (label out : List ℕ) (answer : Result ℕ Refusal) (out' : List ℕ) : Type 0 where
  pub refusal : said answer ≡ write_refusal label out
  pub bytes : IfOk answer (λ b. b ≡ length (label_file label))
  pub out_after : out' ≡ after (write_refusal label out) label out
