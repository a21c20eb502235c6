-- The writer of a label file for C.
use Rattle.std.specs.Prelude.{ℕ, ◌≡◌, Result, List}
use Rattle.labels.specs.Promise.{Promise}
use Rattle.graph.specs.declared.refusal.Refusal.{Refusal}
use Rattle.surface.specs.Told.{told}

-- C gets an answer that meets the writer's promise; out is the buffer before, out' after the call
pub record Written (label out : List ℕ) (bytes : ℕ) (out' : List ℕ) (got : ℕ × ℕ) : Type 0 where
  pub answer : Result ℕ Refusal
  pub promised : Promise label out answer out'
  pub gives : got ≡ told (λ (b : ℕ). (0, b)) (λ k. (k, bytes)) answer
