-- Trimming for C.
use Rattle.std.specs.Prelude.{ℕ, ◌≡◌, Result, List}
use Rattle.trim.specs.Promise.{Call, Promise}
use Rattle.graph.specs.declared.refusal.Refusal.{Refusal}
use Rattle.surface.specs.Told.{told}

-- C gets an answer that meets the promise of trimming
pub record Trimmed (c : Call) (vertices : ℕ) (left numbers words : List ℕ) (out : ℕ × ℕ) : Type 0 where
  pub answer : Result ℕ Refusal
  pub promised : Promise c left numbers words answer
  pub gives : out ≡ told (λ (v : ℕ). (0, v)) (λ k. (k, vertices)) answer
