-- The shortest path for C.
use Rattle.std.specs.Prelude.{ℕ, ◌≡◌, Result, List}
use Rattle.paths.specs.Promise.{Call, Promise}
use Rattle.graph.specs.declared.refusal.Refusal.{Refusal}
use Rattle.surface.specs.Told.{told}

-- C gets an answer that meets the promise of the path
pub record Walked (c : Call) (before : ℕ) (room numbers words : List ℕ) (out : ℕ × ℕ) : Type 0 where
  pub answer : Result ℕ Refusal
  pub promised : Promise c room numbers words answer
  pub gives : out ≡ told (λ (d : ℕ). (0, d)) (λ k. (k, before)) answer
