-- The decomposer for C.
use Rattle.std.specs.Prelude.{ℕ, ◌≡◌, Result}
use Rattle.decompose.specs.Promise.{Call, After, Promise}
use Rattle.graph.specs.declared.refusal.Refusal.{Refusal}
use Rattle.surface.specs.Told.{told}

-- C gets an answer that meets the decomposer's promise
pub record Decomposed (c : Call) (draws : ℕ) (a : After) (out : ℕ × ℕ) : Type 0 where
  pub answer : Result ℕ Refusal
  pub promised : Promise c a answer
  pub gives : out ≡ told (λ (d : ℕ). (0, d)) (λ k. (k, draws)) answer
