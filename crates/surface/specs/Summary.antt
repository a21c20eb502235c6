-- The summary for C.
use Rattle.std.specs.Prelude.{ℕ, ◌≡◌, Result}
use Rattle.summary.specs.Promise.{Call, Promise}
use Rattle.graph.specs.declared.refusal.Refusal.{Refusal}
use Rattle.summary.specs.declared.answer.Summary.{Summary}
use Rattle.surface.specs.Told.{told}

-- C gets an answer that meets the summary's promise
pub record Summed (c : Call) (own rings largest : ℕ) (out : ℕ × ℕ × ℕ × ℕ) : Type 0 where
  pub answer : Result Summary Refusal
  pub promised : Promise c answer
  pub gives : out ≡ told (λ (s : Summary). (0, s.own, s.rings, s.largest)) (λ k. (k, own, rings, largest)) answer
