-- The reader of a text for C.
use Rattle.std.specs.Prelude.{ℕ, ◌≡◌, Result, List}
use Rattle.text.specs.Promise.{Call, Promise}
use Rattle.graph.specs.declared.refusal.Refusal.{Refusal}
use Rattle.text.specs.declared.Size.{Size}
use Rattle.surface.specs.Told.{told}

-- C gets an answer that meets the reader's promise
pub record Read (c : Call) (n edges : ℕ) (sources targets : List ℕ) (out : ℕ × ℕ × ℕ) : Type 0 where
  pub answer : Result Size Refusal
  pub promised : Promise c answer sources targets
  pub gives : out ≡ told (λ (s : Size). (0, s.n, s.edges)) (λ k. (k, n, edges)) answer
