-- The search for C.
use Rattle.std.specs.Prelude.{ℕ, ◌≡◌, Result, Bool, List}
use Rattle.reach.specs.Search.{Call, Promise}
use Rattle.graph.specs.declared.refusal.Refusal.{Refusal}
use Rattle.reach.specs.declared.Found.{Found}
use Rattle.surface.specs.Told.{told}

-- C gets an answer that meets the search's promise
pub record Searched (c : Call) (backward : Bool) (vertices edges : ℕ) (reached numbers words : List ℕ) (out : ℕ × ℕ × ℕ) : Type 0 where
  pub answer : Result Found Refusal
  pub promised : Promise c backward reached numbers words answer
  pub gives : out ≡ told (λ (f : Found). (0, f.vertices, f.edges)) (λ k. (k, vertices, edges)) answer
