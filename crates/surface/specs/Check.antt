-- The checker for C.
use Rattle.std.specs.Prelude.{ℕ, ◌≡◌, Result}
use Rattle.checker.specs.Promise.{Call, Promise}
use Rattle.graph.specs.declared.refusal.Refusal.{Refusal}
use Rattle.checker.specs.declared.Verdict.{Verdict}
use Rattle.checker.specs.declared.Verdict.TheVariants.{Accepted, Failed}
use Rattle.surface.specs.Told.{told}

-- the failed check with its place, both 0 if accepted
abbrev pub shown : Verdict → ℕ × ℕ × ℕ
shown Accepted = (0, 0, 0)
shown (Failed k v) = (0, k, v)

-- C gets a verdict that meets the checker's promise
pub record Checked (c : Call) (check place : ℕ) (out : ℕ × ℕ × ℕ) : Type 0 where
  pub answer : Result Verdict Refusal
  pub promised : Promise c answer
  pub gives : out ≡ told shown (λ k. (k, check, place)) answer
