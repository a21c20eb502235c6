-- Answers as C gets them.
use Rattle.std.specs.Prelude.{ℕ, Result, Ok, Err}
use Rattle.graph.specs.declared.refusal.Refusal.{Refusal}
use Rattle.graph.specs.Reasons.{number_of}

-- what C gets of an answer: one thing of what was done, another of a refusal's number
unfoldable pub told : {A C : Type 0} → (A → C) → (ℕ → C) → Result A Refusal → C
told done refused (Ok a) = done a
told done refused (Err r) = refused (number_of r)
