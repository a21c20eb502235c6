-- The methods by their numbers.
use Rattle.std.specs.Prelude.{◌≡◌, ℕ, ◌<◌, Result, MatchResult}
use Rattle.graph.specs.declared.refusal.Refusal.{Refusal}
use Rattle.graph.specs.declared.refusal.Refusal.TheVariants.{UnknownChoice}
use Rattle.sweep.specs.declared.Method.{Method}
use Rattle.sweep.specs.declared.Method.TheVariants.{Split, Slice}

abbrev pub slicing_of : Method → ℕ
slicing_of Split = 0
slicing_of Slice = 1

-- 0 and 1 give their methods, and any other number is refused
abbrev pub Reads : ℕ → Result Method Refusal → Type 0
Reads k r = MatchResult r (λ m. slicing_of m ≡ k) (λ e. (e ≡ UnknownChoice) × (1 < k))
