-- The kinds of pivots by their numbers.
use Rattle.std.specs.Prelude.{◌≡◌, ℕ, ◌<◌, Result, MatchResult}
use Rattle.graph.specs.declared.refusal.Refusal.{Refusal}
use Rattle.graph.specs.declared.refusal.Refusal.TheVariants.{UnknownChoice}
use Rattle.pivot.specs.declared.chooser.Pivots.{Pivots}
use Rattle.pivot.specs.declared.chooser.Pivots.TheVariants.{Lowest, Drawn, Listed}

abbrev pub kind_of : Pivots → ℕ
kind_of Lowest = 0
kind_of Drawn = 1
kind_of Listed = 2

-- a number from 0 to 2 gives its kind, and any other is refused
abbrev pub Reads : ℕ → Result Pivots Refusal → Type 0
Reads k r = MatchResult r (λ p. kind_of p ≡ k) (λ e. (e ≡ UnknownChoice) × (2 < k))
