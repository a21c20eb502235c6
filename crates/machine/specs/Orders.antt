-- The orders by their numbers.
use Rattle.std.specs.Prelude.{◌≡◌, ℕ, ◌<◌, Result, MatchResult}
use Rattle.graph.specs.declared.refusal.Refusal.{Refusal}
use Rattle.graph.specs.declared.refusal.Refusal.TheVariants.{UnknownChoice}
use Rattle.machine.specs.declared.Order.{Order}
use Rattle.machine.specs.declared.Order.TheVariants.{Newest, Oldest}

abbrev pub order_of : Order → ℕ
order_of Newest = 0
order_of Oldest = 1

-- 0 and 1 give their order, and any other number is refused
abbrev pub Reads : ℕ → Result Order Refusal → Type 0
Reads k r = MatchResult r (λ o. order_of o ≡ k) (λ e. (e ≡ UnknownChoice) × (1 < k))
