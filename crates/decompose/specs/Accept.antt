-- The tests of a call: what was lent, and what was chosen.
use Rattle.std.specs.Prelude.{ℕ, ◌<◌, ◌≡◌, ◌⊎◌, not, Result, MatchResult, eqb, ltb}
use Rattle.graph.specs.Limits.{wrong_length, memory_short, list_short}
use Rattle.graph.specs.Refusal.{given, ◌or◌, lacking}
use Rattle.graph.specs.declared.refusal.Refusal.{Refusal}
use Rattle.graph.specs.declared.refusal.Refusal.TheVariants.{UnknownChoice}
use Rattle.pivot.specs.Kinds.{kind_of}
use Rattle.sweep.specs.Methods.{slicing_of}
use Rattle.machine.specs.Orders.{order_of}
use Rattle.decompose.specs.declared.accept.Choice.{Choice}

-- the number k of the table check, else the first of 5, 6, 7 that applies, else 0
unfoldable pub lent_refusal : (k n edges label waiting numbers words : ℕ) → ℕ
lent_refusal k n edges label waiting numbers words =
    k
    or given wrong_length (not (eqb label n))
    or given memory_short (lacking n edges numbers words)
    or given list_short (ltb waiting n)

-- a choice has these numbers
pub record Named (m o k : ℕ) (x : Choice) : Type 0 where
  pub method : slicing_of x.method ≡ m
  pub order : order_of x.order ≡ o
  pub pivots : kind_of x.pivots ≡ k

-- the choice by its numbers, unless one of them is unknown
abbrev pub Chosen : (method order kind : ℕ) → Result Choice Refusal → Type 0
Chosen method order kind r = MatchResult r (Named method order kind) (λ e. (e ≡ UnknownChoice) × ((1 < method) ⊎ ((2 < kind) ⊎ (1 < order))))
