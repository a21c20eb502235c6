-- Two answers that meet the promise of one call are equal.
use Prim.Native.Nat.{ℕ}
use mathlib.Core.Path.{◌≡◌, sym, ◌∙◌}
use mathlib.Core.Bool.{Bool}
use mathlib.Core.List.{List}
use mathlib.Core.Logic.{inl, inr}
use Rattle.classes.specs.Search.{Owned}

pub owned_one : (n : ℕ) (lab : List ℕ) (r s : Bool) → Owned n lab r → Owned n lab s → r ≡ s
owned_one n lab r s (inl (a, o)) (inl (b, p)) = a ∙ sym b
owned_one n lab r s (inl (a, o)) (inr (b, p)) = absurd (p o)
owned_one n lab r s (inr (a, o)) (inl (b, p)) = absurd (o p)
owned_one n lab r s (inr (a, o)) (inr (b, p)) = a ∙ sym b
