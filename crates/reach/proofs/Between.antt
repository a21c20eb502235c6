-- Between sets and colours, step by step.
use Prim.Native.Nat.{ℕ, min}
use native.Mathlib.Omega.{arith}
use mathlib.Core.Path.{ap, ◌∙◌}
use mathlib.Core.List.{List}
use lib.ListN.{length}
use Rattle.graph.specs.Sets.{bit}
use Rattle.memory.specs.Memory.{Zeroed}
use Rattle.sets.specs.Changes.{Joined, Shared, Clipped}
use Rattle.sets.proofs.Store.{empty_bit}
use Rattle.reach.specs.Steps.{ChooseAsk, Chosen}

-- the set is emptied, the starts are joined to it, what is permitted is kept, and the bits at n and above are taken off
pub chosen : {n : ℕ} {starts permitted r r₁ r₂ r₃ r₄ : List ℕ} → ChooseAsk n starts permitted r → Zeroed (length starts) r r₁ → Joined r₁ starts r₂ → Shared r₂ permitted r₃ → Clipped n r₃ r₄
    → Chosen n starts permitted r r₄
chosen {n} {starts} {permitted} {r} {r₁} a z j s p = record {
  long = p.long ∙ s.long ∙ j.long ∙ z.long;
  below = λ v l. p.below v l ∙ s.bits v ∙ ap (λ (x : ℕ). min x (bit permitted v)) (j.bits v ∙ omega (arith, empty_bit (length starts) r r₁ (omega (arith, a.starts_long, a.set_long)) z v));
  above = p.above;
}
