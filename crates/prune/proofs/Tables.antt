-- What a loop keeps of some table, of which its question holds, and of every one.
use Prim.Native.Nat.{ℕ}
use Rattle.graph.specs.Graph.{Graph}
use Rattle.graph.specs.Arrows.{Arrows, Some, Every, SomeOf, EveryOf}

-- Ask holds of some table; of it, and of every one of which Ask holds, So holds
abbrev pub Kept : ℕ → (Graph → Type 0) → (Graph → Type 0) → Type 0
Kept n Ask So = Some n (λ g. Ask g × So g) × Every n (λ g. Ask g → So g)

-- the same where the number of edges is known
abbrev pub KeptOf : ℕ → ℕ → (Graph → Type 0) → (Graph → Type 0) → Type 0
KeptOf n m Ask So = SomeOf n m (λ g. Ask g × So g) × EveryOf n m (λ g. Ask g → So g)

module _ {Ask So : Arrows → Type 0} where
  pub kept_none : ((x : Arrows) × Ask x) → ((x : Arrows) → Ask x → So x) → ((x : Arrows) × (Ask x × So x)) × ((x : Arrows) → Ask x → So x)
  kept_none (x, a) f = ((x, (a, f x a)), f)

  pub kept_more : {More : Arrows → Type 0} → ((x : Arrows) × (Ask x × So x)) × ((x : Arrows) → Ask x → So x) → ((x : Arrows) → Ask x → So x → More x)
      → ((x : Arrows) × (Ask x × More x)) × ((x : Arrows) → Ask x → More x)
  kept_more ((x, (a, z)), f) s = ((x, (a, s x a z)), λ y a. s y a (f y a))
