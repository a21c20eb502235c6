-- What a division asks and draws, as the machine sees it.
use Prim.Native.Nat.{ℕ, ◌+◌, ◌≤◌, ◌<◌}
use native.Mathlib.Omega.{arith}
use native.Mathlib.Decide.{ℕ_discrete}
use mathlib.Core.Path.{◌≡◌, ◌∙◌}
use mathlib.Core.List.{List}
use borrow.Author.Tests.{eq-eqb, ne_eqb}
use Rattle.graph.specs.Graph.{Graph}
use Rattle.parts.specs.Divide.{MethodAsk, Division}
use Rattle.waiting.specs.declared.Part.{Part}
use mathlib.Core.Bool.{cond}
use lib.Dec.{eqb}
use Rattle.sweep.specs.declared.Method.{Method}
use Rattle.sweep.specs.declared.Method.TheVariants.{Split, Slice}
use Rattle.sweep.specs.Methods.{slicing_of}
use Rattle.machine.specs.declared.Machine.{Machine}
use Rattle.machine.specs.declared.Order.{Order}
use Rattle.machine.specs.declared.Order.TheVariants.{Newest, Oldest}
use Rattle.machine.specs.Orders.{order_of}
use Rattle.machine.specs.Machine.{CutAsk, ClearAsk, PartAsk, older_than}
use Rattle.machine.specs.Aim.{wrapped}
use Rattle.machine.proofs.Round.{wrapped_low}

-- a method's number is at most 1
pub method_low : (m : Method) → slicing_of m ≤ 1
method_low Split = omega arith
method_low Slice = omega arith

-- only the whole is divided by method 1
pub cut_ask : {g : Graph} {b slicing : ℕ} {p : Part} {top : ℕ} {w ws : List ℕ} → (slicing ≡ 1 → p.slicing ≡ 1) → CutAsk g b p top w ws → MethodAsk g slicing b p.first top w ws
cut_ask o a = record { ask = a.ask; only = λ e. (a.whole (o e)).first }

-- the part of the record that is taken can be divided
pub taken_part : {g : Graph} {b : ℕ} {p : Part} {s : Machine} {w ws : List ℕ} → PartAsk g b p s w ws → CutAsk g b p s.top w ws
taken_part a = (a.ask.part a.cleared a.given).1

-- kind 1 draws for every pivot, the others never
module _ {g : Graph} {slicing b kind state h top : ℕ} {w ws w' ws' : List ℕ} {state' k top' children : ℕ} (v : Division g slicing b kind state h top w ws w' ws' state' k top' children) where
  pub drawn_none : (kind ≡ 1 → ⊥) → k ≡ 0
  drawn_none q = v.drawn ∙ rw (ne_eqb kind 1 q)

  pub drawn_one : kind ≡ 1 → k ≡ v.pivots
  drawn_one q = v.drawn ∙ rw (eq-eqb kind 1 q)

  pub drawn_few : k ≤ v.pivots
  drawn_few = elim (ℕ_discrete kind 1) as (λ _. k ≤ v.pivots) [ yes q ↦ omega (arith, drawn_one q) | no q ↦ omega (arith, drawn_none q) ]

  pub drawn_most : k ≤ g.n
  drawn_most = omega (arith, drawn_few, v.most)

pub older_low : (n : ℕ) (s : Machine) → ClearAsk n s → older_than n s < n
older_low n s a = of s.order
  where
    after : s.oldest < n → wrapped n (s.oldest + 1) < n
    after o = elim (ℕ_discrete n 1) as (λ _. wrapped n (s.oldest + 1) < n) [
      | yes q ↦ wrapped_low n (s.oldest + 1) (omega arith)
      | no q ↦ wrapped_low n (s.oldest + 1) (omega arith)
    ]

    of : (o : Order) → cond (eqb (order_of o) 0) s.oldest (wrapped n (s.oldest + 1)) < n
    of Newest = a.oldest
    of Oldest = after a.oldest
