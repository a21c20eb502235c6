use Rattle.std.proofs.Common.{◌≡◌, ℕ, List, get_or, Some, sym, subst, arith}
use Rattle.graph.specs.Arrows.{Arrows, on, sized, EveryOf}
use Rattle.waiting.specs.declared.Part.{Part}
use Rattle.waiting.specs.Records.{none}
use Rattle.machine.specs.declared.Machine.{Machine}
use Rattle.machine.specs.Machine.{base, StepAsk, Stepped}
use Rattle.decompose.specs.Turns.{DriveAsk, Ran}
use Rattle.decompose.proofs.Driving.{driving_begin, driving_low, driving_read, driving_ask, driving_turn, driving_less}
use Rattle.decompose.proofs.turns.drive.Goals as goal

-- a turn, where the machine has run so far
module _ {n m b : ℕ} {ys : List Part} {num wor : List ℕ} {s₀ : Machine} {parts : List Part} {numbers words : List ℕ} {s : Machine}
    (run : EveryOf n m (λ g. DriveAsk g b ys num wor s₀ → Ran g ys num wor s₀ parts numbers words s)) {i : ℕ} (busy : s.next ≡ Some i) where
  asked : (g : Arrows) → DriveAsk (on n (sized m g)) b ys num wor s₀ → StepAsk (on n (sized m g)) b (get_or parts i none) s numbers words
  asked g q = subst (λ (x : ℕ). StepAsk (on n (sized m g)) x (get_or parts i none) s numbers words) (sym q.base) (driving_ask (run g q) busy)

  stepped : {e : Machine} {num' wor' : List ℕ} → EveryOf n m (λ g. StepAsk g b (get_or parts i none) s numbers words → Stepped g b (get_or parts i none) s numbers words num' wor' e)
      → (g : Arrows) (q : DriveAsk (on n (sized m g)) b ys num wor s₀) → Stepped (on n (sized m g)) (base (on n (sized m g))) (get_or parts i none) s numbers words num' wor' e
  stepped {e} {num'} {wor'} steps g q = subst (λ (x : ℕ). Stepped (on n (sized m g)) x (get_or parts i none) s numbers words num' wor' e) q.base (steps g (asked g q))

pub loop-s-init : goal.loop-s-init
loop-s-init c = λ g q. driving_begin q

pub offset_bounds-parts-i : goal.offset_bounds-parts-i
offset_bounds-parts-i c = let (g, q) = c.requires in omega (arith, driving_low (c.loop-s.invariant g q) c.in-Some.is)

pub slice_copy_out-step : goal.slice_copy_out-step
slice_copy_out-step c = let (g, q) = c.requires in omega (arith, driving_read (c.loop-s.invariant g q) c.in-Some.is)

pub step-s-requires : goal.step-s-requires
step-s-requires c = let (g, q) = c.requires in (g, asked c.loop-s.invariant c.in-Some.is g q)

pub offset_bounds-parts-i-in-Some : goal.offset_bounds-parts-i-in-Some
offset_bounds-parts-i-in-Some c = let (g, q) = c.requires in omega (arith, driving_low (c.loop-s.invariant g q) c.in-Some.is)

pub bounds-parts-i : goal.bounds-parts-i
bounds-parts-i c = let (g, q) = c.requires in omega (arith, driving_read (c.loop-s.invariant g q) c.in-Some.is)

pub loop-s-smaller : goal.loop-s-smaller
loop-s-smaller c = let (g, q) = c.requires in driving_less (c.loop-s.invariant g q) c.in-Some.is (stepped c.loop-s.invariant c.in-Some.is c.step-s.ensures g q)

pub loop-s-preserved : goal.loop-s-preserved
loop-s-preserved c = λ g q. driving_turn (c.loop-s.invariant g q) c.in-Some.is (stepped c.loop-s.invariant c.in-Some.is c.step-s.ensures g q)
