-- The members of a set are painted and queued, one after the other.
use Prim.Native.Nat.{ℕ, ◌<◌, ◌+◌}
use native.Mathlib.Omega.{arith}
use native.Mathlib.Decide.{ℕ_discrete}
use mathlib.Core.Path.{◌≡◌}
use mathlib.Core.List.{List}
use Rattle.graph.specs.Sets.{bit}
use Rattle.memory.specs.Decomposer.{col}
use Rattle.paint.specs.Colours.{Shut}
use Rattle.paint.specs.Paint.{Ready, VisitAsk, Visited}
use Rattle.paint.proofs.Painting.{paint_still}
use Rattle.paint.proofs.Growth.{waiting_le, grew_none, grew_more, stays, was_open, ready_more}
use Rattle.reach.specs.Steps.{reaching, BeginAsk, BegunBelow}

pub reaching_still : (y : ℕ) → reaching (reaching y) ≡ reaching y
reaching_still = paint_still 1 2 1 2 (λ e. omega arith) (λ e. omega arith) (λ e. omega arith) (λ e. omega arith)

module _ {n b : ℕ} {r w₀ : List ℕ} (a : BeginAsk n b r w₀) where
  pub begun_none : BegunBelow 0 n b r w₀ w₀ 0
  begun_none = record { grew = grew_none reaching n b w₀ 0 _; shut = λ v l. absurd (omega arith) }

  empty_ready : Ready reaching n b w₀ 0
  empty_ready = record { small = a.small; fits = a.fits; still = reaching_still; room = omega (arith, waiting_le reaching n b w₀) }

  module _ {x : ℕ} {w : List ℕ} {k : ℕ} (l : x < n) (z : BegunBelow x n b r w₀ w k) where
    pub visit_ask : VisitAsk reaching n b x w k
    visit_ask = record { ready = ready_more z.grew empty_ready; vertex = l }

    pub begun_more : {w' : List ℕ} {k' : ℕ} → bit r x ≡ 1 → Visited reaching n b x w k w' k' → BegunBelow (x + 1) n b r w₀ w' k'
    begun_more {w'} {k'} m s = record {
      grew = grew_more reaching_still z.grew s.grew (λ v t. t) (λ v h t. (rw t.0 m, was_open z.grew v h t.1));
      shut = λ v h i. elim (ℕ_discrete v x) as (λ _. Shut reaching (col b w' v)) [ yes e ↦ rw e s.shut | no e ↦ stays s.grew v (omega arith) (z.shut v (omega arith) i) ];
    }

    pub begun_pass : (bit r x ≡ 1 → ⊥) → BegunBelow (x + 1) n b r w₀ w k
    begun_pass o = record { grew = z.grew; shut = λ v h i. elim (ℕ_discrete v x) as (λ _. Shut reaching (col b w v)) [ yes e ↦ absurd (o (rw e at i)) | no e ↦ z.shut v (omega arith) i ] }
