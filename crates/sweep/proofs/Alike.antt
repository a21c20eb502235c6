-- What is said of a number that stands for a method depends only on whether it is 1.
use Prim.Native.Nat.{ℕ}
use native.Mathlib.Omega.{arith}
use native.Mathlib.Decide.{ℕ_discrete}
use mathlib.Core.Path.{◌≡◌, ◌∙◌}
use mathlib.Core.Logic.{inl, inr, ⊎_elim}
use mathlib.Core.Bool.{cond}
use mathlib.Core.List.{List}
use lib.Dec.{eqb}
use borrow.Author.Tests.{eq-eqb, ne_eqb}
use Rattle.graph.specs.Graph.{Graph}
use Rattle.sweep.specs.Taken.{Ready, Taken}
use Rattle.sweep.specs.Sweep.{Sweeps, unswept, taken, TurnAsk, Turned}
use Rattle.sweep.specs.Drawn.{SweptDrawn}

-- both are 1, or neither is
abbrev pub Alike : ℕ → ℕ → Type 0
Alike s t = (s ≡ 1 → t ≡ 1) × (t ≡ 1 → s ≡ 1)

pub alike_back : {s t : ℕ} → Alike s t → Alike t s
alike_back a = (a.1, a.0)

-- a number and that of the method that is made of it
pub alike_of : (s t : ℕ) → t ≡ cond (eqb s 1) 1 0 → Alike s t
alike_of s t e = (
  λ o. e ∙ rw (eq-eqb s 1 o),
  λ o. elim (ℕ_discrete s 1) as (λ _. s ≡ 1) [
    | yes y ↦ y
    | no y ↦ absurd (omega (arith, o, rw (ne_eqb s 1 y) at e))
  ],
)

module _ {g : Graph} {s t b q : ℕ} (a : Alike s t) where
  pub ready_alike : {top : ℕ} {w : List ℕ} → Ready g s b q top w → Ready g t b q top w
  ready_alike r = record { stage = r.stage; part = r.part; known = r.known; uncut = λ o. r.uncut (a.1 o) }

  pub turn_alike : {i top : ℕ} {w : List ℕ} → TurnAsk g s b i q top w → TurnAsk g t b i q top w
  turn_alike r = record { ready = ready_alike r.ready; low = r.low }

  pub taken_alike : {p top top' : ℕ} {w w' : List ℕ} → Taken g s b p q top w w' top' → Taken g t b p q top w w' top'
  taken_alike z = record {
    owned = z.owned;
    others = z.others;
    ours = z.ours;
    pivot = z.pivot;
    least = z.least;
    inside = z.inside;
    how = ⊎_elim (λ y. inl (λ o. y.0 (a.1 o), y.1, y.2)) (λ y. inr (a.0 y.0, y.1)) z.how;
  }

  pub turned_alike : (i : ℕ) {top top' : ℕ} {w w' : List ℕ} → Turned g s b i q top w w' top' → Turned g t b i q top w w' top'
  turned_alike i z = ⊎_elim (λ y. inl (y.0, taken_alike y.1)) (λ y. inr y) z

  pub sweeps_alike : {kind state top : ℕ} {w : List ℕ} {k top' : ℕ} {w' : List ℕ} → Sweeps g s b q kind state top w k top' w' → Sweeps g t b q kind state top w k top' w'
  sweeps_alike unswept = unswept
  sweeps_alike (taken p x l e c z) = taken p (sweeps_alike x) l e c (taken_alike z)

  pub drawn_alike : {state top : ℕ} {w w' ws' : List ℕ} {state' k top' : ℕ} → SweptDrawn g s b q state top w w' ws' state' k top' → SweptDrawn g t b q state top w w' ws' state' k top'
  drawn_alike z = record { sweeps = sweeps_alike z.sweeps; advanced = z.advanced; gone = z.gone; empty = z.empty }
