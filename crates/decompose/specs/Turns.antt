-- Turns of the machine.
use Rattle.std.specs.Prelude.{ℕ, List, ◌≡◌, Some, None}
use Rattle.graph.specs.Graph.{Graph, edges}
use Rattle.waiting.specs.declared.Part.{Part}
use Rattle.machine.specs.declared.Machine.{Machine}
use Rattle.machine.specs.Machine.{base}
use Rattle.decompose.specs.Running.{Running, Traced, Went}

-- no draw is made before the first turn, so the machine's chooser stands as the one lent
pub record DriveAsk (g : Graph) (b : ℕ) (ys : List Part) (num wor : List ℕ) (s : Machine) : Type 0 where
  pub base : b ≡ base g
  pub ready : (i : ℕ) → s.next ≡ Some i → Running g s.chooser ys num wor s

-- nothing was to be done and all is as it was, or the machine ran, and the course that led to its beginning goes on to its end
pub data Ran (g : Graph) (ys : List Part) (num wor : List ℕ) (s : Machine) : List Part → List ℕ → List ℕ → Machine → Type 0 where
  idle : s.next ≡ None → Ran g ys num wor s ys num wor s
  ran : {ys' : List Part} {num' wor' : List ℕ} {e : Machine} {i : ℕ}
      → s.next ≡ Some i → Running g s.chooser ys' num' wor' e → Went g.n (edges g) ys num wor s ys' num' wor' e
      → ((method : ℕ) (list : List ℕ) → Traced g method s.chooser list ys num s → Traced g method s.chooser list ys' num' e) → Ran g ys num wor s ys' num' wor' e

pub record Driven (g : Graph) (ys : List Part) (num wor : List ℕ) (s : Machine) (ys' : List Part) (num' wor' : List ℕ) (e : Machine) : Type 0 where
  pub run : Ran g ys num wor s ys' num' wor' e
  pub done : e.next ≡ None
