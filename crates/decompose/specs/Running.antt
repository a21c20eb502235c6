-- What holds between two turns.
use Rattle.std.specs.Prelude.{ℕ, ◌+◌, ◌≤◌, ◌<◌, ◌≡◌, cond, List, ◌⊎◌, length, get_or, eqb}
use Rattle.graph.specs.Graph.{Graph, edges}
use Rattle.graph.specs.Limits.{most_vertices, most_edges, numbers_needed, words_needed}
use Rattle.graph.specs.Pivot.{draws, list_of}
use Rattle.graph.specs.Apart.{Course}
use Rattle.memory.specs.Decomposer.{col, ord, own}
use Rattle.split.specs.State.{labelled, rings}
use Rattle.waiting.specs.declared.Part.{Part}
use Rattle.waiting.specs.Records.{none}
use Rattle.pivot.specs.Order.{Arranged}
use Rattle.pivot.specs.declared.chooser.Chooser.{Chooser}
use Rattle.sweep.specs.Methods.{slicing_of}
use Rattle.machine.specs.declared.Machine.{Machine}
use Rattle.machine.specs.Orders.{order_of}
use Rattle.machine.specs.Aim.{ring, aim}
use Rattle.machine.specs.Waits.{Waits, waiting_count, first_of}
use Rattle.parts.specs.Divide.{Blank}
use Rattle.machine.specs.Machine.{base, Whole}

-- the whole collection has still to be sliced
pub record Unsliced (n b : ℕ) (ys : List Part) (num : List ℕ) (s : Machine) : Type 0 where
  pub one : slicing_of s.method ≡ 1
  pub alone : waiting_count s ≡ 1
  pub whole : Whole n b (first_of n b ys num s 0) s.top num
  pub made : s.made ≡ 0

pub record Running (g : Graph) (c : Chooser) (ys : List Part) (num wor : List ℕ) (s : Machine) : Type 0 where
  pub small : g.n ≤ most_vertices
  pub few : edges g ≤ most_edges
  pub records : g.n ≤ length ys
  pub memory : numbers_needed g.n (edges g) ≤ length num
  pub cleared : s.cleared ≤ g.n
  pub oldest : s.oldest < g.n
  pub pending : s.pending ≤ g.n
  -- while records are cleared none waits; what is cleared and holds no record is zeros
  pub early : s.cleared < g.n → s.count ≡ 0
  pub zeros : (j : ℕ) → j < s.cleared → ((i : ℕ) → i < s.count → ring g.n s i ≡ j → ⊥) → get_or ys j none ≡ none
  -- only the whole collection is ever to be sliced
  pub flags : (i : ℕ) → i < s.count → (get_or ys (ring g.n s i) none).slicing ≡ slicing_of s.method
  pub whole : (slicing_of s.method ≡ 0) ⊎ Unsliced g.n (base g) ys num s
  pub waits : Waits g (base g) s.top (waiting_count s) (first_of g.n (base g) ys num s) num
  pub blank : Blank g.n wor
  -- kind 1 draws for each component of two or more, and at most twice for each vertex; the others never
  pub drawn : c.kind ≡ 1 → rings g (base g) num ≤ s.made
  pub still : (c.kind ≡ 1 → ⊥) → s.made ≡ 0
  pub most : s.made ≤ labelled g (base g) num + g.n
  -- the machine's chooser is a copy of the one lent, advanced by the draws made
  pub kind : s.chooser.kind ≡ c.kind
  pub state : s.chooser.state ≡ draws s.made c.state
  pub aiming : s.next ≡ aim g.n s

-- The course from the whole to what stands: the colours, and the parts that wait, each by the colour of its first place. Kind 1 has drawn once for every choice.
pub record Traced (g : Graph) (method : ℕ) (c : Chooser) (list : List ℕ) (ys : List Part) (num : List ℕ) (s : Machine) : Type 0 where
  pub known : c.kind ≤ 2
  pub order : Arranged g.n (list_of c.kind list) (ord g.n (base g) num)
  pub choices : ℕ
  pub course : Course g method (order_of s.order) c.kind c.state list (slicing_of s.method) (col (base g) num) s.top (waiting_count s) (λ i. own g.n (base g) num (first_of g.n (base g) ys num s i)) choices
  pub drawn : s.made ≡ cond (eqb c.kind 1) choices 0

-- What stays through turns: records beyond n, memory beyond what is needed, and the slice order.
pub record Went (n m : ℕ) (ys : List Part) (num wor : List ℕ) (s : Machine) (ys' : List Part) (num' wor' : List ℕ) (e : Machine) : Type 0 where
  pub long : length ys' ≡ length ys
  pub list : (j : ℕ) → n ≤ j → get_or ys' j none ≡ get_or ys j none
  pub numbers_long : length num' ≡ length num
  pub numbers : (j : ℕ) → numbers_needed n m ≤ j → get_or num' j 0 ≡ get_or num j 0
  pub words_long : length wor' ≡ length wor
  pub words : (j : ℕ) → words_needed n ≤ j → get_or wor' j 0 ≡ get_or wor j 0
  pub order : e.order ≡ s.order
