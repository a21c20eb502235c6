-- How a decomposition begins: the whole collection is the first part, and pending.
use Rattle.std.specs.Prelude.{ℕ, ◌+◌, ◌≤◌, ◌<◌, ◌≡◌, List, None, length, get_or}
use Rattle.graph.specs.Graph.{Graph, Kinds, Valid, edges}
use Rattle.graph.specs.Limits.{most_vertices, most_edges, numbers_needed, words_needed, Enough}
use Rattle.graph.specs.Pivot.{list_of}
use Rattle.memory.specs.Decomposer.{head, ord}
use Rattle.memory.specs.declared.layout.Layout.{Layout}
use Rattle.parts.specs.Divide.{Blank}
use Rattle.pivot.specs.Order.{Arranged}
use Rattle.pivot.specs.Kinds.{kind_of}
use Rattle.pivot.specs.declared.chooser.Chooser.{Chooser}
use Rattle.waiting.specs.Records.{none}
use Rattle.machine.specs.declared.Machine.{Machine}
use Rattle.machine.specs.Aim.{aimed}
use Rattle.machine.specs.Machine.{base, Whole}
use Rattle.machine.specs.Waits.{Waits}
use Rattle.decompose.specs.declared.accept.Choice.{Choice}

-- where the indexes and regions of a graph stand
abbrev pub layout_of : Graph → Layout
layout_of g = record { n = g.n; m = edges g; base = base g }

pub record BeginAsk (g : Graph) (kinds num wor : List ℕ) : Type 0 where
  pub valid : Valid g
  pub kinded : Kinds (edges g) kinds
  pub small : g.n ≤ most_vertices
  pub few : edges g ≤ most_edges
  pub memory : Enough g.n (edges g) (length num) (length wor)

pub record StartAsk (g : Graph) (kinds num wor : List ℕ) : Type 0 where
  pub ask : BeginAsk g kinds num wor
  pub some : 0 < g.n

pub record Started (g : Graph) (kind : ℕ) (list num wor num' wor' : List ℕ) : Type 0 where
  pub waits : Waits g (base g) (g.n + 1) 1 (head g.n (base g) num') num'
  pub whole : Whole g.n (base g) (head g.n (base g) num' 0) (g.n + 1) num'
  pub order : Arranged g.n (list_of kind list) (ord g.n (base g) num')
  pub blank : Blank g.n wor'
  pub long : length num' ≡ length num
  pub beyond : (j : ℕ) → numbers_needed g.n (edges g) ≤ j → get_or num' j 0 ≡ get_or num j 0
  pub words_long : length wor' ≡ length wor
  pub words : (j : ℕ) → words_needed g.n ≤ j → get_or wor' j 0 ≡ get_or wor j 0

-- the machine before the whole is aimed at: it is pending, to be sliced by method 1
abbrev pub first_one : ℕ → Choice → Chooser → Machine
first_one n x c =
    record {
      next = None;
      part = none;
      chooser = c;
      made = 0;
      order = x.order;
      cleared = 0;
      oldest = 0;
      count = 0;
      given = 0;
      pending = 1;
      method = x.method;
      top = n + 1;
    }

-- nothing to do, or begun
pub data Begun (g : Graph) (x : Choice) (c : Chooser) (list num wor : List ℕ) : List ℕ → List ℕ → Machine → Type 0 where
  nothing : g.n ≡ 0 → Begun g x c list num wor num wor (first_one g.n x c)
  begun : {num' wor' : List ℕ} → 0 < g.n → Started g (kind_of x.pivots) list num wor num' wor' → Begun g x c list num wor num' wor' (aimed g.n (first_one g.n x c))
