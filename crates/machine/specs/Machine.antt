-- One step of the machine.
use Rattle.std.specs.Prelude.{ℕ, ◌+◌, ◌*◌, ◌-◌, ◌≤◌, ◌<◌, ◌≡◌, cond, List, length, eqb}
use Rattle.graph.specs.Graph.{Graph, edges}
use Rattle.graph.specs.Limits.{most_vertices, most_edges}
use Rattle.memory.specs.Decomposer.{head, col}
use Rattle.waiting.specs.declared.Part.{Part}
use Rattle.waiting.specs.Records.{none}
use Rattle.sweep.specs.declared.Method.TheVariants.{Split}
use Rattle.sweep.specs.Methods.{slicing_of}
use Rattle.machine.specs.declared.Machine.{Machine}
use Rattle.machine.specs.Orders.{order_of}
use Rattle.parts.specs.Divide.{DivideAsk, Division}
use Rattle.machine.specs.Aim.{wrapped, aimed}

-- where the indexes end: the regions of the parts start here
abbrev pub base : Graph → ℕ
base g = 2 * (g.n + 1 + edges g)

-- one record more is set to zeros
abbrev pub clearing : Machine → Machine
clearing s = record s { part = none; cleared = s.cleared + 1 }

-- the next pending part goes to the list
abbrev pub handing : ℕ → ℕ → List ℕ → Machine → Machine
handing n b w s = record s { part = record { first = head n b w s.given; slicing = slicing_of s.method }; count = s.count + 1; given = s.given + 1 }

-- the oldest record's place after one is taken: order 0 takes the newest
abbrev pub older_than : ℕ → Machine → ℕ
older_than n s = cond (eqb (order_of s.order) 0) s.oldest (wrapped n (s.oldest + 1))

-- the record taken was divided by k draws, which left the state, into so many children
abbrev pub dividing : ℕ → Machine → (state k top children : ℕ) → Machine
dividing n s state k top children =
    record s {
      part = none;
      chooser = record { kind = s.chooser.kind; state = state };
      made = s.made + k;
      oldest = older_than n s;
      count = s.count - 1;
      given = 0;
      pending = children;
      method = Split;
      top = top;
    }

-- the part at h is the whole collection, of the one colour n
pub record Whole (n b h top : ℕ) (w : List ℕ) : Type 0 where
  pub zero : h ≡ 0
  pub colours : (v : ℕ) → v < n → col b w v ≡ n
  pub first : top ≡ n + 1

pub record CutAsk (g : Graph) (b : ℕ) (p : Part) (top : ℕ) (w ws : List ℕ) : Type 0 where
  pub ask : DivideAsk g b p.first top w ws
  pub whole : p.slicing ≡ 1 → Whole g.n b p.first top w

pub record ClearAsk (n : ℕ) (s : Machine) : Type 0 where
  pub small : n ≤ most_vertices
  pub oldest : s.oldest < n
  pub count : s.count ≤ n
  pub cleared : s.cleared ≤ n

pub record HandAsk (n b : ℕ) (num : List ℕ) (s : Machine) : Type 0 where
  pub small : n ≤ most_vertices
  pub fits : b + 10 * n + 2 ≤ length num
  pub oldest : s.oldest < n
  pub count : s.count < n
  pub given : s.given < n

pub record StepAsk (g : Graph) (b : ℕ) (p : Part) (s : Machine) (num wor : List ℕ) : Type 0 where
  pub small : g.n ≤ most_vertices
  pub few : edges g ≤ most_edges
  pub fits : b + 10 * g.n + 2 ≤ length num
  pub cleared : s.cleared ≤ g.n
  pub oldest : s.oldest < g.n
  pub count : s.count ≤ g.n
  pub pending : s.pending ≤ g.n
  pub room : s.given < s.pending → s.count < g.n
  pub made : s.made ≤ 2 * g.n
  pub part : g.n ≤ s.cleared → s.pending ≤ s.given → (0 < s.count) × CutAsk g b p s.top num wor

-- a record is cleared, or a pending part handed out, or the part of the record divided
pub data Stepped (g : Graph) (b : ℕ) (p : Part) (s : Machine) (num wor : List ℕ) : List ℕ → List ℕ → Machine → Type 0 where
  clears : s.cleared < g.n → Stepped g b p s num wor num wor (aimed g.n (clearing s))
  hands : g.n ≤ s.cleared → s.given < s.pending → Stepped g b p s num wor num wor (aimed g.n (handing g.n b num s))
  divides : {num' wor' : List ℕ} {state k top children : ℕ} → g.n ≤ s.cleared → s.pending ≤ s.given
      → Division g p.slicing b s.chooser.kind s.chooser.state p.first s.top num wor num' wor' state k top children
      → Stepped g b p s num wor num' wor' (aimed g.n (dividing g.n s state k top children))

-- the record is to be divided
pub record PartAsk (g : Graph) (b : ℕ) (p : Part) (s : Machine) (num wor : List ℕ) : Type 0 where
  pub ask : StepAsk g b p s num wor
  pub cleared : g.n ≤ s.cleared
  pub given : s.pending ≤ s.given
