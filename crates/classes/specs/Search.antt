-- What the search of the classes asks for, and what it promises.
use Rattle.std.specs.Prelude.{ℕ, ◌+◌, ◌≤◌, ◌<◌, ◌≡◌, Bool, true, false, List, ◌⊎◌, length}
use Rattle.graph.specs.Graph.{Graph, Chain}
use Rattle.graph.specs.Limits.{most_vertices}
use Rattle.memory.specs.Memory.{Framed, region}
use Rattle.graph.specs.Checker.{at}
use Rattle.paint.specs.Paint.{Laid}
use Rattle.classes.specs.Classes.{class, OwnLabels, Near, Distances}

abbrev pub Owned : ℕ → List ℕ → Bool → Type 0
Owned n lab r = ((r ≡ true) × OwnLabels n lab) ⊎ ((r ≡ false) × (OwnLabels n lab → ⊥))

-- the labels are vertices, and w has room for colours
pub record ColourAsk (n : ℕ) (lab : List ℕ) (b : ℕ) (w : List ℕ) : Type 0 where
  pub small : n ≤ most_vertices
  pub size : length lab ≡ n
  pub own : OwnLabels n lab
  pub fits : b + n ≤ length w

-- the first k vertices have the colours of their classes
pub record Coloured (n : ℕ) (lab : List ℕ) (b k : ℕ) (w w' : List ℕ) : Type 0 where
  pub framed : Framed b (b + n) w w'
  pub each : (v : ℕ) → v < k → region b w' v ≡ n + 1 + at lab v

-- the colour y of v is its distance, or v is not reached inside its class and has its class's colour
abbrev pub Placed : Graph → List ℕ → ℕ → ℕ → Type 0
Placed g lab y v =
    ((y < g.n) × Near g lab v y) ⊎ ((y ≡ g.n + 1 + at lab v) × ((h : ℕ) → Chain g (class lab (at lab v)) h (at lab v) v → ⊥))

-- the classes of labels below l have been searched, and no others
abbrev pub Sorted : Graph → List ℕ → ℕ → ℕ → List ℕ → Type 0
Sorted g lab b l w =
    (v : ℕ) → v < g.n → ((at lab v < l) × Placed g lab (region b w v) v) ⊎ ((l ≤ at lab v) × (region b w v ≡ g.n + 1 + at lab v))

pub record DistancesAsk (g : Graph) (lab : List ℕ) (ix b : ℕ) (w : List ℕ) : Type 0 where
  pub laid : Laid g ix b w
  pub small : g.n ≤ most_vertices
  pub size : length lab ≡ g.n
  pub own : OwnLabels g.n lab
  pub fits : b + g.n + g.n ≤ length w

pub record ClassAsk (g : Graph) (lab : List ℕ) (ix b l : ℕ) (w : List ℕ) : Type 0 where
  pub ask : DistancesAsk g lab ix b w
  pub low : l ≤ g.n
  pub sorted : Sorted g lab b l w

pub record Classed (g : Graph) (lab : List ℕ) (b l : ℕ) (w w' : List ℕ) : Type 0 where
  pub kept : Framed b (b + g.n + g.n) w w'
  pub sorted : Sorted g lab b l w'

abbrev pub AllFound : ℕ → ℕ → List ℕ → Bool → Type 0
AllFound n b w r =
    ((r ≡ true) × ((v : ℕ) → v < n → region b w v ≤ n)) ⊎ ((r ≡ false) × ((v : ℕ) × (v < n) × (n < region b w v)))

-- distances for all, or a vertex that its label does not reach inside the class
pub record Measured (g : Graph) (lab : List ℕ) (b : ℕ) (w w' : List ℕ) (r : Bool) : Type 0 where
  pub kept : Framed b (b + g.n + g.n) w w'
  pub either : ((r ≡ true) × (Distances g lab (region b w') × ((v : ℕ) → v < g.n → region b w' v < g.n)))
      ⊎ ((r ≡ false) × ((v : ℕ) × (v < g.n) × ((h : ℕ) → Chain g (class lab (at lab v)) h (at lab v) v → ⊥)))
