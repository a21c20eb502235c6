-- Distances as colours, and the walk back along them.
use Rattle.std.specs.Prelude.{ℕ, Result, Ok, Err, ◌+◌, ◌*◌, ◌≤◌, ◌<◌, ◌≡◌, List, ◌++◌, ◌⊎◌, length, get_or, drop}
use Rattle.graph.specs.Graph.{Graph, Kinds, Valid, rev, edges}
use Rattle.graph.specs.Arrows.{Arrows, on}
use Rattle.graph.specs.Limits.{most_vertices, most_edges, no_path, room_short}
use Rattle.graph.specs.Certificate.{dist_of}
use Rattle.graph.specs.Paths.{walk}
use Rattle.index.specs.Index.{Held, numbered}
use Rattle.memory.specs.Decomposer.{col}
use Rattle.graph.specs.Reasons.{number_of}
use Rattle.graph.specs.declared.refusal.Refusal.{Refusal}

-- a table whose sources are s
abbrev pub sourced : List ℕ → Arrows → Arrows
sourced s a = record { m = length s; src = s; tgt = a.tgt; counted = a.counted }

-- P holds of some table of n vertices with the sources s and some start, and of all such
abbrev pub SomeFrom : ℕ → List ℕ → (Graph → ℕ → Type 0) → Type 0
SomeFrom n s P = (a : Arrows) × (u : ℕ) × P (on n (sourced s a)) u

abbrev pub EveryFrom : ℕ → List ℕ → (Graph → ℕ → Type 0) → Type 0
EveryFrom n s P = (a : Arrows) (u : ℕ) → P (on n (sourced s a)) u

-- where the numbers of the counted edges that enter each vertex stand, and where the colours
abbrev pub reverse : Graph → ℕ
reverse g = g.n + 1 + edges g

abbrev pub base : Graph → ℕ
base g = 2 * (g.n + 1 + edges g)

pub record FindAsk (g : Graph) (kinds : List ℕ) (u : ℕ) (w : List ℕ) : Type 0 where
  pub valid : Valid g
  pub kinded : Kinds (edges g) kinds
  pub small : g.n ≤ most_vertices
  pub few : edges g ≤ most_edges
  pub start : u < g.n
  pub room : base g + g.n + g.n ≤ length w

-- w holds by each vertex the numbers of the counted edges that enter it, and as its colour its distance from u; n + 1 if it is not reached
pub record Known (g : Graph) (u : ℕ) (w : List ℕ) : Type 0 where
  pub valid : Valid g
  pub small : g.n ≤ most_vertices
  pub few : edges g ≤ most_edges
  pub start : u < g.n
  pub room : base g + g.n ≤ length w
  pub index : Held (numbered (rev g)) (reverse g) w
  pub near : (x : ℕ) → x < g.n → dist_of g u x < g.n → col (base g) w x ≡ dist_of g u x
  pub far : (x : ℕ) → x < g.n → g.n ≤ dist_of g u x → g.n < col (base g) w x

pub record Prepared (g : Graph) (u : ℕ) (w w' : List ℕ) : Type 0 where
  pub long : length w' ≡ length w
  pub high : (j : ℕ) → base g + g.n + g.n ≤ j → get_or w' j 0 ≡ get_or w j 0
  pub known : Known g u w'

-- the source of the j-th of some edges
abbrev pub source_of : (sources edges : List ℕ) → ℕ → ℕ
source_of sources edges j = get_or sources (get_or edges j 0) 0

-- the edges are edges, and their sources have colours
pub record FirstAsk (sources edges colours : List ℕ) : Type 0 where
  pub known : (j : ℕ) → j < length edges → get_or edges j 0 < length sources
  pub coloured : (j : ℕ) → j < length edges → source_of sources edges j < length colours

-- the r-th is the first of the edges that comes from a vertex of the colour d, and if there is none r is their number
pub record First (sources edges colours : List ℕ) (d r : ℕ) : Type 0 where
  pub most : r ≤ length edges
  pub before : (j : ℕ) → j < r → get_or colours (source_of sources edges j) 0 ≡ d → ⊥
  pub here : r < length edges → get_or colours (source_of sources edges r) 0 ≡ d

pub record WalkAsk (g : Graph) (u v d : ℕ) (w room : List ℕ) : Type 0 where
  pub known : Known g u w
  pub vertex : v < g.n
  pub is : dist_of g u v ≡ d
  pub low : d < g.n
  pub fits : d ≤ length room

-- the path stands in the front of the room
abbrev pub Walked : Graph → (u v d : ℕ) → (room room' : List ℕ) → Type 0
Walked g u v d room room' = room' ≡ walk g u d v ++ drop d room

pub record SettleAsk (g : Graph) (u v : ℕ) (w : List ℕ) : Type 0 where
  pub known : Known g u w
  pub vertex : v < g.n

pub record Found (g : Graph) (u v : ℕ) (room room' : List ℕ) (d : ℕ) : Type 0 where
  pub is : d ≡ dist_of g u v
  pub low : d < g.n
  pub fits : d ≤ length room
  pub walked : Walked g u v d room room'

pub record Stopped (g : Graph) (u v : ℕ) (room room' : List ℕ) (k : ℕ) : Type 0 where
  pub room_same : room' ≡ room
  pub why : ((k ≡ no_path) × (g.n ≤ dist_of g u v)) ⊎ ((k ≡ room_short) × (dist_of g u v < g.n) × (length room < dist_of g u v))

abbrev pub Settled : Graph → (u v : ℕ) → (room room' : List ℕ) → Result ℕ Refusal → Type 0
Settled g u v r r' (Ok d) = Found g u v r r' d
Settled g u v r r' (Err k) = Stopped g u v r r' (number_of k)
