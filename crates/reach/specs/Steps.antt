-- The steps of a search between sets and colours: what they ask for, and what they promise.
use Rattle.std.specs.Prelude.{ℕ, ◌≤◌, ◌<◌, ◌+◌, ◌*◌, min, ◌≡◌, ◌⊎◌, List, length, get_or}
use Rattle.graph.specs.Limits.{words_of, most_vertices, most_edges}
use Rattle.graph.specs.Graph.{Graph, Kinds, Valid, edges}
use Rattle.graph.specs.Parts.{Fwd}
use Rattle.graph.specs.Search.{looked}
use Rattle.graph.specs.Sets.{bit, Members, members}
use Rattle.memory.specs.Memory.{Framed}
use Rattle.index.specs.Index.{Held}
use Rattle.paint.specs.Colours.{paint, Opens, Shut}
use Rattle.memory.specs.Decomposer.{col}
use Rattle.paint.specs.Paint.{Grew}

-- the colours of a search: 0 is not permitted, 1 permitted, 2 reached
abbrev pub reaching : ℕ → ℕ
reaching = paint 1 2 1 2

pub record ColourAsk (n b : ℕ) (permitted w : List ℕ) : Type 0 where
  pub small : n ≤ most_vertices
  pub room : b + n ≤ length w
  pub words : length permitted ≡ words_of n

pub record ChooseAsk (n : ℕ) (starts permitted r : List ℕ) : Type 0 where
  pub starts_long : length starts ≡ words_of n
  pub permitted_long : length permitted ≡ words_of n
  pub set_long : length r ≡ words_of n

-- The set has become that of the permitted starts, bits at n and above disregarded.
pub record Chosen (n : ℕ) (starts permitted r r' : List ℕ) : Type 0 where
  pub long : length r' ≡ length r
  pub below : (v : ℕ) → v < n → bit r' v ≡ min (bit starts v) (bit permitted v)
  pub above : (v : ℕ) → n ≤ v → bit r' v ≡ 0

pub record BeginAsk (n b : ℕ) (r w : List ℕ) : Type 0 where
  pub small : n ≤ most_vertices
  pub fits : b + n + n ≤ length w
  pub words : length r ≡ words_of n

-- The members of the set below i were painted, and the queue of length k holds them.
pub record BegunBelow (i n b : ℕ) (r w w' : List ℕ) (k : ℕ) : Type 0 where
  pub grew : Grew reaching n b w 0 w' k (λ v. (bit r v ≡ 1) × Opens reaching (col b w v))
  pub shut : (v : ℕ) → v < i → bit r v ≡ 1 → Shut reaching (col b w' v)

pub record GatherAsk (q k : ℕ) (w r : List ℕ) : Type 0 where
  pub room : q + k ≤ length w
  pub inside : (i : ℕ) → i < k → get_or w (q + i) 0 < length r * 64

-- The vertices at the first k places of the queue, which begins at q, were added to the set.
pub record Gathered (q k : ℕ) (w r r' : List ℕ) : Type 0 where
  pub long : length r' ≡ length r
  pub kept : (v : ℕ) → bit r v ≡ 1 → bit r' v ≡ 1
  pub listed : (i : ℕ) → i < k → bit r' (get_or w (q + i) 0) ≡ 1
  pub only : (v : ℕ) → bit r' v ≡ 1 → (bit r v ≡ 1) ⊎ ((i : ℕ) × (i < k) × (get_or w (q + i) 0 ≡ v))

-- the table is sound, and w has room for a search
pub record TableAsk (g : Graph) (w : List ℕ) : Type 0 where
  pub valid : Valid g
  pub small : g.n ≤ most_vertices
  pub few : edges g ≤ most_edges
  pub room : 3 * g.n + 1 + edges g ≤ length w

-- the same, and the edges have kinds
pub record NeighboursAsk (g : Graph) (kinds w : List ℕ) : Type 0 where
  pub table : TableAsk g w
  pub kinded : Kinds (edges g) kinds

-- the table is sound, and w's front holds the neighbours of its vertices
pub record RunAsk (g : Graph) (starts permitted w r : List ℕ) : Type 0 where
  pub table : TableAsk g w
  pub index : Held g 0 w
  pub sets : ChooseAsk g.n starts permitted r

-- The set r' is what the starts reach within the permitted set, and `seen` the number of counted edges whose source is in it.
pub record Found (g : Graph) (starts permitted w r w' r' : List ℕ) (seen : ℕ) : Type 0 where
  pub long : length r' ≡ length r
  pub sound : (v : ℕ) → bit r' v ≡ 1 → Fwd g (Members g.n permitted) (Members g.n starts) v
  pub complete : (v : ℕ) → Fwd g (Members g.n permitted) (Members g.n starts) v → bit r' v ≡ 1
  pub above : (v : ℕ) → g.n ≤ v → bit r' v ≡ 0
  pub count : seen ≡ looked g (members g.n r')
  pub frame : Framed 0 (3 * g.n + 1 + edges g) w w'
