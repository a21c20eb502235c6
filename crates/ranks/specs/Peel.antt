-- What the steps of peeling ask for, and what they promise.
use Rattle.std.specs.Prelude.{ℕ, ◌+◌, ◌-◌, ◌*◌, ◌≤◌, ◌<◌, ◌≡◌, Bool, true, false, List, ◌⊎◌, length, get_or, set, T, eqb, Option, Some, None}
use Rattle.graph.specs.Numbers.{many}
use Rattle.memory.specs.Memory.{Framed, region, Holds}
use Rattle.graph.specs.Graph.{Graph, Kinds, Valid, IsEdge, edges, from, to}
use Rattle.graph.specs.Arrows.{Arrows, on}
use Rattle.graph.specs.Limits.{most_vertices, most_edges}
use Rattle.graph.specs.Checker.{at}
use Rattle.index.specs.Index.{Held, numbered}
use Rattle.memory.specs.Writer.{queue_at, in_edges, ranks_at, counts_at}
use Rattle.ranks.specs.Ranks.{lead_of, rise_of, awaited, Peeling, extend, extends, Peeled, Stuck}

-- the table, its labels, and room for the regions
pub record Ground (g : Graph) (lab : List ℕ) (b : ℕ) (w : List ℕ) : Type 0 where
  pub valid : Valid g
  pub size : length lab ≡ g.n
  pub labels_low : (v : ℕ) → v < g.n → at lab v < g.n
  pub small : g.n ≤ most_vertices
  pub few : edges g ≤ most_edges
  pub fits : b + 7 * g.n + 1 ≤ length w

-- both ends of an edge have labels
pub record RiseAsk (lab : List ℕ) (u v : ℕ) : Type 0 where
  pub leaves : u < length lab
  pub enters : v < length lab

-- by how much an edge from u to v raises the rank
pub record Risen (lab : List ℕ) (u v r : ℕ) : Type 0 where
  pub is : r ≡ rise_of lab u v
  pub low : r ≤ 1

pub record LeadAsk (n : ℕ) (lab : List ℕ) (b u v : ℕ) (w : List ℕ) : Type 0 where
  pub ends : RiseAsk lab u v
  pub vertex : v < n
  pub low : at lab v < n
  pub fits : b + 7 * n + 1 ≤ length w

-- the vertex that waits for edge e from u to v if it counts, n if none does
pub record Led (n : ℕ) (lab : List ℕ) (in_edge : ℕ → ℕ) (u v e r : ℕ) : Type 0 where
  pub is : r ≡ lead_of n lab in_edge u v e
  pub low : r ≤ n

-- the same as an option: a vertex below n, or none
abbrev pub LedBy : ℕ → List ℕ → (ℕ → ℕ) → (u v e : ℕ) → Option ℕ → Type 0
LedBy n lab in_edge u v e (Some t) = Led n lab in_edge u v e t × (t < n)
LedBy n lab in_edge u v e None = Led n lab in_edge u v e n

-- a table whose targets are t
abbrev pub targeted : List ℕ → Arrows → Arrows
targeted t a = record { m = a.m; src = a.src; tgt = t; counted = a.counted }

-- P holds of some table of n vertices with the targets t, and of all such
abbrev pub SomeInto : ℕ → List ℕ → (Graph → Type 0) → Type 0
SomeInto n t P = (a : Arrows) × P (on n (targeted t a))

abbrev pub EveryInto : ℕ → List ℕ → (Graph → Type 0) → Type 0
EveryInto n t P = (a : Arrows) → P (on n (targeted t a))

-- only the queue, the ranks and the counts may have changed
pub record Ranking (n b : ℕ) (w w' : List ℕ) : Type 0 where
  pub long : length w' ≡ length w
  pub low : (j : ℕ) → j < queue_at n b → get_or w' j 0 ≡ get_or w j 0
  pub mid : (j : ℕ) → in_edges n b ≤ j → j < ranks_at n b → get_or w' j 0 ≡ get_or w j 0
  pub high : (j : ℕ) → counts_at n b + n + 1 ≤ j → get_or w' j 0 ≡ get_or w j 0

-- the regions of w are in the course of peeling
abbrev pub Peels : Graph → List ℕ → (ℕ → ℕ) → (ℕ → Bool) → ℕ → List ℕ → ℕ → ℕ → Type 0
Peels g lab in_edge done b w k top =
    Peeling g lab in_edge done (region (counts_at g.n b) w) (region (ranks_at g.n b) w) (region (queue_at g.n b) w) k top

-- what is not seen in memory: the in-edges as a function, the edges that are gone, the highest rank so far
pub record Course (g : Graph) (lab : List ℕ) (b k : ℕ) (w : List ℕ) : Type 0 where
  pub in_edge : ℕ → ℕ
  pub done : ℕ → Bool
  pub top : ℕ
  pub holds : Holds g.n (in_edges g.n b) in_edge w
  pub peels : Peels g lab in_edge done b w k top
  pub top_low : top ≤ g.n

-- edge e counts, leaves u, and has not gone; u waits for nothing
pub record SettleAsk (g : Graph) (lab : List ℕ) (b u e k : ℕ) (w : List ℕ) : Type 0 where
  pub ground : Ground g lab b w
  pub course : Course g lab b k w
  pub asks : LeadAsk g.n lab b u (to g e) w
  pub edge : IsEdge g e
  pub leaves : from g e ≡ u
  pub fresh : course.done e ≡ false
  pub source : region (counts_at g.n b) w u ≡ 0
  pub bound : region (ranks_at g.n b) w u < course.top

-- the queue grew, and what waited for nothing keeps its rank and waits for nothing
pub record Onward (n b k : ℕ) (w w' : List ℕ) (k' : ℕ) : Type 0 where
  pub frame : Ranking n b w w'
  pub more : k ≤ k'
  pub front : (i : ℕ) → i < k → region (queue_at n b) w' i ≡ region (queue_at n b) w i
  pub still : (v : ℕ) → v < n → region (counts_at n b) w v ≡ 0
      → (region (counts_at n b) w' v ≡ 0) × (region (ranks_at n b) w' v ≡ region (ranks_at n b) w v)

pub record Settled (g : Graph) (lab : List ℕ) (b e k : ℕ) (w w' : List ℕ) (k' : ℕ) (c : Course g lab b k w) : Type 0 where
  pub onward : Onward g.n b k w w' k'
  pub peels : Peels g lab c.in_edge (extend c.done e) b w' k' c.top

abbrev pub AfterSettle : Graph → List ℕ → (b u e k : ℕ) → List ℕ → List ℕ → ℕ → Type 0
AfterSettle g lab b u e k w w' k' = (a : SettleAsk g lab b u e k w) → Settled g lab b e k w w' k' a.course

-- the edge numbers of u stand in w from place w u up to place w (u + 1)
abbrev pub row_of : ℕ → ℕ → List ℕ → ℕ → ℕ
row_of n u w i = get_or w (n + 1 + (get_or w u 0 + i)) 0

-- the edges of the row count and leave u, which waits for nothing; they are in order, and none has gone
pub record ScanAsk (g : Graph) (lab : List ℕ) (b u k : ℕ) (w : List ℕ) : Type 0 where
  pub ground : Ground g lab b w
  pub course : Course g lab b k w
  pub order : get_or w u 0 ≤ get_or w (u + 1) 0
  pub below : g.n + 1 + get_or w (u + 1) 0 ≤ b
  pub vertex : u < g.n
  pub row : (j : ℕ) → get_or w u 0 ≤ j → j < get_or w (u + 1) 0
      → IsEdge g (get_or w (g.n + 1 + j) 0) × (from g (get_or w (g.n + 1 + j) 0) ≡ u) × (course.done (get_or w (g.n + 1 + j) 0) ≡ false)
  pub rising : (i j : ℕ) → get_or w u 0 ≤ i → i < j → j < get_or w (u + 1) 0 → get_or w (g.n + 1 + i) 0 < get_or w (g.n + 1 + j) 0
  pub source : region (counts_at g.n b) w u ≡ 0
  pub bound : region (ranks_at g.n b) w u < course.top

-- the edges of the row's places below j have gone
pub record Scanned (g : Graph) (lab : List ℕ) (b u j k : ℕ) (w w' : List ℕ) (k' : ℕ) (c : Course g lab b k w) : Type 0 where
  pub onward : Onward g.n b k w w' k'
  pub peels : Peels g lab c.in_edge (extends c.done (row_of g.n u w) (j - get_or w u 0)) b w' k' c.top

abbrev pub AfterScan : Graph → List ℕ → (b u k : ℕ) → List ℕ → List ℕ → ℕ → Type 0
AfterScan g lab b u k w w' k' = (a : ScanAsk g lab b u k w) → Scanned g lab b u (get_or w (u + 1) 0) k w w' k' a.course

-- the front holds the numbers of counted edges; nothing has gone yet, and the queue holds what waits for nothing
pub record PeelAsk (g : Graph) (lab : List ℕ) (b k : ℕ) (w : List ℕ) : Type 0 where
  pub ground : Ground g lab b w
  pub index : Held (numbered g) 0 w
  pub below : g.n + 1 + edges g ≤ b
  pub in_edge : ℕ → ℕ
  pub holds : Holds g.n (in_edges g.n b) in_edge w
  pub peels : Peels g lab in_edge (λ x. false) b w k 0

-- the vertices at the first h places of the queue have been taken, with the counted edges that leave them
pub record Taken (g : Graph) (lab : List ℕ) (b h : ℕ) (w : List ℕ) (k : ℕ) (in_edge : ℕ → ℕ) : Type 0 where
  pub done : ℕ → Bool
  pub peels : Peels g lab in_edge done b w k h
  pub gone : (e : ℕ) → e < edges g → T (done e) → (i : ℕ) × (i < h) × (region (queue_at g.n b) w i ≡ from g e)
  pub all : (e i : ℕ) → IsEdge g e → i < h → region (queue_at g.n b) w i ≡ from g e → T (done e)

-- all have gone, or some stay
abbrev pub Ended : Graph → List ℕ → ℕ → List ℕ → ℕ → (ℕ → ℕ) → Type 0
Ended g lab b w' k' in_edge =
    ((k' ≡ g.n) × Peeled g lab in_edge (region (ranks_at g.n b) w')) ⊎ ((k' < g.n) × Stuck g lab in_edge (region (counts_at g.n b) w'))

pub record AfterPeel (g : Graph) (lab : List ℕ) (b k : ℕ) (w w' : List ℕ) (k' : ℕ) : Type 0 where
  pub frame : Ranking g.n b w w'
  pub ended : (a : PeelAsk g lab b k w) → Ended g lab b w' k' a.in_edge

-- the table with its labels, and a kind for each edge
pub record CountsAsk (g : Graph) (kinds lab : List ℕ) (b : ℕ) (w : List ℕ) : Type 0 where
  pub ground : Ground g lab b w
  pub kinded : Kinds (edges g) kinds

-- the counts are what each vertex waits for, before any edge has gone
pub record Counted (g : Graph) (lab : List ℕ) (b : ℕ) (w w' : List ℕ) : Type 0 where
  pub framed : Framed (counts_at g.n b) (counts_at g.n b + (g.n + 1)) w w'
  pub counts : (in_edge : ℕ → ℕ) → Holds g.n (in_edges g.n b) in_edge w → (v : ℕ) → v < g.n
      → region (counts_at g.n b) w' v ≡ awaited g lab in_edge (λ x. false) v

pub record FreesAsk (n b : ℕ) (w : List ℕ) : Type 0 where
  pub small : n ≤ most_vertices
  pub fits : b + 7 * n + 1 ≤ length w

pub record FreeAsk (n b v k : ℕ) (w : List ℕ) : Type 0 where
  pub ask : FreesAsk n b w
  pub vertex : v < n
  pub room : k < n

abbrev pub Freed : (n b v k : ℕ) → List ℕ → List ℕ → ℕ → Type 0
Freed n b v k w w' k' =
    ((region (counts_at n b) w v ≡ 0 → ⊥) × (w' ≡ w) × (k' ≡ k))
    ⊎ ((region (counts_at n b) w v ≡ 0) × (w' ≡ set w (queue_at n b + k) v) × (k' ≡ k + 1))

-- the queue holds the vertices below e that wait for nothing, each once
pub record Frees (n b e : ℕ) (w w' : List ℕ) (k : ℕ) : Type 0 where
  pub framed : Framed (queue_at n b) (in_edges n b) w w'
  pub size : k ≡ many (λ v. eqb (region (counts_at n b) w v) 0) e
  pub member : (i : ℕ) → i < k → (region (queue_at n b) w' i < e) × (region (counts_at n b) w (region (queue_at n b) w' i) ≡ 0)
  pub listed : (v : ℕ) → v < e → region (counts_at n b) w v ≡ 0 → (i : ℕ) × (i < k) × (region (queue_at n b) w' i ≡ v)
  pub once : (i j : ℕ) → i < j → j < k → region (queue_at n b) w' i ≡ region (queue_at n b) w' j → ⊥

-- the front holds the neighbours, whose place the edge numbers take
pub record RanksAsk (g : Graph) (kinds lab : List ℕ) (b : ℕ) (w : List ℕ) : Type 0 where
  pub ground : Ground g lab b w
  pub kinded : Kinds (edges g) kinds
  pub index : Held g 0 w
  pub below : g.n + 1 + edges g ≤ b

-- The front may have changed, the queue, the ranks and the counts. All have gone, and the ranks are found; or some stay, whatever the counts.
pub record Ranked (g : Graph) (lab : List ℕ) (b : ℕ) (w w' : List ℕ) (r : Bool) : Type 0 where
  pub long : length w' ≡ length w
  pub low : (j : ℕ) → g.n + 1 + edges g ≤ j → j < queue_at g.n b → get_or w' j 0 ≡ get_or w j 0
  pub mid : (j : ℕ) → in_edges g.n b ≤ j → j < ranks_at g.n b → get_or w' j 0 ≡ get_or w j 0
  pub high : (j : ℕ) → counts_at g.n b + g.n + 1 ≤ j → get_or w' j 0 ≡ get_or w j 0
  pub either : (in_edge : ℕ → ℕ) → Holds g.n (in_edges g.n b) in_edge w
      → ((r ≡ true) × Peeled g lab in_edge (region (ranks_at g.n b) w')) ⊎ ((r ≡ false) × Stuck g lab in_edge (region (counts_at g.n b) w'))
