-- The steps between sets and colours: what they ask for, and what they promise.
use Rattle.std.specs.Prelude.{ℕ, ◌+◌, ◌-◌, ◌*◌, ◌≤◌, ◌<◌, ◌≡◌, cond, List, length, get_or}
use Rattle.graph.specs.Limits.{words_of, most_vertices, most_edges, numbers_needed}
use Rattle.graph.specs.Graph.{Graph, Kinds, Valid, edges}
use Rattle.graph.specs.Numbers.{mark}
use Rattle.graph.specs.Search.{core}
use Rattle.graph.specs.Sets.{bit, members}
use Rattle.memory.specs.Decomposer.{col, ord, nxt, chains_at}
use Rattle.prune.specs.Trim.{hued}

pub record ColourAsk (n b : ℕ) (part w : List ℕ) : Type 0 where
  pub small : n ≤ most_vertices
  pub room : b + n ≤ length w
  pub words : length part ≡ words_of n

-- the colours of the vertices: n in the part, n + 1 outside
abbrev pub hue : ℕ → List ℕ → ℕ → ℕ
hue n part v = n + 1 - bit part v

pub record StringAsk (n b : ℕ) (w : List ℕ) : Type 0 where
  pub small : n ≤ most_vertices
  pub long : b + 10 * n + 2 ≤ length w

-- y is the first place from i on of the colour q, or n if there is none
pub record From (n : ℕ) (own : ℕ → ℕ) (q i y : ℕ) : Type 0 where
  pub least : i ≤ y
  pub most : y ≤ n
  pub here : y < n → own y ≡ q
  pub none : (u : ℕ) → i ≤ u → u < y → own u ≡ q → ⊥

-- the places from i on have their vertex and the next place of the colour q; h is the first of them
pub record Strung (n b q i h : ℕ) (w w' : List ℕ) : Type 0 where
  pub first : From n (col b w) q i h
  pub order : (j : ℕ) → i ≤ j → j < n → ord n b w' j ≡ j
  pub next : (j : ℕ) → i ≤ j → j < n → From n (col b w) q (j + 1) (nxt n b w' j)
  pub low : (j : ℕ) → j < chains_at n b → get_or w' j 0 ≡ get_or w j 0
  pub high : (j : ℕ) → b + 10 * n + 2 ≤ j → get_or w' j 0 ≡ get_or w j 0
  pub long : length w' ≡ length w

pub record CollectAsk (n b : ℕ) (w r : List ℕ) : Type 0 where
  pub small : n ≤ most_vertices
  pub room : b + n ≤ length w
  pub words : length r ≡ words_of n
  pub empty : (v : ℕ) → bit r v ≡ 0

-- the set has the vertices below i of the colour q
pub record Collected (i b q : ℕ) (w r r' : List ℕ) : Type 0 where
  pub long : length r' ≡ length r
  pub set : (v : ℕ) → bit r' v ≡ cond (hued i b q w v) 1 0

pub record RunAsk (g : Graph) (kinds part w r : List ℕ) : Type 0 where
  pub valid : Valid g
  pub kinded : Kinds (edges g) kinds
  pub small : g.n ≤ most_vertices
  pub few : edges g ≤ most_edges
  pub room : numbers_needed g.n (edges g) ≤ length w
  pub part_long : length part ≡ words_of g.n
  pub left_long : length r ≡ words_of g.n

-- the set is what trimming leaves of the part
pub record Ran (g : Graph) (part w r w' r' : List ℕ) : Type 0 where
  pub long : length r' ≡ length r
  pub set : (v : ℕ) → bit r' v ≡ cond (mark (core g (members g.n part)) v) 1 0
  pub numbers : length w' ≡ length w
  pub rest : (j : ℕ) → numbers_needed g.n (edges g) ≤ j → get_or w' j 0 ≡ get_or w j 0
