-- What the checker's functions may rely on.
use Rattle.std.specs.Prelude.{ℕ, ◌<◌, ◌≡◌, List, [], length, Option, Some, None, cond, eqb}
use Rattle.graph.specs.Graph.{Graph, Kinds, Valid, edges, from, to}
use Rattle.graph.specs.Checker.{Columns, Sized, at, fault}
use Rattle.checker.specs.declared.Columns.{Columns as Lent}

abbrev pub columns : (label rank in_edge in_dist out_edge out_dist : List ℕ) → Columns
columns label rank in_edge in_dist out_edge out_dist =
    record { label = label; rank = rank; in_edge = in_edge; in_dist = in_dist; out_edge = out_edge; out_dist = out_dist }

-- the columns that are lent
abbrev pub columns_of : Lent → Columns
columns_of c = columns c.label.now c.rank.now c.in_edge.now c.in_distance.now c.out_edge.now c.out_distance.now

-- the first of checks 1 to 4 that v fails, if there is one
unfoldable pub fault_of : Graph → Columns → ℕ → Option ℕ
fault_of g c v = cond (eqb (fault g c v) 0) None (Some (fault g c v))

-- the two columns that checks 1, 2 and 5 read
abbrev pub label_and_rank : List ℕ → List ℕ → Columns
label_and_rank label rank = columns label rank [] [] [] []

pub record RankAsk (n : ℕ) (label rank : List ℕ) (v : ℕ) : Type 0 where
  pub label_size : length label ≡ n
  pub rank_size : length rank ≡ n
  pub low : v < n
  pub label_low : at label v < n

pub record EntryAsk (g : Graph) (kinds label distance : List ℕ) (v : ℕ) : Type 0 where
  pub valid : Valid g
  pub kinded : Kinds (edges g) kinds
  pub label_size : length label ≡ g.n
  pub distance_size : length distance ≡ g.n
  pub low : v < g.n

pub record VertexAsk (g : Graph) (kinds label edge distance : List ℕ) (v : ℕ) : Type 0 where
  pub valid : Valid g
  pub kinded : Kinds (edges g) kinds
  pub label_size : length label ≡ g.n
  pub edge_size : length edge ≡ g.n
  pub distance_size : length distance ≡ g.n
  pub low : v < g.n

pub record EdgeAsk (g : Graph) (kinds label rank : List ℕ) (e : ℕ) : Type 0 where
  pub kinded : Kinds (edges g) kinds
  pub label_size : length label ≡ g.n
  pub rank_size : length rank ≡ g.n
  pub low : e < edges g
  pub long : length g.src ≡ edges g
  pub same : length g.tgt ≡ edges g
  pub leaves : from g e < g.n
  pub enters : to g e < g.n

-- a valid table with its kinds, and six columns of its size
pub record Ready (g : Graph) (kinds : List ℕ) (c : Columns) : Type 0 where
  pub valid : Valid g
  pub kinded : Kinds (edges g) kinds
  pub sized : Sized g.n c

pub record EdgesAsk (g : Graph) (kinds label rank : List ℕ) : Type 0 where
  pub valid : Valid g
  pub kinded : Kinds (edges g) kinds
  pub label_size : length label ≡ g.n
  pub rank_size : length rank ≡ g.n

pub record FaultAsk (g : Graph) (kinds : List ℕ) (c : Columns) (v : ℕ) : Type 0 where
  pub ready : Ready g kinds c
  pub low : v < g.n
