-- Cursors: for each vertex of the part and each direction the place up to which its edges lead out of the part.
use Rattle.std.specs.Prelude.{ℕ, suc, ◌+◌, ◌≤◌, ◌<◌, ◌≡◌, Bool, true, false, List, ◌⊎◌, length, get_or, set}
use Rattle.graph.specs.Graph.{Graph, Part, rev}
use Rattle.graph.specs.Parts.{Left}
use Rattle.graph.specs.Limits.{most_vertices}
use Rattle.index.specs.Index.{first}
use Rattle.memory.specs.Decomposer.{col, pending_at}
use Rattle.paint.specs.Paint.{other, Laid}
use Rattle.prune.specs.Trim.{rev_at, into_at, out_at}

-- the place of v's cursor among the neighbours, and the neighbour there; the cursors stand from cb on, the index at ix
abbrev pub cur : ℕ → List ℕ → ℕ → ℕ
cur cb w v = get_or w (cb + v) 0

abbrev pub ahead : Graph → ℕ → ℕ → List ℕ → ℕ → ℕ
ahead g ix cb w v = other w (ix + g.n + 1) (cur cb w v)

-- the cursors of the part q are at their vertex's edges, and what they have passed leads out of the part
pub record Cursors (g : Graph) (ix cb b q : ℕ) (w : List ℕ) : Type 0 where
  pub least : (v : ℕ) → v < g.n → col b w v ≡ q → first g v ≤ cur cb w v
  pub most : (v : ℕ) → v < g.n → col b w v ≡ q → cur cb w v ≤ first g (suc v)
  pub passed : (v j : ℕ) → v < g.n → col b w v ≡ q → first g v ≤ j → j < cur cb w v
      → col b w (other w (ix + g.n + 1) j) ≡ q → ⊥

-- v's edges before the place i of the neighbours lead out of the part q
pub record Clear (g : Graph) (ix b q : ℕ) (w : List ℕ) (v i : ℕ) : Type 0 where
  pub least : first g v ≤ i
  pub most : i ≤ first g (suc v)
  pub passed : (j : ℕ) → first g v ≤ j → j < i → col b w (other w (ix + g.n + 1) j) ≡ q → ⊥

-- v's cursor rests at an edge to a vertex of which In holds, and what it has passed leads out of the part
pub record Rests (g : Graph) (ix cb b q : ℕ) (In : Part) (w : List ℕ) (v : ℕ) : Type 0 where
  pub before : cur cb w v < first g (suc v)
  pub inside : In (ahead g ix cb w v)
  pub clear : Clear g ix b q w v (cur cb w v)

-- it rests at its first edge that leads into the part
abbrev pub Stands : Graph → ℕ → ℕ → ℕ → ℕ → List ℕ → ℕ → Type 0
Stands g ix cb b q w v = Rests g ix cb b q (λ u. col b w u ≡ q) w v

-- one direction: the index and the cursors
pub record Side (g : Graph) (ix cb b q : ℕ) (w : List ℕ) : Type 0 where
  pub laid : Laid g ix b w
  pub cursors : Cursors g ix cb b q w

-- the indexes of both directions, and room for the cursors
pub record Walking (g : Graph) (b q : ℕ) (w : List ℕ) : Type 0 where
  pub out : Laid g 0 b w
  pub into : Laid (rev g) (rev_at g) b w
  pub small : g.n ≤ most_vertices
  pub long : pending_at g.n b ≤ length w
  pub part : g.n ≤ q

pub record FindAsk (eb b i t : ℕ) (w : List ℕ) : Type 0 where
  pub order : i ≤ t
  pub fits : eb + t ≤ length w
  pub ends : (j : ℕ) → i ≤ j → j < t → b + other w eb j < length w

-- the first place from i on, below t, whose edge leads to the colour q; t if there is none
pub record Found (eb b q i t : ℕ) (w : List ℕ) (r : ℕ) : Type 0 where
  pub least : i ≤ r
  pub most : r ≤ t
  pub passed : (j : ℕ) → i ≤ j → j < r → col b w (other w eb j) ≡ q → ⊥
  pub stop : r < t → col b w (other w eb r) ≡ q

-- v is to be looked at, from the place on that stands at sb + v
pub record LookAsk (n ix cb sb b v : ℕ) (w : List ℕ) : Type 0 where
  pub find : FindAsk (ix + n + 1) b (cur sb w v) (get_or w (ix + v + 1) 0) w
  pub offset : ix + v + 1 < length w
  pub cursor : cb + v < length w
  pub start : sb + v < length w

-- v's cursor is at the first edge from there on that leads to the colour q, or at the end of its edges; r says whether there is such an edge
pub record Looked (n ix cb sb b v q : ℕ) (w w' : List ℕ) (r : Bool) : Type 0 where
  pub place : ℕ
  pub found : Found (ix + n + 1) b q (cur sb w v) (get_or w (ix + v + 1) 0) w place
  pub store : w' ≡ set w (cb + v) place
  pub none : r ≡ false → place ≡ get_or w (ix + v + 1) 0
  pub some : r ≡ true → place < get_or w (ix + v + 1) 0

-- v's cursor goes on from where it is
abbrev pub AdvanceAsk : ℕ → ℕ → ℕ → ℕ → ℕ → List ℕ → Type 0
AdvanceAsk n ix cb b v w = LookAsk n ix cb cb b v w

abbrev pub Advanced : ℕ → ℕ → ℕ → ℕ → ℕ → ℕ → List ℕ → List ℕ → Bool → Type 0
Advanced n ix cb b v q w w' r = Looked n ix cb cb b v q w w' r

-- the places that stand at ob + v and ib + v are such that v's edges before them lead out of the part
pub record Starts (g : Graph) (b v ob ib q : ℕ) (w : List ℕ) : Type 0 where
  pub high : ob ≤ out_at g b
  pub below : ib < out_at g b
  pub out : Clear g 0 b q w v (cur ob w v)
  pub into : Clear (rev g) (rev_at g) b q w v (cur ib w v)

pub record TiedAsk (g : Graph) (b v ob ib q : ℕ) (w : List ℕ) : Type 0 where
  pub walking : Walking g b q w
  pub low : v < g.n
  pub starts : Starts g b v ob ib q w

-- the vertices of the colour q
abbrev pub Hued : ℕ → ℕ → ℕ → List ℕ → ℕ → Type 0
Hued n b q w v = (v < n) × (col b w v ≡ q)

-- v was looked at in both directions: r is false if v can be trimmed; only v's cursors have changed
pub record Tied (g : Graph) (b v q : ℕ) (w w' : List ℕ) (r : Bool) : Type 0 where
  pub else : (j : ℕ) → (j ≡ out_at g b + v → ⊥) → (j ≡ into_at g b + v → ⊥) → get_or w' j 0 ≡ get_or w j 0
  pub long : length w' ≡ length w
  pub none : r ≡ false → (Left g (Hued g.n b q w) v → ⊥) ⊎ (Left (rev g) (Hued g.n b q w) v → ⊥)
  pub some : r ≡ true → Stands g 0 (out_at g b) b q w' v × Stands (rev g) (rev_at g) (into_at g b) b q w' v
