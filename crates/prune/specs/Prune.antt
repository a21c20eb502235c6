-- The state while a part is trimmed, and how it goes on.
use Rattle.std.specs.Prelude.{ℕ, suc, ◌+◌, ◌≤◌, ◌<◌, ◌≡◌, Bool, List, ◌⊎◌, T, get_or}
use Rattle.graph.specs.Graph.{Graph, Part, all, rev}
use Rattle.graph.specs.Parts.{Tight}
use Rattle.graph.specs.Search.{part}
use Rattle.index.specs.Index.{first}
use Rattle.memory.specs.Decomposer.{col, que, Aside}
use Rattle.paint.specs.Paint.{other}
use Rattle.prune.specs.Trim.{live, rev_at, into_at, out_at}
use Rattle.prune.specs.Cursor.{cur, ahead, Clear, Rests, Stands, Walking, Starts, Hued}

-- k vertices have gone so far, and stand in the queue
pub record Pruning (g : Graph) (b q k : ℕ) (w : List ℕ) : Type 0 where
  pub walking : Walking g b q w
  pub gone : (i : ℕ) → i < k → (que g.n b w i < g.n) × (col b w (que g.n b w i) ≡ q → ⊥)
  pub room : k + live g.n b q w ≤ g.n

-- v's cursor in w' rests at an edge that led into the part in w
abbrev pub Fresh : Graph → ℕ → ℕ → ℕ → ℕ → List ℕ → List ℕ → ℕ → Type 0
Fresh g ix cb b q w w' v = Rests g ix cb b q (λ u. col b w u ≡ q) w' v

-- a cursor stayed, or was put at an edge that leads into the part as it was
abbrev pub Moved : Graph → ℕ → ℕ → ℕ → ℕ → List ℕ → List ℕ → Type 0
Moved g ix cb b q w w' = (v : ℕ) → v < g.n → col b w' v ≡ q → (cur cb w' v ≡ cur cb w v) ⊎ Fresh g ix cb b q w w' v

-- what the cursors of the part have passed leads out of it
pub record Sound (g : Graph) (b q : ℕ) (w : List ℕ) : Type 0 where
  pub out : (v : ℕ) → v < g.n → col b w v ≡ q → Clear g 0 b q w v (cur (out_at g b) w v)
  pub into : (v : ℕ) → v < g.n → col b w v ≡ q → Clear (rev g) (rev_at g) b q w v (cur (into_at g b) w v)

-- the tight sets of vertices of the colour q are kept
abbrev pub Keeps : Graph → ℕ → ℕ → List ℕ → List ℕ → Type 0
Keeps g b q w w' = (X : ℕ → Bool) → Tight g (part X) → ((v : ℕ) → T (X v) → Hued g.n b q w v) → (v : ℕ) → T (X v) → Hued g.n b q w' v

-- each vertex kept its colour, or went: from the colour q to its own number, and into the queue
abbrev pub Each : ℕ → ℕ → ℕ → ℕ → List ℕ → List ℕ → ℕ → Type 0
Each n b q k w w' k' = (v : ℕ) → v < n → (col b w' v ≡ col b w v)
    ⊎ ((col b w v ≡ q) × (col b w' v ≡ v) × ((i : ℕ) × (k ≤ i) × (i < k') × (que n b w' i ≡ v)))

-- Trimming has gone on.
pub record Pruned (g : Graph) (b q k : ℕ) (w w' : List ℕ) (k' : ℕ) : Type 0 where
  pub state : Pruning g b q k' w'
  pub more : k ≤ k'
  pub each : Each g.n b q k w w' k'
  pub front : (i : ℕ) → i < k → que g.n b w' i ≡ que g.n b w i
  pub sum : k' + live g.n b q w' ≡ k + live g.n b q w
  pub keeps : Keeps g b q w w'
  pub out : Moved g 0 (out_at g b) b q w w'
  pub into : Moved (rev g) (rev_at g) (into_at g b) b q w w'
  pub aside : Aside g.n b w w'

pub record ExamineAsk (g : Graph) (b v ob ib q k : ℕ) (w : List ℕ) : Type 0 where
  pub state : Pruning g b q k w
  pub low : v < g.n
  pub starts : col b w v ≡ q → Starts g b v ob ib q w

-- Vertex v was examined: it has gone, or its cursors stand at edges that lead into the part.
pub record Examined (g : Graph) (b v q k : ℕ) (w w' : List ℕ) (k' : ℕ) : Type 0 where
  pub pruned : Pruned g b q k w w' k'
  pub stands : col b w' v ≡ q → Stands g 0 (out_at g b) b q w' v × Stands (rev g) (rev_at g) (into_at g b) b q w' v

-- the neighbours that stand in w at eb + i .. eb + t - 1 are to be examined
pub record AroundAsk (g : Graph) (eb b i t q k : ℕ) (w : List ℕ) : Type 0 where
  pub state : Pruning g b q k w
  pub sound : Sound g b q w
  pub order : i ≤ t
  pub below : eb + t ≤ b
  pub ends : (j : ℕ) → i ≤ j → j < t → other w eb j < g.n

pub record Around (g : Graph) (eb b i t q k : ℕ) (w w' : List ℕ) (k' : ℕ) : Type 0 where
  pub pruned : Pruned g b q k w w' k'
  pub fresh : (j : ℕ) → i ≤ j → j < t → col b w' (other w eb j) ≡ q
      → Fresh g 0 (out_at g b) b q w w' (other w eb j) × Fresh (rev g) (rev_at g) (into_at g b) b q w w' (other w eb j)

-- the neighbours of u by the index at ix
abbrev pub NearAsk : Graph → ℕ → ℕ → ℕ → ℕ → ℕ → List ℕ → Type 0
NearAsk g ix b u q k w = (u < g.n) × AroundAsk g (ix + g.n + 1) b (get_or w (ix + u) 0) (get_or w (ix + u + 1) 0) q k w

abbrev pub Near : Graph → ℕ → ℕ → ℕ → ℕ → ℕ → List ℕ → List ℕ → ℕ → Type 0
Near g ix b u q k w w' k' = Around g (ix + g.n + 1) b (get_or w (ix + u) 0) (get_or w (ix + u + 1) 0) q k w w' k'

pub record BesideAsk (g : Graph) (b u q k : ℕ) (w : List ℕ) : Type 0 where
  pub state : Pruning g b q k w
  pub sound : Sound g b q w
  pub low : u < g.n
  pub went : col b w u ≡ q → ⊥

-- no cursor of the part stands at an edge whose other end is u
abbrev pub Off : Graph → ℕ → ℕ → ℕ → ℕ → ℕ → List ℕ → Type 0
Off g ix cb b q u w = (v : ℕ) → v < g.n → col b w v ≡ q → cur cb w v < first g (suc v) → ahead g ix cb w v ≡ u → ⊥

pub record Beside (g : Graph) (b u q k : ℕ) (w w' : List ℕ) (k' : ℕ) : Type 0 where
  pub pruned : Pruned g b q k w w' k'
  pub out : Off g 0 (out_at g b) b q u w'
  pub into : Off (rev g) (rev_at g) (into_at g b) b q u w'

-- u is in the part, or in the queue from h on
abbrev pub Here : ℕ → ℕ → ℕ → ℕ → ℕ → List ℕ → Part
Here n b q h k w u = (col b w u ≡ q) ⊎ ((i : ℕ) × (h ≤ i) × (i < k) × (que n b w i ≡ u))

-- v's cursor rests at an edge to such a vertex
abbrev pub Standing : Graph → ℕ → ℕ → ℕ → ℕ → ℕ → ℕ → List ℕ → ℕ → Type 0
Standing g ix cb b q h k w v = Rests g ix cb b q (Here g.n b q h k w) w v

-- all vertices of P that are left of the part stand so
abbrev pub AllStanding : Graph → ℕ → ℕ → Part → ℕ → ℕ → List ℕ → Type 0
AllStanding g b q P h k w = (v : ℕ) → P v → v < g.n → col b w v ≡ q
    → Standing g 0 (out_at g b) b q h k w v × Standing (rev g) (rev_at g) (into_at g b) b q h k w v

pub record DrainAsk (g : Graph) (b q k : ℕ) (w : List ℕ) : Type 0 where
  pub state : Pruning g b q k w
  pub standing : AllStanding g b q all 0 k w

-- every vertex of the part stands at edges within it
pub record Drained (g : Graph) (b q k : ℕ) (w w' : List ℕ) (k' : ℕ) : Type 0 where
  pub pruned : Pruned g b q k w w' k'
  pub stands : (v : ℕ) → v < g.n → col b w' v ≡ q → Stands g 0 (out_at g b) b q w' v × Stands (rev g) (rev_at g) (into_at g b) b q w' v

pub record Passed (g : Graph) (b q : ℕ) (w w' : List ℕ) (k : ℕ) : Type 0 where
  pub pruned : Pruned g b q 0 w w' k
  pub standing : AllStanding g b q all 0 k w'
