-- Peeling: a seed that no edge of what remains enters is a component alone and goes; its successors become seeds.
use Rattle.std.specs.Prelude.{ℕ, suc, ◌+◌, ◌*◌, ◌≤◌, ◌<◌, ◌≡◌, List, ◌⊎◌, length, eqb}
use Rattle.graph.specs.Graph.{Graph, Part, rev, edges}
use Rattle.graph.specs.Parts.{Fwd, Alone, Entered}
use Rattle.graph.specs.Apart.{Slicing}
use Rattle.graph.specs.Numbers.{many}
use Rattle.prune.specs.Cursor.{cur, Side}
use Rattle.memory.specs.Decomposer.{col, que, flag, seed, entering_at, Inside}
use Rattle.split.specs.State.{Tables, Owned}
use Rattle.slices.specs.Seeds.{Rest, Seeds, Listed, unmarked, Next}

-- where the cursors of the edges that enter stand
abbrev pub into : Graph → ℕ → ℕ
into g b = entering_at g.n b

-- how many remain
abbrev pub remaining : ℕ → ℕ → ℕ → List ℕ → ℕ
remaining n b r w = many (λ v. eqb (col b w v) r) n

-- Colours are constant on components, and every vertex of what remains is reached within it from a seed.
pub record Standing (g : Graph) (b r : ℕ) (w : List ℕ) : Type 0 where
  pub tables : Tables g b w
  pub long : b + 10 * g.n + 2 ≤ length w
  pub over : g.n ≤ r
  pub fits : r ≤ 1000000
  pub owned : Owned g (col b w) (suc r)
  pub side : Side (rev g) (g.n + 1 + edges g) (into g b) b r w
  pub cover : (v : ℕ) → Rest g.n b r w v → Fwd g (Rest g.n b r w) (Seeds g.n b r w) v

-- v is to be looked at: an edge leads to it from one of the places h .. k - 1 of the queue
abbrev pub Due : Graph → ℕ → List ℕ → ℕ → ℕ → Part
Due g b w h k v = (i : ℕ) × (h ≤ i) × (i < k) × Next g (que g.n b w i) v

-- From w on seeds went as components alone: the list of seeds grew from e to e', what went stands in the queue, from place k to k'.
-- Of what remains its successors are marked, and no others were.
pub record Peeled (g : Graph) (b r : ℕ) (w : List ℕ) (e k : ℕ) (w' : List ℕ) (e' k' : ℕ) : Type 0 where
  pub standing : Standing g b r w'
  pub steps : (s : ℕ) → Slicing g r (col b w) (flag g.n b w) s (col b w') (flag g.n b w') s
  pub went : (v : ℕ) → v < g.n → (col b w' v ≡ col b w v) ⊎ ((col b w v ≡ r) × (col b w' v ≡ v) × Alone g v)
  pub kept : (v : ℕ) → v < g.n → (col b w v ≡ r → ⊥) → (flag g.n b w' v ≡ flag g.n b w v) × (cur (into g b) w' v ≡ cur (into g b) w v)
  pub keeps : (v : ℕ) → v < g.n → (flag g.n b w v ≡ 0 → ⊥) → flag g.n b w' v ≡ 0 → ⊥
  pub more : e ≤ e'
  pub front : (i : ℕ) → i < e → seed g.n b w' i ≡ seed g.n b w i
  pub fresh : (i : ℕ) → e ≤ i → i < e' → seed g.n b w' i < g.n
  pub marks : (i : ℕ) → e ≤ i → i < e' → flag g.n b w' (seed g.n b w' i) ≡ 0 → ⊥
  pub each : (v : ℕ) → v < g.n → (flag g.n b w' v ≡ flag g.n b w v) ⊎ ((i : ℕ) × (e ≤ i) × (i < e') × (seed g.n b w' i ≡ v))
  pub room : e' + unmarked g.n b r w' ≤ e + unmarked g.n b r w
  pub gone : k' + remaining g.n b r w' ≤ k + remaining g.n b r w
  pub line : (i : ℕ) → i < k → que g.n b w' i ≡ que g.n b w i
  pub behind : (i : ℕ) → k ≤ i → i < k' → que g.n b w' i < g.n
  pub queued : (v : ℕ) → v < g.n → col b w v ≡ r → (col b w' v ≡ r) ⊎ ((i : ℕ) × (k ≤ i) × (i < k') × (que g.n b w' i ≡ v))
  pub due : (v : ℕ) → v < g.n → Due g b w' k k' v → col b w' v ≡ r → flag g.n b w' v ≡ 0 → ⊥
  pub only : (v : ℕ) → v < g.n → flag g.n b w v ≡ 0 → (flag g.n b w' v ≡ 0 → ⊥) → Due g b w' k k' v
  pub late : k ≤ k'
  pub inside : Inside g.n b w w'

-- v stays: an edge of what remains enters it, or it is to be looked at again
abbrev pub Stays : Graph → ℕ → ℕ → List ℕ → ℕ → ℕ → Part
Stays g b r w h k v = Entered g (Rest g.n b r w) v ⊎ Due g b w h k v

-- Seeds went, and of what still remains each of which Done holds stays.
pub record Settled (g : Graph) (b r : ℕ) (w : List ℕ) (e k : ℕ) (w' : List ℕ) (e' k' : ℕ) (Done : Part) : Type 0 where
  pub peeled : Peeled g b r w e k w' e' k'
  pub stays : (v : ℕ) → Rest g.n b r w' v → Done v → Stays g b r w' k k' v

-- no seed can go
abbrev pub Stuck : Graph → ℕ → ℕ → List ℕ → Type 0
Stuck g b r w = (v : ℕ) → Seeds g.n b r w v → Entered g (Rest g.n b r w) v

-- Seeds went until none can.
pub record PeeledAll (g : Graph) (b r : ℕ) (w : List ℕ) (e : ℕ) (w' : List ℕ) (e' k' : ℕ) : Type 0 where
  pub peeled : Peeled g b r w e 0 w' e' k'
  pub stuck : Stuck g b r w'

-- e seeds are listed, k vertices have gone; of what remains, all of X are seeds
pub record PeelAsk (g : Graph) (b r v e k : ℕ) (w : List ℕ) (X : Part) : Type 0 where
  pub standing : Standing g b r w
  pub low : v < g.n
  pub room : e + unmarked g.n b r w ≤ g.n
  pub gone : k + remaining g.n b r w ≤ g.n
  pub seeds : (u : ℕ) → Rest g.n b r w u → X u → flag g.n b w u ≡ 0 → ⊥

-- k vertices have gone, and stand in the queue; of what remains their successors are seeds, and all other seeds are entered
pub record DrainAsk (g : Graph) (b r e k : ℕ) (w : List ℕ) : Type 0 where
  pub standing : Standing g b r w
  pub room : e + unmarked g.n b r w ≤ g.n
  pub gone : k + remaining g.n b r w ≤ g.n
  pub member : (i : ℕ) → i < k → que g.n b w i < g.n
  pub seeds : (v : ℕ) → Rest g.n b r w v → Due g b w 0 k v → flag g.n b w v ≡ 0 → ⊥
  pub stays : (v : ℕ) → Seeds g.n b r w v → Stays g b r w 0 k v

-- all seeds stand in the list, from place l up to e
pub record PassAsk (g : Graph) (b r l e : ℕ) (w : List ℕ) : Type 0 where
  pub standing : Standing g b r w
  pub order : l ≤ e
  pub room : e + unmarked g.n b r w ≤ g.n
  pub member : (i : ℕ) → i < e → seed g.n b w i < g.n
  pub marks : (i : ℕ) → i < e → flag g.n b w (seed g.n b w i) ≡ 0 → ⊥
  pub listed : (v : ℕ) → Seeds g.n b r w v → Listed g.n b w l e v
