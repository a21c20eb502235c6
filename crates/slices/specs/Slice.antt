-- A slice: everything that reaches a seed within what remains. The successors of the slice outside it are the next seeds.
use Rattle.std.specs.Prelude.{ℕ, ◌+◌, ◌*◌, ◌≤◌, ◌<◌, ◌≡◌, List, ◌⊎◌}
use Rattle.graph.specs.Graph.{Graph, rev}
use Rattle.graph.specs.Parts.{Alone}
use Rattle.graph.specs.Apart.{Slice, Slicing, Obf}
use Rattle.index.specs.Index.{first}
use Rattle.memory.specs.Decomposer.{col, flag, seed, Inside}
use Rattle.prune.specs.Cursor.{cur}
use Rattle.split.specs.State.{Owned, held}
use Rattle.split.specs.Split.{PivotAsk}
use Rattle.slices.specs.Seeds.{Seeds, Listed, unmarked}
use Rattle.slices.specs.Peel.{into, Standing, Stuck}

-- All seeds in what remains stand in the list from place l up to e; what is listed is marked.
pub record Listing (g : Graph) (b r l e : ℕ) (w : List ℕ) : Type 0 where
  pub standing : Standing g b r w
  pub order : l ≤ e
  pub room : e + unmarked g.n b r w ≤ g.n
  pub member : (i : ℕ) → i < e → seed g.n b w i < g.n
  pub listed : (v : ℕ) → Seeds g.n b r w v → Listed g.n b w l e v
  pub marks : (i : ℕ) → i < e → flag g.n b w (seed g.n b w i) ≡ 0 → ⊥

pub record CutAsk (g : Graph) (b r s l e : ℕ) (w : List ℕ) : Type 0 where
  pub listing : Listing g b r l e w
  pub stuck : Stuck g b r w
  pub part : g.n ≤ s
  pub under : s < r

-- The slice s was cut from what remains; the seeds in what remains now stand in the list from e up to e'.
pub record Cut (g : Graph) (b r s : ℕ) (w : List ℕ) (e : ℕ) (w' : List ℕ) (e' : ℕ) : Type 0 where
  pub listing : Listing g b r e e' w'
  pub slice : Slice g r s (col b w) (flag g.n b w) (col b w') (flag g.n b w')
  pub kept : (v : ℕ) → v < g.n → (col b w v ≡ r → ⊥) → (flag g.n b w' v ≡ flag g.n b w v) × (cur (into g b) w' v ≡ cur (into g b) w v)
  pub room : e' + unmarked g.n b r w' ≤ e + unmarked g.n b r w
  pub inside : Inside g.n b w w'

-- Slicing has come from w to w'. Of what remained in w, a vertex still remains, is a component alone and has its label, or is in one of the slices top .. s - 1.
pub record Cuts (g : Graph) (b r top : ℕ) (w : List ℕ) (l e s : ℕ) (w' : List ℕ) : Type 0 where
  pub listing : Listing g b r l e w'
  pub steps : Slicing g r (col b w) (flag g.n b w) top (col b w') (flag g.n b w') s
  pub went : (v : ℕ) → v < g.n → (col b w' v ≡ col b w v)
      ⊎ ((col b w v ≡ r) × (((col b w' v ≡ v) × Alone g v) ⊎ ((top ≤ col b w' v) × (col b w' v < s))))
  pub kept : (v : ℕ) → v < g.n → (col b w v ≡ r → ⊥) → (flag g.n b w' v ≡ flag g.n b w v) × (cur (into g b) w' v ≡ cur (into g b) w v)
  pub least : top ≤ s
  pub most : s ≤ top + l
  pub room : e + unmarked g.n b r w' ≤ 1 + unmarked g.n b r w
  pub inside : Inside g.n b w w'

pub record CutsAsk (g : Graph) (b r top : ℕ) (w : List ℕ) : Type 0 where
  pub listing : Listing g b r 0 1 w
  pub part : g.n ≤ top
  pub under : top + g.n < r

-- Nothing remains.
pub record Done (g : Graph) (b r top : ℕ) (w w' : List ℕ) (s : ℕ) : Type 0 where
  pub places : ℕ
  pub seeds : ℕ
  pub cuts : Cuts g b r top w places seeds s w'
  pub none : (v : ℕ) → v < g.n → col b w' v ≡ r → ⊥

-- no vertex of the colour q has been looked at
abbrev pub Untouched : Graph → ℕ → ℕ → List ℕ → Type 0
Untouched g b q w = (v : ℕ) → v < g.n → col b w v ≡ q → (flag g.n b w v ≡ 0) × (cur (into g b) w v ≡ first (rev g) v)

-- What is left of the part q has not been looked at; for each vertex of it there is room for one colour more.
pub record Uncut (g : Graph) (b q top : ℕ) (w : List ℕ) : Type 0 where
  pub room : top + held g.n b q w ≤ 2 * g.n + 1
  pub untouched : Untouched g b q w

pub record SliceAsk (g : Graph) (b p q top : ℕ) (w : List ℕ) : Type 0 where
  pub ask : PivotAsk g b p q top w
  pub untouched : Untouched g b q w

-- What p reaches in the part q is cut into components alone, which have their labels, and the slices top .. top' - 1.
pub record Sliced (g : Graph) (b p q top : ℕ) (w w' : List ℕ) (top' : ℕ) : Type 0 where
  pub method : Obf g p q top (col b w) (col b w') top'
  pub owned : Owned g (col b w') top'
  pub others : (v : ℕ) → v < g.n → (col b w v ≡ q → ⊥) → col b w' v ≡ col b w v
  pub ours : (v : ℕ) → v < g.n → col b w v ≡ q → (col b w' v ≡ q) ⊎ (((col b w' v ≡ v) × Alone g v) ⊎ ((top ≤ col b w' v) × (col b w' v < top')))
  pub pivot : col b w' p ≡ q → ⊥
  pub least : top ≤ top'
  pub room : top' + held g.n b q w' ≤ top + held g.n b q w
  pub untouched : Untouched g b q w'
  pub inside : Inside g.n b w w'
