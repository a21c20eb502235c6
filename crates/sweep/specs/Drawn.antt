-- Kind 1: what remains of a part is kept as a set as well, so that the vertex at a place of it is found by counts of ones.
use Rattle.std.specs.Prelude.{ℕ, ◌+◌, ◌*◌, ◌≤◌, ◌<◌, ◌≡◌, cond, List, ◌⊎◌, length}
use Rattle.graph.specs.Graph.{Graph}
use Rattle.graph.specs.Parts.{only}
use Rattle.graph.specs.Limits.{words_of, most_vertices}
use Rattle.graph.specs.Numbers.{tally}
use Rattle.graph.specs.Pivot.{draw, draws}
use Rattle.graph.specs.Apart.{has}
use Rattle.graph.specs.Sets.{bit}
use Rattle.sets.specs.Changes.{Added, Removed}
use Rattle.memory.specs.Decomposer.{col, que, ord, own}
use Rattle.paint.specs.Paint.{StartAsk, Searched}
use Rattle.split.specs.State.{Placed}
use Rattle.split.specs.Split.{Queued}
use Rattle.sweep.specs.Taken.{Ready, TakeAsk, Taken}
use Rattle.sweep.specs.Sweep.{chosen, Sweeps, Runs, SweepAsk}

-- the set has no vertex
pub record Empty (n : ℕ) (ws : List ℕ) : Type 0 where
  pub words : length ws ≡ words_of n
  pub none : (v : ℕ) → v < n → bit ws v ≡ 0

-- the set is what has the colour q, and left is its size
pub record Marks (n b q : ℕ) (w ws : List ℕ) (left : ℕ) : Type 0 where
  pub words : length ws ≡ words_of n
  pub bits : (v : ℕ) → v < n → bit ws v ≡ cond (has (col b w) q v) 1 0
  pub size : left ≡ tally (bit ws) n

pub record EnterAsk (n b i : ℕ) (w ws : List ℕ) (k : ℕ) : Type 0 where
  pub fits : b + 10 * n + 2 ≤ length w
  pub low : i < n
  pub vertex : ord n b w i < n
  pub words : length ws ≡ words_of n
  pub few : k ≤ most_vertices

-- The vertex at place i was added, where it has the colour q.
abbrev pub Entered : ℕ → ℕ → ℕ → ℕ → List ℕ → List ℕ → ℕ → List ℕ → ℕ → Type 0
Entered n b i q w ws k ws' k' =
    ((own n b w i ≡ q) × Added (ord n b w i) ws ws' × (k' ≡ k + 1)) ⊎ ((own n b w i ≡ q → ⊥) × (ws' ≡ ws) × (k' ≡ k))

pub record MarkAsk (n b h q : ℕ) (w ws : List ℕ) : Type 0 where
  pub small : n ≤ most_vertices
  pub fits : b + 10 * n + 2 ≤ length w
  pub placed : Placed n b w
  pub runs : Runs n b h q w
  pub empty : Empty n ws

pub record StrikeAsk (v : ℕ) (ws : List ℕ) (left : ℕ) : Type 0 where
  pub room : v < length ws * 64
  pub some : bit ws v ≡ 1 → 0 < left

-- v was taken out of the set, where it was in it.
abbrev pub Struck : ℕ → List ℕ → ℕ → List ℕ → ℕ → Type 0
Struck v ws left ws' left' = ((bit ws v ≡ 0) × (ws' ≡ ws) × (left' ≡ left)) ⊎ ((bit ws v ≡ 1) × Removed v ws ws' × (left' + 1 ≡ left))

pub record EraseAsk (n b : ℕ) (w : List ℕ) (k : ℕ) (ws : List ℕ) (left : ℕ) : Type 0 where
  pub queued : Queued n b w k
  pub words : length ws ≡ words_of n
  pub size : left ≡ tally (bit ws) n

-- The first k of the queue were taken out of the set, and nothing else.
pub record Erased (n b : ℕ) (w : List ℕ) (k : ℕ) (ws ws' : List ℕ) (left' : ℕ) : Type 0 where
  pub long : length ws' ≡ length ws
  pub gone : (i : ℕ) → i < k → bit ws' (que n b w i) ≡ 0
  pub else : (v : ℕ) → ((i : ℕ) → i < k → que n b w i ≡ v → ⊥) → bit ws' v ≡ bit ws v
  pub size : left' ≡ tally (bit ws') n

-- A search in the part q from p; no colour becomes q.
pub record FindAsk (g : Graph) (m : ℕ → ℕ) (ix b p q : ℕ) (w ws : List ℕ) (left : ℕ) : Type 0 where
  pub start : StartAsk g m ix b p w
  pub away : (y : ℕ) → m y ≡ q → ⊥
  pub marks : Marks g.n b q w ws left

-- The set has lost what the search has painted.
pub record FoundIn (g : Graph) (m : ℕ → ℕ) (b p q : ℕ) (w w' ws' : List ℕ) (k left' : ℕ) : Type 0 where
  pub seen : ℕ
  pub searched : Searched g m b (only p) w w' k seen
  pub marks : Marks g.n b q w' ws' left'

pub record PickAsk (g : Graph) (slicing b p q top : ℕ) (w ws : List ℕ) (left : ℕ) : Type 0 where
  pub take : TakeAsk g slicing b p q top w
  pub marks : Marks g.n b q w ws left

-- The pivot p was taken, and the set is what is left of the part.
pub record Picked (g : Graph) (slicing b p q top : ℕ) (w w' ws' : List ℕ) (left' top' : ℕ) : Type 0 where
  pub taken : Taken g slicing b p q top w w' top'
  pub marks : Marks g.n b q w' ws' left'

pub record DrawAsk (g : Graph) (slicing b q top : ℕ) (w ws : List ℕ) (left : ℕ) : Type 0 where
  pub ready : Ready g slicing b q top w
  pub marks : Marks g.n b q w ws left
  pub some : 0 < left

-- One draw: the vertex drawn was the pivot.
pub record Drawn (g : Graph) (slicing b q state top : ℕ) (w w' ws' : List ℕ) (state' left' top' : ℕ) : Type 0 where
  pub advanced : state' ≡ draw state
  pub vertex : ℕ
  pub low : vertex < g.n
  pub live : col b w vertex ≡ q
  pub exact : vertex ≡ chosen g.n b w q 1 state
  pub picked : Picked g slicing b vertex q top w w' ws' left' top'

pub record RunAsk (g : Graph) (slicing b q top : ℕ) (w ws : List ℕ) (left : ℕ) : Type 0 where
  pub ready : Ready g slicing b q top w
  pub marks : Marks g.n b q w ws left

pub record DrawnAsk (g : Graph) (slicing b h q top : ℕ) (w ws : List ℕ) : Type 0 where
  pub sweep : SweepAsk g slicing b h q top w
  pub empty : Empty g.n ws

-- The part q was swept by k draws, and the set is empty.
pub record SweptDrawn (g : Graph) (slicing b q state top : ℕ) (w w' ws' : List ℕ) (state' k top' : ℕ) : Type 0 where
  pub sweeps : Sweeps g slicing b q 1 state top w k top' w'
  pub advanced : state' ≡ draws k state
  pub gone : (v : ℕ) → v < g.n → col b w' v ≡ q → ⊥
  pub empty : Empty g.n ws'
