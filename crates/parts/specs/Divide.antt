-- A part is divided: made ready, swept by pivots of a kind and of either method, and its new parts handed out.
use Rattle.std.specs.Prelude.{ℕ, ◌+◌, ◌*◌, ◌≤◌, ◌<◌, ◌≡◌, cond, List, ◌⊎◌, length, get_or, eqb}
use Rattle.graph.specs.Graph.{Graph, edges}
use Rattle.graph.specs.Limits.{words_of}
use Rattle.graph.specs.Pivot.{draws}
use Rattle.memory.specs.Decomposer.{col, own, nxt, lst, head, order_at, Inside}
use Rattle.prune.specs.Trim.{TrimAsk, Trimmed}
use Rattle.split.specs.State.{labelled, rings, Stage}
use Rattle.split.specs.Chain.{Follows, First}
use Rattle.slices.specs.Prepare.{PrepareAsk, Prepared}
use Rattle.sweep.specs.Sweep.{Sweeps}
pub use Rattle.sweep.specs.Kind.{Blank}

-- The part whose first place is h has its chain; no colour from top on has a last place.
pub record DivideAsk (g : Graph) (b h top : ℕ) (w ws : List ℕ) : Type 0 where
  pub stage : Stage g b top w
  pub first : First g.n (own g.n b w) h
  pub chain : (i : ℕ) → i < g.n → own g.n b w i ≡ own g.n b w h → Follows g.n (own g.n b w) i (nxt g.n b w i)
  pub none : (c : ℕ) → top ≤ c → c < 4 * g.n + 2 → g.n ≤ lst g.n b w c
  pub blank : Blank g.n ws

-- method 1 divides only what is the one part
pub record MethodAsk (g : Graph) (slicing b h top : ℕ) (w ws : List ℕ) : Type 0 where
  pub ask : DivideAsk g b h top w ws
  pub only : slicing ≡ 1 → top ≡ g.n + 1

-- The part q, whose chain begins at place h, is to be made ready for its sweep.
pub record MakeAsk (g : Graph) (b h q : ℕ) (w : List ℕ) : Type 0 where
  pub trim : TrimAsk g b h q w
  pub prepare : PrepareAsk g.n (edges g) b w

-- It was trimmed, or no vertex has been looked at.
abbrev pub Made : Graph → ℕ → ℕ → ℕ → List ℕ → List ℕ → Type 0
Made g slicing b q w w' = ((slicing ≡ 1 → ⊥) × ((k : ℕ) × Trimmed g b q w w' k)) ⊎ ((slicing ≡ 1) × Prepared g.n (edges g) b w g.n w')

-- The part at h was swept: each of its vertices has its label or a new colour, top up to top'. Other colours, the chains and the order are as they were.
pub record Recoloured (g : Graph) (b h top : ℕ) (w w' : List ℕ) (top' : ℕ) : Type 0 where
  pub stage : Stage g b top' w'
  pub more : top ≤ top'
  pub others : (v : ℕ) → v < g.n → (col b w v ≡ own g.n b w h → ⊥) → col b w' v ≡ col b w v
  pub ours : (v : ℕ) → v < g.n → col b w v ≡ own g.n b w h → (col b w' v < g.n) ⊎ (top ≤ col b w' v)
  pub inside : Inside g.n b w w'

-- The part at h was handed out; its new parts are pending, each by its first place.
pub record Handed (g : Graph) (b h top : ℕ) (w ws w' ws' : List ℕ) (top' children : ℕ) : Type 0 where
  pub stage : Stage g b top' w'
  -- other parts are as they were, and what was in this one has its label or a new colour
  pub others : (v : ℕ) → v < g.n → (col b w v ≡ own g.n b w h → ⊥) → col b w' v ≡ col b w v
  pub ours : (v : ℕ) → v < g.n → col b w v ≡ own g.n b w h → (col b w' v < g.n) ⊎ (top ≤ col b w' v)
  pub rest : (i : ℕ) → i < g.n → (own g.n b w i ≡ own g.n b w h → ⊥) → nxt g.n b w' i ≡ nxt g.n b w i
  -- the chains of the new parts, and their first places
  pub next : (i : ℕ) → i < g.n → top ≤ own g.n b w' i → Follows g.n (own g.n b w') i (nxt g.n b w' i)
  pub heads : (j : ℕ) → j < children → First g.n (own g.n b w') (head g.n b w' j) × (top ≤ own g.n b w' (head g.n b w' j))
  pub all : (i : ℕ) → i < g.n → top ≤ own g.n b w' i → (j : ℕ) × (j < children) × (own g.n b w' (head g.n b w' j) ≡ own g.n b w' i)
  pub apart : (i j : ℕ) → i < j → j < children → own g.n b w' (head g.n b w' i) ≡ own g.n b w' (head g.n b w' j) → ⊥
  pub most : children ≤ g.n
  pub none : (c : ℕ) → top' ≤ c → c < 4 * g.n + 2 → g.n ≤ lst g.n b w' c
  -- the rest of the memory
  pub low : (j : ℕ) → j < b → get_or w' j 0 ≡ get_or w j 0
  pub high : (j : ℕ) → order_at g.n b ≤ j → get_or w' j 0 ≡ get_or w j 0
  pub long : length w' ≡ length w
  pub blank : Blank g.n ws'
  pub beyond : (j : ℕ) → words_of g.n ≤ j → get_or ws' j 0 ≡ get_or ws j 0
  pub words_long : length ws' ≡ length ws

-- The part whose first place is h was divided.
pub record Division (g : Graph) (slicing b kind state h top : ℕ) (w ws w' ws' : List ℕ) (state' k top' children : ℕ) : Type 0 where
  pub first : First g.n (own g.n b w) h
  pub handed : Handed g b h top w ws w' ws' top' children
  -- it was made ready, and then swept by the pivots that the kind chooses
  pub ready : List ℕ
  pub made : Made g slicing b (own g.n b w h) w ready
  pub swept : List ℕ
  pub pivots : ℕ
  pub sweeps : Sweeps g slicing b (own g.n b w h) kind state top ready pivots top' swept
  pub drawn : k ≡ cond (eqb kind 1) pivots 0
  pub advanced : state' ≡ draws k state
  -- handing out changes no colour
  pub colours : (v : ℕ) → v < g.n → col b w' v ≡ col b swept v
  -- each pivot leaves the part, and finishes at most one component of two or more
  pub most : pivots ≤ g.n
  pub many : rings g b w' ≤ rings g b w + pivots
  -- by method 0 each pivot labels a vertex, and some vertex has got its label
  pub few : (slicing ≡ 1 → ⊥) → labelled g b w + pivots ≤ labelled g b w'
  pub some : (slicing ≡ 1 → ⊥) → labelled g b w < labelled g b w'
  -- by method 1 only components of one vertex have got their labels
  pub alone : slicing ≡ 1 → rings g b w' ≤ rings g b w
