-- The search in memory: colours in the label column l; offsets and neighbours in w, and from b on stack, fronts and path.
use Rattle.std.specs.Prelude.{ℕ, suc, ◌+◌, ◌*◌, ◌-◌, ◌≤◌, ◌<◌, ◌≡◌, cond, List, eqb, length, get_or}
use Rattle.graph.specs.Graph.{Graph, Kinds, Valid, IsLabel, edges}
use Rattle.graph.specs.Limits.{most_vertices, most_edges}
use Rattle.index.specs.Index.{first}
use Rattle.memory.specs.Memory.{Framed}
use Rattle.moves.specs.declared.Stand.{Stand}
use Rattle.linear.specs.Path.{Setting, Between, left}
use Rattle.moves.specs.Moves.{hue_of, off_of, other_of, stack_of, front_of, path_of, cursor_of}

-- where the search stands, whatever steps led there
abbrev pub stand : (s k p u c h : ℕ) → Stand
stand s k p u c h = record { stack = s; fronts = k; path = p; top = u; cursor = c; end = h; steps = 0 }

-- nothing is on the stack
abbrev pub resting : Stand
resting = stand 0 0 0 0 0 0

-- r alone is on the stack
abbrev pub alone : ℕ → List ℕ → Stand
alone r w = stand 1 1 1 r (off_of w r) (off_of w (r + 1))

-- f, with y at place p
unfoldable pub onto : ℕ → ℕ → (ℕ → ℕ) → ℕ → ℕ
onto p y f q = cond (eqb q p) y (f q)

-- the vertices of the path and their next edges: of the last the stand has them, of the others the memory
abbrev pub path_at : (n b : ℕ) → Stand → List ℕ → ℕ → ℕ
path_at n b x w = onto (x.path - 1) x.top (path_of n b w)

abbrev pub cursor_at : (n b : ℕ) → Stand → List ℕ → ℕ → ℕ
cursor_at n b x w = onto (x.path - 1) x.cursor (cursor_of n b w)

abbrev pub left_of : (n b : ℕ) → Stand → (l w : List ℕ) → ℕ
left_of n b x l w = left n (off_of w) x.stack x.fronts x.path (hue_of l) (path_at n b x w) (cursor_at n b x w)

-- between two steps
pub record Searching (g : Graph) (b : ℕ) (x : Stand) (l w : List ℕ) : Type 0 where
  pub setting : Setting g (off_of w) (other_of g.n w)
  pub small : g.n ≤ most_vertices
  pub few : edges g ≤ most_edges
  pub behind : g.n + 1 + edges g ≤ b
  pub room : b + 4 * g.n ≤ length w
  pub column : length l ≡ g.n
  pub ends : 0 < x.path → x.end ≡ off_of w (suc x.top)
  pub between : Between g (off_of w) (other_of g.n w) x.stack x.fronts x.path (hue_of l) (stack_of b w) (front_of g.n b w) (path_at g.n b x w) (cursor_at g.n b x w)
  -- all steps together are few
  pub bound : left_of g.n b x l w ≤ 5 * g.n + edges g

-- only what stands from b up to b + 4 n and colours have changed, and what is seen stays so
pub record Kept (n b : ℕ) (l w l' w' : List ℕ) : Type 0 where
  pub frame : Framed b (b + 4 * n) w w'
  pub long : length l' ≡ length l
  pub seen : (v : ℕ) → v < n → hue_of l' v ≡ n → hue_of l v ≡ n

pub record StepAsk (g : Graph) (b : ℕ) (x : Stand) (l w : List ℕ) : Type 0 where
  pub known : Searching g b x l w
  pub some : 0 < x.path

-- the search stands at r, and just as many steps are counted as fewer are left
pub record Stepped (g : Graph) (b : ℕ) (x : Stand) (l w l' w' : List ℕ) (r : Stand) : Type 0 where
  pub next : Searching g b r l' w'
  pub kept : Kept g.n b l w l' w'
  pub work : r.steps + left_of g.n b r l' w' ≡ left_of g.n b x l w
  pub some : 0 < r.steps

abbrev pub RunAsk : Graph → (b r : ℕ) (l w : List ℕ) → Type 0
RunAsk g b r l w = (r < g.n) × Searching g b (alone r w) l w

-- the path is at its end after t steps
pub record Ran (g : Graph) (b r : ℕ) (l w l' w' : List ℕ) (t : ℕ) : Type 0 where
  pub next : Searching g b resting l' w'
  pub kept : Kept g.n b l w l' w'
  pub work : t + left_of g.n b resting l' w' ≡ left_of g.n b (alone r w) l w

pub record RootAsk (g : Graph) (b r : ℕ) (l w : List ℕ) : Type 0 where
  pub known : Searching g b resting l w
  pub vertex : r < g.n

-- r is done after t steps
pub record Rooted (g : Graph) (b r : ℕ) (l w l' w' : List ℕ) (t : ℕ) : Type 0 where
  pub next : Searching g b resting l' w'
  pub kept : Kept g.n b l w l' w'
  pub over : hue_of l' r ≡ g.n → ⊥
  pub work : t + left_of g.n b resting l' w' ≡ 1 + left_of g.n b resting l w

abbrev pub RootsAsk : Graph → ℕ → (l w : List ℕ) → Type 0
RootsAsk g b l w = Searching g b resting l w

-- each colour is the label, after t steps
pub record Searched (g : Graph) (b : ℕ) (l w l' w' : List ℕ) (t : ℕ) : Type 0 where
  pub frame : Framed b (b + 4 * g.n) w w'
  pub long : length l' ≡ g.n
  pub labelled : (v : ℕ) → v < g.n → IsLabel g v (hue_of l' v)
  pub work : t ≡ g.n + left_of g.n b resting l w

pub record FindAsk (g : Graph) (kinds l w : List ℕ) : Type 0 where
  pub valid : Valid g
  pub kinded : Kinds (edges g) kinds
  pub small : g.n ≤ most_vertices
  pub few : edges g ≤ most_edges
  pub column : length l ≡ g.n
  pub room : 5 * g.n + 1 + edges g ≤ length w

-- the colours are the labels. The work is linear on every table: t is six for each vertex and one for each counted edge
pub record Found (g : Graph) (l' w w' : List ℕ) (t : ℕ) : Type 0 where
  pub column : length l' ≡ g.n
  pub labelled : (v : ℕ) → v < g.n → IsLabel g v (hue_of l' v)
  pub long : length w' ≡ length w
  pub rest : (j : ℕ) → 5 * g.n + 1 + edges g ≤ j → get_or w' j 0 ≡ get_or w j 0
  pub work : t ≡ 6 * g.n + first g g.n
