-- The search along one path: what holds between its steps. A vertex's colour is below n its label, n if it is not seen, n + 1 + i if it stands at place i of the stack.
use Rattle.std.specs.Prelude.{ℕ, suc, ◌+◌, ◌-◌, ◌*◌, ◌≤◌, ◌<◌, ◌≡◌, cond, ◌⊎◌, eqb}
use Rattle.graph.specs.Graph.{Graph, Valid, Edge, Reach, IsLabel, all}
use Rattle.graph.specs.Numbers.{tally}
use Rattle.index.specs.Index.{Adjacent}

-- a sound table, and the neighbours of its vertices
pub record Setting (g : Graph) (off other : ℕ → ℕ) : Type 0 where
  pub valid : Valid g
  pub index : Adjacent g off other

-- x is done, or stands on the stack in no earlier segment than v
abbrev pub Ahead : (n k : ℕ) (col fr : ℕ → ℕ) (v x : ℕ) → Type 0
Ahead n k col fr v x = (col x < n) ⊎ ((j : ℕ) → j < k → fr j ≤ col v → fr j ≤ col x)

-- The stack has s vertices st; fr are the colours of the first vertices of its k segments; the path has p vertices pa, of whose edges those from cu on are not looked at.
pub record Between (g : Graph) (off other : ℕ → ℕ) (s k p : ℕ) (col st fr pa cu : ℕ → ℕ) : Type 0 where
  pub done : (v : ℕ) → v < g.n → col v < g.n → IsLabel g v (col v)
  pub shut : (e u v : ℕ) → Edge g e u v → col u < g.n → col v < g.n
  pub vertex : (i : ℕ) → i < s → st i < g.n
  pub place : (i : ℕ) → i < s → col (st i) ≡ g.n + 1 + i
  pub whose : (v : ℕ) → v < g.n → g.n < col v → (i : ℕ) × (i < s) × (st i ≡ v)
  pub bottom : 0 < s → (0 < k) × (fr 0 ≡ g.n + 1)
  pub rise : (i j : ℕ) → i < j → j < k → fr i < fr j
  pub low : (j : ℕ) → j < k → fr j < g.n + 1 + s
  pub climb : (i j : ℕ) → i < j → j < p → col (pa i) < col (pa j)
  pub inside : (q : ℕ) → q < p → (pa q < g.n) × (g.n < col (pa q))
  pub fronts : (j : ℕ) → j < k → (q : ℕ) × (q < p) × (col (pa q) ≡ fr j)
  pub begun : (q : ℕ) → q < p → off (pa q) ≤ cu q
  pub until : (q : ℕ) → q < p → cu q ≤ off (suc (pa q))
  pub looked : (q c : ℕ) → q < p → off (pa q) ≤ c → c < cu q → Ahead g.n k col fr (pa q) (other c)
  -- a vertex of the stack is on the path, or all its edges are looked at
  pub ended : (v : ℕ) → v < g.n → g.n < col v
      → ((q : ℕ) × (q < p) × (pa q ≡ v)) ⊎ ((c : ℕ) → off v ≤ c → c < off (suc v) → Ahead g.n k col fr v (other c))
  pub on : (u v : ℕ) → u < g.n → v < g.n → g.n < col u → col u ≤ col v → Reach g all u v
  -- no segment begins behind u and up to v: v leads back to u
  pub back : (u v : ℕ) → u < g.n → v < g.n → g.n < col u → col u ≤ col v → ((a : ℕ) → a < k → col u < fr a → col v < fr a) → Reach g all v u

-- what a vertex that is not seen costs: its edges, to be entered and left, its segment, and twice its place on the stack
unfoldable pub cost : (n : ℕ) (off col : ℕ → ℕ) → ℕ → ℕ
cost n off col v = cond (eqb (col v) n) (5 + (off (suc v) - off v)) 0

-- how many steps are left
abbrev pub left : (n : ℕ) (off : ℕ → ℕ) (s k p : ℕ) (col pa cu : ℕ → ℕ) → ℕ
left n off s k p col pa cu = tally (cost n off col) n + tally (λ q. off (suc (pa q)) - cu q) p + 2 * s + k + p
