-- The parts that wait: on the list, and then the pending ones.
use Rattle.std.specs.Prelude.{ℕ, ◌+◌, ◌*◌, ◌-◌, ◌≤◌, ◌<◌, ◌≡◌, cond, List, get_or, ltb}
use Rattle.graph.specs.Graph.{Graph}
use Rattle.split.specs.State.{Stage}
use Rattle.memory.specs.Decomposer.{own, nxt, lst, head}
use Rattle.split.specs.Chain.{Follows, First}
use Rattle.waiting.specs.declared.Part.{Part}
use Rattle.waiting.specs.Records.{none}
use Rattle.machine.specs.declared.Machine.{Machine}
use Rattle.machine.specs.Aim.{ring}

-- k parts wait, each by its first place and once; every vertex without a label is in one of them
pub record Waits (g : Graph) (b top k : ℕ) (h : ℕ → ℕ) (w : List ℕ) : Type 0 where
  pub stage : Stage g b top w
  pub next : (i : ℕ) → i < g.n → g.n ≤ own g.n b w i → Follows g.n (own g.n b w) i (nxt g.n b w i)
  pub none : (c : ℕ) → top ≤ c → c < 4 * g.n + 2 → g.n ≤ lst g.n b w c
  pub first : (i : ℕ) → i < k → First g.n (own g.n b w) (h i)
  pub all : (u : ℕ) → u < g.n → g.n ≤ own g.n b w u → (i : ℕ) × (i < k) × (own g.n b w (h i) ≡ own g.n b w u)
  pub one : (i j : ℕ) → i < k → j < k → own g.n b w (h i) ≡ own g.n b w (h j) → i ≡ j

-- how many wait
abbrev pub waiting_count : Machine → ℕ
waiting_count s = s.count + (s.pending - s.given)

-- the first place of the i-th: of a record on the list, else of a pending part
abbrev pub first_of : ℕ → ℕ → List Part → List ℕ → Machine → ℕ → ℕ
first_of n b ys w s i = cond (ltb i s.count) (get_or ys (ring n s i) none).first (head n b w (s.given + (i - s.count)))
