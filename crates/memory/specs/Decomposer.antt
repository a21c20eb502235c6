-- Where the decomposer's regions stand, and what they hold. b is where the indexes end.
use Rattle.std.specs.Prelude.{ℕ, ◌+◌, ◌*◌, ◌≤◌, ◌<◌, ◌≡◌, List, length, get_or}

-- colours are at b, the queue is behind them
abbrev pub queue_at : ℕ → ℕ → ℕ
queue_at n b = b + n

-- the next place of each place in its part; from n on, the last place of each part
abbrev pub chains_at : ℕ → ℕ → ℕ
chains_at n b = b + 2 * n

-- the last place of each part, that of part n first
abbrev pub lasts_at : ℕ → ℕ → ℕ
lasts_at n b = b + 3 * n

-- cursors of the edges that enter each vertex, and of those that leave it
abbrev pub entering_at : ℕ → ℕ → ℕ
entering_at n b = b + 6 * n + 2

abbrev pub leaving_at : ℕ → ℕ → ℕ
leaving_at n b = b + 7 * n + 2

-- method 1 has the marks of its seeds there
abbrev pub marks_at : ℕ → ℕ → ℕ
marks_at n b = b + 7 * n + 2

-- the first place of each pending part
abbrev pub pending_at : ℕ → ℕ → ℕ
pending_at n b = b + 8 * n + 2

-- method 1 has its seeds there
abbrev pub seeds_at : ℕ → ℕ → ℕ
seeds_at n b = b + 8 * n + 2

-- the vertices in the order in which a sweep takes its pivots
abbrev pub order_at : ℕ → ℕ → ℕ
order_at n b = b + 9 * n + 2

-- the colour of v
abbrev pub col : ℕ → List ℕ → ℕ → ℕ
col b w v = get_or w (b + v) 0

-- what stands at place i of the queue
abbrev pub que : ℕ → ℕ → List ℕ → ℕ → ℕ
que n b w i = get_or w (queue_at n b + i) 0

-- what stands at place i of the chains: the next place of its part
abbrev pub nxt : ℕ → ℕ → List ℕ → ℕ → ℕ
nxt n b w i = get_or w (chains_at n b + i) 0

-- the last place so far of the part c, n or more if there is none; parts are n .. 4 n + 1
abbrev pub lst : ℕ → ℕ → List ℕ → ℕ → ℕ
lst n b w c = get_or w (chains_at n b + c) 0

-- v's mark, 0 if v never was a seed; what stands at place i of the list of seeds
abbrev pub flag : ℕ → ℕ → List ℕ → ℕ → ℕ
flag n b w v = get_or w (marks_at n b + v) 0

abbrev pub seed : ℕ → ℕ → List ℕ → ℕ → ℕ
seed n b w i = get_or w (seeds_at n b + i) 0

-- the first place of pending part j
abbrev pub head : ℕ → ℕ → List ℕ → ℕ → ℕ
head n b w j = get_or w (pending_at n b + j) 0

-- the vertex at place i of the order
abbrev pub ord : ℕ → ℕ → List ℕ → ℕ → ℕ
ord n b w i = get_or w (order_at n b + i) 0

-- and its colour
abbrev pub own : ℕ → ℕ → List ℕ → ℕ → ℕ
own n b w i = col b w (ord n b w i)

-- only colours, the queue, and what stands from the cursors up to e may have changed
pub record Touched (n b e : ℕ) (w w' : List ℕ) : Type 0 where
  pub low : (j : ℕ) → j < b → get_or w' j 0 ≡ get_or w j 0
  pub mid : (j : ℕ) → chains_at n b ≤ j → j < entering_at n b → get_or w' j 0 ≡ get_or w j 0
  pub high : (j : ℕ) → e ≤ j → get_or w' j 0 ≡ get_or w j 0
  pub long : length w' ≡ length w

-- of the regions behind the chains the cursors alone; those and the list of seeds
abbrev pub Aside : ℕ → ℕ → List ℕ → List ℕ → Type 0
Aside n b = Touched n b (pending_at n b)

abbrev pub Inside : ℕ → ℕ → List ℕ → List ℕ → Type 0
Inside n b = Touched n b (order_at n b)
