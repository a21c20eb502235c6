-- Seeds: while what a pivot reaches is cut into slices, what remains of it has the colour r. A seed is marked once and listed.
use Rattle.std.specs.Prelude.{ℕ, ◌+◌, ◌*◌, ◌≤◌, ◌<◌, ◌≡◌, ◌&&◌, List, ◌⊎◌, length, get_or, set, eqb}
use Rattle.graph.specs.Graph.{Graph, Part, Edge}
use Rattle.graph.specs.Numbers.{many}
use Rattle.graph.specs.Limits.{most_vertices}
use Rattle.memory.specs.Decomposer.{col, que, flag, seed, marks_at, order_at, seeds_at}
use Rattle.split.specs.State.{Tables}

-- what remains, and the seeds in it
abbrev pub Rest : ℕ → ℕ → ℕ → List ℕ → Part
Rest n b r w v = (v < n) × (col b w v ≡ r)

abbrev pub Seeds : ℕ → ℕ → ℕ → List ℕ → Part
Seeds n b r w v = (v < n) × (col b w v ≡ r) × (flag n b w v ≡ 0 → ⊥)

-- v stands in the list of seeds, from place l up to e
abbrev pub Listed : ℕ → ℕ → List ℕ → ℕ → ℕ → Part
Listed n b w l e v = (i : ℕ) × (l ≤ i) × (i < e) × (seed n b w i ≡ v)

-- how many of what remains never were seeds
abbrev pub unmarked : ℕ → ℕ → ℕ → List ℕ → ℕ
unmarked n b r w = many (λ v. eqb (col b w v) r && eqb (flag n b w v) 0) n

pub record MarkAsk (n b y r e : ℕ) (w : List ℕ) : Type 0 where
  pub low : y < n
  pub small : n ≤ most_vertices
  pub long : b + 10 * n + 2 ≤ length w
  pub room : col b w y ≡ r → flag n b w y ≡ 0 → e < n

-- y was marked and listed, if it is in what remains and had no mark
abbrev pub Mark : ℕ → ℕ → ℕ → ℕ → ℕ → List ℕ → List ℕ → ℕ → Type 0
Mark n b y r e w w' e' =
    ((col b w y ≡ r) × (flag n b w y ≡ 0) × (w' ≡ set (set w (marks_at n b + y) 1) (seeds_at n b + e) y) × (e' ≡ e + 1))
    ⊎ ((col b w y ≡ r → flag n b w y ≡ 0 → ⊥) × (w' ≡ w) × (e' ≡ e))

-- The list of seeds grew from e to e'; of what remains, all of which Done holds are marked, and no others were.
pub record Marked (n b r : ℕ) (w : List ℕ) (e : ℕ) (w' : List ℕ) (e' : ℕ) (Done : Part) : Type 0 where
  pub more : e ≤ e'
  pub front : (i : ℕ) → i < e → seed n b w' i ≡ seed n b w i
  pub fresh : (i : ℕ) → e ≤ i → i < e' → seed n b w' i < n
  pub each : (v : ℕ) → v < n → (flag n b w' v ≡ flag n b w v)
      ⊎ ((col b w v ≡ r) × (flag n b w' v ≡ 0 → ⊥) × ((i : ℕ) × (e ≤ i) × (i < e') × (seed n b w' i ≡ v)))
  pub keeps : (v : ℕ) → v < n → (flag n b w v ≡ 0 → ⊥) → flag n b w' v ≡ 0 → ⊥
  pub done : (v : ℕ) → v < n → Done v → col b w v ≡ r → flag n b w' v ≡ 0 → ⊥
  pub only : (v : ℕ) → v < n → flag n b w v ≡ 0 → (flag n b w' v ≡ 0 → ⊥) → Done v
  pub marks : (i : ℕ) → e ≤ i → i < e' → flag n b w' (seed n b w' i) ≡ 0 → ⊥
  pub moved : e' + unmarked n b r w' ≡ e + unmarked n b r w
  pub low : (j : ℕ) → j < marks_at n b → get_or w' j 0 ≡ get_or w j 0
  pub high : (j : ℕ) → order_at n b ≤ j → get_or w' j 0 ≡ get_or w j 0
  pub long : length w' ≡ length w

-- an edge leads from u to v
abbrev pub Next : Graph → ℕ → Part
Next g u v = (a : ℕ) × Edge g a u v

pub record NextAsk (g : Graph) (b r v e : ℕ) (w : List ℕ) : Type 0 where
  pub tables : Tables g b w
  pub long : b + 10 * g.n + 2 ≤ length w
  pub low : v < g.n
  pub room : e + unmarked g.n b r w ≤ g.n

-- an edge leads to v from one of the first k of the queue
abbrev pub Behind : Graph → ℕ → List ℕ → ℕ → Part
Behind g b w k v = (i : ℕ) × (i < k) × Next g (que g.n b w i) v

pub record AllAsk (g : Graph) (b r k e : ℕ) (w : List ℕ) : Type 0 where
  pub tables : Tables g b w
  pub long : b + 10 * g.n + 2 ≤ length w
  pub few : k ≤ g.n
  pub member : (i : ℕ) → i < k → que g.n b w i < g.n
  pub room : e + unmarked g.n b r w ≤ g.n
