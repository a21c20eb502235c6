-- Places of a set, counted from 0 in rising order.
use Rattle.std.specs.Prelude.{◌≡◌, ℕ, ◌+◌, ◌<◌, ◌≤◌, List, length}
use Rattle.graph.specs.Limits.{words_of, most_vertices}
use Rattle.graph.specs.Numbers.{many, tally}
use Rattle.graph.specs.Sets.{bit, members}

-- the set of the words has a member at place j
pub record Within (w : List ℕ) (n j : ℕ) : Type 0 where
  pub small : n ≤ most_vertices
  pub words : length w ≡ words_of n
  pub low : j < many (members n w) n

-- from v on, which is below n, the set has more than k members below n
pub record From (w : List ℕ) (n v k : ℕ) : Type 0 where
  pub small : n ≤ most_vertices
  pub words : length w ≡ words_of n
  pub here : v < n
  pub low : tally (bit w) v + k < tally (bit w) n

-- r is a member, and k members stand from v on below it
pub record Found (w : List ℕ) (n v k r : ℕ) : Type 0 where
  pub low : r < n
  pub is : bit w r ≡ 1
  pub before : tally (bit w) r ≡ tally (bit w) v + k
