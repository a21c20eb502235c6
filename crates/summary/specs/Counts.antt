-- What the functions below the summary ask and give: labels counted in a block of label values.
use Rattle.std.specs.Prelude.{ℕ, ◌+◌, ◌≤◌, ◌<◌, ◌≡◌, Bool, cond, max, List, length, get_or, eqb, leb}
use Rattle.graph.specs.Limits.{most_vertices}
use Rattle.graph.specs.Numbers.{many, most}
use Rattle.graph.specs.Summary.{sharing}
use Rattle.summary.specs.declared.blocks.Totals.{Totals}

-- 1 if the test holds, else 0
abbrev pub one : Bool → ℕ
one b = cond b 1 0

-- every counter is below the vertex limit, so one more fits
abbrev pub Low : List ℕ → Type 0
Low counts = (j : ℕ) → j < length counts → get_or counts j 0 < most_vertices

-- counter j, for the label low + j, has grown by one if that is the label l
pub record Added (low l : ℕ) (counts counts' : List ℕ) : Type 0 where
  pub long : length counts' ≡ length counts
  pub at_each : (j : ℕ) → j < length counts → get_or counts' j 0 ≡ get_or counts j 0 + one (eqb l (low + j))

-- counter j holds how many of the first k vertices have the label low + j
pub record Upto (label : List ℕ) (low k : ℕ) (counts : List ℕ) : Type 0 where
  pub shared : (j : ℕ) → j < length counts → get_or counts j 0 ≡ many (λ v. eqb (get_or label v 0) (low + j)) k

-- a column within the limit, and counters that start at zero
pub record Fresh (label counts : List ℕ) : Type 0 where
  pub few : length label ≤ most_vertices
  pub zeros : (j : ℕ) → j < length counts → get_or counts j 0 ≡ 0

-- counter j holds how many vertices share the label low + j
pub record Counted (label : List ℕ) (low : ℕ) (counts : List ℕ) : Type 0 where
  pub shared : (j : ℕ) → j < length counts → get_or counts j 0 ≡ sharing label (low + j)

-- the totals of one label that so many vertices share
abbrev pub totals_of : ℕ → Totals
totals_of count = record { rings = one (leb 2 count); largest = count }

-- the totals of labels and of other ones
abbrev pub joined : Totals → Totals → Totals
joined s t = record { rings = s.rings + t.rings; largest = max s.largest t.largest }

-- of k numbers: how many are two or more, and the greatest
pub record Folded (count : ℕ → ℕ) (k : ℕ) (t : Totals) : Type 0 where
  pub rings_are : t.rings ≡ many (λ j. leb 2 (count j)) k
  pub largest_is : t.largest ≡ most count k
