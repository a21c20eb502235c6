-- What becomes of lent memory.
use Rattle.std.specs.Prelude.{ℕ, suc, ◌+◌, ◌≤◌, ◌<◌, ◌^◌, ◌≡◌, List, ◌⊎◌, length, get_or}
use Rattle.graph.specs.Limits.{InLimits, Enough, numbers_needed, words_needed}

-- the first k are zero, and what lies beyond is as it was
pub record Zeroed (k : ℕ) (w w' : List ℕ) : Type 0 where
  pub long : length w' ≡ length w
  pub front : (j : ℕ) → j < k → get_or w' j 0 ≡ 0
  pub rest : (j : ℕ) → k ≤ j → get_or w' j 0 ≡ get_or w j 0

-- only what stands from a up to e may have changed
pub record Framed (a e : ℕ) (w w' : List ℕ) : Type 0 where
  pub long : length w' ≡ length w
  pub low : (j : ℕ) → j < a → get_or w' j 0 ≡ get_or w j 0
  pub high : (j : ℕ) → e ≤ j → get_or w' j 0 ≡ get_or w j 0

-- what a region of w holds from a on
abbrev pub region : ℕ → List ℕ → ℕ → ℕ
region a w v = get_or w (a + v) 0

-- the region from a on holds f, as far as n
abbrev pub Holds : ℕ → ℕ → (ℕ → ℕ) → List ℕ → Type 0
Holds n a f w = (v : ℕ) → v < n → get_or w (a + v) 0 ≡ f v

-- the n places from a on became f 0, f 1, .., and the rest is as it was
pub record Put (a n : ℕ) (f : ℕ → ℕ) (w w' : List ℕ) : Type 0 where
  pub framed : Framed a (a + n) w w'
  pub each : (i : ℕ) → i < n → get_or w' (a + i) 0 ≡ f i

abbrev pub Filled : ℕ → ℕ → ℕ → List ℕ → List ℕ → Type 0
Filled a n x = Put a n (λ i. x)

pub record CountAsk (a len first : ℕ) (w : List ℕ) : Type 0 where
  pub room : a + len ≤ length w
  pub small : len + first < 2 ^ 32

-- a column became what stands in w from a on
pub record Copied (w : List ℕ) (a : ℕ) (column column' : List ℕ) : Type 0 where
  pub long : length column' ≡ length column
  pub each : (v : ℕ) → v < length column → get_or column' v 0 ≡ get_or w (a + v) 0

-- place p is at least x now, and no more than it must be
pub record Raised (p x : ℕ) (w w' : List ℕ) : Type 0 where
  pub framed : Framed p (suc p) w w'
  pub up : get_or w p 0 ≤ get_or w' p 0
  pub over : x ≤ get_or w' p 0
  pub either : (get_or w' p 0 ≡ get_or w p 0) ⊎ (get_or w' p 0 ≡ x)

pub record ClearAsk (n m : ℕ) (numbers words : List ℕ) : Type 0 where
  pub limits : InLimits n m
  pub enough : Enough n m (length numbers) (length words)

-- the working memory of n vertices and m edges is as after a completed call
pub record Cleared (n m : ℕ) (numbers numbers' words words' : List ℕ) : Type 0 where
  pub numbers_zero : Zeroed (numbers_needed n m) numbers numbers'
  pub words_zero : Zeroed (words_needed n) words words'
