-- The length of a set, and the size of its words.
use Rattle.std.specs.Prelude.{ℕ, ◌<◌, ◌^◌, Bool, not, List, length, get_or, eqb}
use Rattle.graph.specs.Limits.{words_of}

-- a set is not exactly n / 64 words, rounded up
abbrev pub ill_sized : ℕ → List ℕ → Bool
ill_sized n ws = not (eqb (length ws) (words_of n))

-- what a slice of u64 holds, by its type: numbers of 64 bits
abbrev pub Words : List ℕ → Type 0
Words ws = (i : ℕ) → get_or ws i 0 < 2 ^ 64
