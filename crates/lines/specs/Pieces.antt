-- A text in pieces, each ended by one byte. The last may lack it, and nothing stands after a final one.
use Rattle.std.specs.Prelude.{ℕ, suc, ◌+◌, cond, List, [], ◌∷◌, eqb, ltb, length, drop}

-- a byte put before the first piece
unfoldable pub before : ℕ → List (List ℕ) → List (List ℕ)
before b [] = (b ∷ []) ∷ []
before b (p ∷ ps) = (b ∷ p) ∷ ps

-- the pieces of a list, each ended by the byte stop
unfoldable pub split : ℕ → List ℕ → List (List ℕ)
split stop [] = []
split stop (b ∷ bs) = cond (eqb b stop) ([] ∷ split stop bs) (before b (split stop bs))

abbrev pub LF : ℕ
LF = 10

-- the lines of a text
abbrev pub lines : List ℕ → List (List ℕ)
lines text = split LF text

-- how many bytes stand before the first stop, or before the end
unfoldable pub run : ℕ → List ℕ → ℕ
run stop [] = 0
run stop (b ∷ bs) = cond (eqb b stop) 0 (suc (run stop bs))

-- where the piece that starts at `at` ends
abbrev pub piece_end : ℕ → List ℕ → ℕ → ℕ
piece_end stop s at = at + run stop (drop at s)

-- where the piece after one that ends at e starts: past what ends it, or at the end of the text
abbrev pub past_end : List ℕ → ℕ → ℕ
past_end s e = cond (ltb e (length s)) (e + 1) e

-- a piece by its start, its end and where the next one starts, or none
pub data Place : Type 0 where
  At : ℕ → ℕ → ℕ → Place
  None : Place

-- the piece that starts at `at`; none where `at` is at the end of the text
abbrev pub piece_at : ℕ → List ℕ → ℕ → Place
piece_at stop s at = cond (ltb at (length s)) (At at (piece_end stop s at) (past_end s (piece_end stop s at))) None

abbrev pub line_at : List ℕ → ℕ → Place
line_at s at = piece_at LF s at
