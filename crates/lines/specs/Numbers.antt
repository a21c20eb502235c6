-- The numbers of a line.
use Rattle.std.specs.Prelude.{ℕ, ◌+◌, ◌*◌, ◌-◌, Bool, true, cond, ◌&&◌, List, [], ◌∷◌, leb, ltb, length, Option, Some, None}
use Rattle.lines.specs.Pieces.{split}

abbrev pub is_digit : ℕ → Bool
is_digit b = leb 48 b && leb b 57

unfoldable pub digits_only : List ℕ → Bool
digits_only [] = true
digits_only (b ∷ bs) = is_digit b && digits_only bs

-- the value of digits that stand after those of the value v
unfoldable pub value_from : ℕ → List ℕ → ℕ
value_from v [] = v
value_from v (b ∷ bs) = value_from (v * 10 + (b - 48)) bs

abbrev pub most_digits : ℕ
most_digits = 9

-- a word as a number: 1 to 9 digits, leading zeros allowed
unfoldable pub number_of : List ℕ → Option ℕ
number_of w = cond (leb 1 (length w) && leb (length w) most_digits && digits_only w) (Some (value_from 0 w)) None

abbrev pub space : ℕ
space = 32

-- what is left of a list of words without the empty ones
unfoldable pub filled : List (List ℕ) → List (List ℕ)
filled [] = []
filled ([] ∷ ws) = filled ws
filled ((b ∷ w) ∷ ws) = (b ∷ w) ∷ filled ws

-- the words of a line: what stands between spaces
unfoldable pub words : List ℕ → List (List ℕ)
words line = filled (split space line)

-- the numbers of a line, or that it is faulty
pub data Content : Type 0 where
  faulty : Content
  numbers : List ℕ → Content

unfoldable pub and_then : Option ℕ → Content → Content
and_then None c = faulty
and_then (Some v) faulty = faulty
and_then (Some v) (numbers vs) = numbers (v ∷ vs)

-- words that are all numbers
unfoldable pub numbers_of : List (List ℕ) → Content
numbers_of [] = numbers []
numbers_of (w ∷ ws) = and_then (number_of w) (numbers_of ws)

abbrev pub longest_line : ℕ
longest_line = 1024

-- what a line holds: faulty if it is over 1,024 bytes, or has a word that is no number
unfoldable pub content : List ℕ → Content
content line = cond (ltb longest_line (length line)) faulty (numbers_of (words line))
