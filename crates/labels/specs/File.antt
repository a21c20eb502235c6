-- The label file: banner, size line, then each vertex's label plus one.
use Rattle.std.specs.Prelude.{ℕ, zero, suc, ◌+◌, ◌/◌, ◌%◌, ◌^◌, List, [], ◌∷◌, ◌++◌, ltb, length}
use Rattle.graph.specs.Numbers.{least}
use Rattle.lines.specs.Pieces.{LF}
use Rattle.lines.specs.Numbers.{space}

-- how many digits x has: the smallest k from 1 on with x below 10 ^ k, for x of at most 20 digits
unfoldable pub width : ℕ → ℕ
width x = 1 + least 19 (λ k. ltb x (10 ^ (k + 1)))

-- the last k digits of x, the highest first
unfoldable pub digits : ℕ → ℕ → List ℕ
digits zero x = []
digits (suc k) x = (x / 10 ^ k % 10 + 48) ∷ digits k x

-- x in decimal, with no leading zero
unfoldable pub decimal : ℕ → List ℕ
decimal x = digits (width x) x

-- `%%MatrixMarket matrix array integer general`
abbrev pub banner : List ℕ
banner =
    37 ∷ 37 ∷ 77 ∷ 97 ∷ 116 ∷ 114 ∷ 105 ∷ 120 ∷ 77 ∷ 97 ∷ 114 ∷ 107 ∷ 101 ∷ 116 ∷ 32 ∷ 109 ∷ 97 ∷ 116 ∷ 114 ∷ 105 ∷ 120 ∷ 32 ∷ 97 ∷ 114 ∷ 114 ∷ 97 ∷ 121 ∷ 32 ∷ 105 ∷ 110 ∷ 116 ∷ 101 ∷ 103 ∷ 101 ∷ 114 ∷ 32 ∷ 103 ∷ 101 ∷ 110 ∷ 101 ∷ 114 ∷ 97 ∷ 108 ∷ []

-- bytes ended by LF
abbrev pub line : List ℕ → List ℕ
line xs = xs ++ (LF ∷ [])

unfoldable pub label_lines : List ℕ → List ℕ
label_lines [] = []
label_lines (l ∷ ls) = line (decimal (l + 1)) ++ label_lines ls

-- n and 1
abbrev pub size_line : ℕ → List ℕ
size_line n = line (decimal n ++ (space ∷ 49 ∷ []))

unfoldable pub label_file : List ℕ → List ℕ
label_file label = line banner ++ size_line (length label) ++ label_lines label
