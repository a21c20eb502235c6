-- The Matrix Market exchange format in the narrower form of document 01, read line by line.
use Rattle.std.specs.Prelude.{ℕ, zero, suc, ◌-◌, Bool, true, false, cond, not, ◌&&◌, ◌||◌, List, [], ◌∷◌, eqb, leb, ltb, length, get_or, Option, Some, None, Ok, Err, Result as Answer}
use Rattle.graph.specs.Limits.{too_many_vertices, too_many_edges, wrong_length, first_line_faulty, size_line_faulty, entry_faulty}
use Rattle.graph.specs.Reasons.{number_of}
use Rattle.graph.specs.Refusal.{given, ◌or◌}
use Rattle.graph.specs.declared.refusal.Refusal.{Refusal}
use Rattle.lines.specs.Pieces.{lines}
use Rattle.lines.specs.Numbers.{Content, faulty, numbers, longest_line, content}
use Rattle.text.specs.declared.entries.Edge.{Edge}
use Rattle.text.specs.declared.header.Limits.{Limits}
use Rattle.text.specs.declared.Size.{Size}

-- what a reading comes to: a refusal number, or what was read
pub data Result (A : Type 0) : Type 0 where
  refused : ℕ → Result A
  done : A → Result A

-- what a call says, as a reading
abbrev pub as_reading : {A : Type 0} → Answer A Refusal → Result A
as_reading (Ok a) = done a
as_reading (Err r) = refused (number_of r)

-- a table of n vertices
pub record Table : Type 0 where
  pub n : ℕ
  pub edges : List Edge

-- two lists of bytes are the same
unfoldable pub same : List ℕ → List ℕ → Bool
same [] [] = true
same [] (b ∷ ys) = false
same (a ∷ xs) [] = false
same (a ∷ xs) (b ∷ ys) = eqb a b && same xs ys

-- line 1: `%%MatrixMarket matrix coordinate pattern general`
abbrev pub banner : List ℕ
banner =
    37 ∷ 37 ∷ 77 ∷ 97 ∷ 116 ∷ 114 ∷ 105 ∷ 120 ∷ 77 ∷ 97 ∷ 114 ∷ 107 ∷ 101 ∷ 116 ∷ 32 ∷ 109 ∷ 97 ∷ 116 ∷ 114 ∷ 105 ∷ 120 ∷ 32 ∷ 99 ∷ 111 ∷ 111 ∷ 114 ∷ 100 ∷ 105 ∷ 110 ∷ 97 ∷ 116 ∷ 101 ∷ 32 ∷ 112 ∷ 97 ∷ 116 ∷ 116 ∷ 101 ∷ 114 ∷ 110 ∷ 32 ∷ 103 ∷ 101 ∷ 110 ∷ 101 ∷ 114 ∷ 97 ∷ 108 ∷ []

abbrev pub percent : ℕ
percent = 37

-- a line that begins with `%`, of any bytes
unfoldable pub is_comment : List ℕ → Bool
is_comment line = leb (length line) longest_line && eqb (get_or line 0 0) percent

-- an empty line or a line of spaces
unfoldable pub has_none : Content → Bool
has_none faulty = false
has_none (numbers []) = true
has_none (numbers (v ∷ vs)) = false

unfoldable pub passed_over : List ℕ → Bool
passed_over line = is_comment line || has_none (content line)

-- the lines from the size line on
unfoldable pub pass_over : List (List ℕ) → List (List ℕ)
pass_over [] = []
pass_over (line ∷ rest) = cond (passed_over line) (pass_over rest) (line ∷ rest)

-- the tests at the size line, in their order
unfoldable pub size_refusal : Limits → ℕ → ℕ → ℕ → ℕ
size_refusal l rows columns entries =
    given size_line_faulty (not (eqb rows columns))
    or given too_many_vertices (ltb l.most_vertices rows)
    or given too_many_edges (ltb l.most_edges entries)
    or given wrong_length (ltb l.room entries)

-- n vertices and a count of entries, unless a test gives a number
unfoldable pub sized : ℕ → ℕ → ℕ → Result Size
sized k n count = cond (eqb k 0) (done (record { n = n; edges = count })) (refused k)

-- the size line: rows, columns, entries
unfoldable pub size_of : Limits → Content → Result Size
size_of l (numbers (rows ∷ columns ∷ entries ∷ [])) = sized (size_refusal l rows columns entries) rows entries
size_of l (numbers []) = refused size_line_faulty
size_of l (numbers (a ∷ [])) = refused size_line_faulty
size_of l (numbers (a ∷ b ∷ [])) = refused size_line_faulty
size_of l (numbers (a ∷ b ∷ c ∷ d ∷ vs)) = refused size_line_faulty
size_of l faulty = refused size_line_faulty

-- 1 ≤ i ≤ n
unfoldable pub inside : ℕ → ℕ → Bool
inside n i = leb 1 i && leb i n

-- a line after the size line: blank, or entry `i j`, the edge from i - 1 to j - 1
unfoldable pub entry_of : ℕ → Content → Result (Option Edge)
entry_of n (numbers []) = done None
entry_of n (numbers (i ∷ j ∷ [])) = cond (inside n i && inside n j) (done (Some (record { source = i - 1; target = j - 1 }))) (refused entry_faulty)
entry_of n (numbers (a ∷ [])) = refused entry_faulty
entry_of n (numbers (a ∷ b ∷ c ∷ vs)) = refused entry_faulty
entry_of n faulty = refused entry_faulty

-- an edge before those that follow
unfoldable pub with_edge : Edge → Result (List Edge) → Result (List Edge)
with_edge a (refused k) = refused k
with_edge a (done es) = done (a ∷ es)

-- what a line comes to where k entries are still to come
unfoldable pub at_entry : Result (Option Edge) → ℕ → (ℕ → Result (List Edge)) → Result (List Edge)
at_entry (done None) k after = after k
at_entry (refused j) k after = refused j
at_entry (done (Some a)) zero after = refused entry_faulty
at_entry (done (Some a)) (suc k) after = with_edge a (after k)

-- k entries of n vertices; a missing line counts as standing after the last
unfoldable pub entries : ℕ → ℕ → List (List ℕ) → Result (List Edge)
entries n k [] = cond (eqb k 0) (done []) (refused entry_faulty)
entries n k (line ∷ rest) = at_entry (entry_of n (content line)) k (λ j. entries n j rest)

-- the table of n vertices with those edges
unfoldable pub as_table : ℕ → Result (List Edge) → Result Table
as_table n (refused k) = refused k
as_table n (done es) = done (record { n = n; edges = es })

unfoldable pub at_size : Result Size → List (List ℕ) → Result Table
at_size (refused k) rest = refused k
at_size (done s) rest = as_table s.n (entries s.n s.edges rest)

-- the size line and the lines after it
unfoldable pub from_size : Limits → List (List ℕ) → Result Table
from_size l [] = refused size_line_faulty
from_size l (line ∷ rest) = at_size (size_of l (content line)) rest

-- all lines
unfoldable pub from_first : Limits → List (List ℕ) → Result Table
from_first l [] = refused first_line_faulty
from_first l (line ∷ rest) = cond (same line banner) (from_size l (pass_over rest)) (refused first_line_faulty)

-- the reading of a text
unfoldable pub market : Limits → List ℕ → Result Table
market l text = from_first l (lines text)
