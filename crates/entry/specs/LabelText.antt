-- The entry for C: the label file of a text, into a buffer.
use Rattle.std.specs.Prelude.{ℕ, ◌≡◌, cond, List, ◌++◌, map, ltb, ℤ, pos, neg_ℤ, length, drop, Result as Answer}
use Rattle.graph.specs.Graph.{Graph, graph}
use Rattle.graph.specs.Limits.{room_short}
use Rattle.graph.specs.Search.{labels}
use Rattle.graph.specs.declared.refusal.Refusal.{Refusal}
use Rattle.text.specs.declared.header.Limits.{Limits}
use Rattle.text.specs.Market.{Result, refused, done, as_reading, Table, market}
use Rattle.labels.specs.File.{label_file}

-- at most 512 vertices and 4,096 edges, and room for them
abbrev pub entry_limits : Limits
entry_limits = record { most_vertices = 512; most_edges = 4096; room = 4096 }

-- the collection that a table describes
abbrev pub graph_of : Table → Graph
graph_of t = graph t.n (map (λ a. a.source) t.edges) (map (λ a. a.target) t.edges)

-- the label file of a reading
unfoldable pub file_of : Result Table → Result (List ℕ)
file_of (refused k) = refused k
file_of (done t) = done (label_file (labels (graph_of t)))

-- bytes that have to fit a room; 12 comes last
unfoldable pub in_room : ℕ → Result (List ℕ) → Result (List ℕ)
in_room room (refused k) = refused k
in_room room (done bytes) = cond (ltb room (length bytes)) (refused room_short) (done bytes)

-- what a text and a buffer come to
unfoldable pub outcome : List ℕ → List ℕ → Result (List ℕ)
outcome text out = in_room (length out) (file_of (market entry_limits text))

-- how many bytes there are
unfoldable pub answer_to : Result (List ℕ) → Result ℕ
answer_to (refused k) = refused k
answer_to (done bytes) = done (length bytes)

-- the bytes written, or minus the refusal number
unfoldable pub returned : Result (List ℕ) → ℤ
returned (refused k) = neg_ℤ (pos k)
returned (done bytes) = pos (length bytes)

-- the buffer afterwards: as it was, or with the bytes at its front
unfoldable pub after : Result (List ℕ) → List ℕ → List ℕ
after (refused k) out = out
after (done bytes) out = bytes ++ drop (length bytes) out

pub record Answered (text out : List ℕ) (answer : Answer ℕ Refusal) (out' : List ℕ) : Type 0 where
  pub answers : as_reading answer ≡ answer_to (outcome text out)
  pub out_after : out' ≡ after (outcome text out) out

pub record Promise (text out : List ℕ) (r : ℤ) (out' : List ℕ) : Type 0 where
  pub returns : r ≡ returned (outcome text out)
  pub out_after : out' ≡ after (outcome text out) out
