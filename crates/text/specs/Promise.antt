-- The reader's promise.
use Rattle.std.specs.Prelude.{ℕ, min, ◌≡◌, List, length, Result as Answer}
use Rattle.graph.specs.declared.refusal.Refusal.{Refusal}
use Rattle.text.specs.declared.entries.Edge.{Edge}
use Rattle.text.specs.declared.Size.{Size}
use Rattle.text.specs.Market.{Result, refused, done, as_reading, Table, market}
use Rattle.text.specs.Steps.{column}

-- all that the reader is given
pub record Call : Type 0 where
  pub text : List ℕ
  pub most_vertices : ℕ
  pub most_edges : ℕ
  pub sources : List ℕ
  pub targets : List ℕ

-- what the text comes to, with room for as many edges as the shorter table slice has places
abbrev pub reading : Call → Result Table
reading c = market (record { most_vertices = c.most_vertices; most_edges = c.most_edges; room = min (length c.sources) (length c.targets) }) c.text

-- the answer to a reading
unfoldable pub answer_to : Result Table → Result Size
answer_to (refused k) = refused k
answer_to (done t) = done (record { n = t.n; edges = length t.edges })

-- a table slice after a reading: as it was, or with the edges at its front
unfoldable pub after : (Edge → ℕ) → Result Table → List ℕ → List ℕ
after end (refused k) xs = xs
after end (done t) xs = column end t.edges xs

pub record Promise (c : Call) (answer : Answer Size Refusal) (sources' targets' : List ℕ) : Type 0 where
  pub answers : as_reading answer ≡ answer_to (reading c)
  pub sources_afterwards : sources' ≡ after (λ a. a.source) (reading c) c.sources
  pub targets_afterwards : targets' ≡ after (λ a. a.target) (reading c) c.targets
