-- What the engines give.
use Rattle.std.specs.Prelude.{ℕ, List, Ok}
use Rattle.graph.specs.Graph.{Graph}
use Rattle.linear.specs.Promise as linear
use Rattle.decompose.specs.Promise as decompose

-- the column of a completed call on the collection g, whichever the engine: the decomposer with any method, order, chooser, lists and memory, or the linear engine with any memory
pub data Labelled (g : Graph) : List ℕ → Type 0 where
  decomposed : {k d : ℕ} {c : decompose.Call} {a : decompose.After} → decompose.PromiseOn k g c a (Ok d) → Labelled g a.label
  searched : {k : ℕ} {c : linear.Call} {l w ws : List ℕ} → linear.PromiseOn k g c l w ws 0 → Labelled g l
