-- The linear engine as callers see it.
use Rattle.std.specs.Prelude.{ℕ, ◌≡◌, not, List, [], length, eqb}
use Rattle.graph.specs.Graph.{Graph, table}
use Rattle.graph.specs.declared.table.Table.{Table}
use Rattle.graph.specs.Search.{labels}
use Rattle.graph.specs.Limits.{numbers_needed, words_needed, wrong_length, memory_short}
use Rattle.graph.specs.Refusal.{given, ◌or◌, table_refusal, lacking}
use Rattle.memory.specs.Memory.{Zeroed}

-- what the engine is given
pub record Call : Type 0 where
  pub n : ℕ
  pub sources : List ℕ
  pub targets : List ℕ
  pub kinds : List ℕ
  pub mask : ℕ
  pub label : List ℕ
  pub numbers : List ℕ
  pub words : List ℕ

-- the call on a lent table
abbrev pub call : Table → (label numbers words : List ℕ) → Call
call t label numbers words = record {
  n = t.n;
  sources = t.sources.now;
  targets = t.targets.now;
  kinds = t.kinds.now;
  mask = t.mask;
  label = label;
  numbers = numbers;
  words = words;
}

-- k, the number by which the table's check refuses; if it is 0, the first of 5, 6 that applies, else 0
unfoldable pub refusal_on : ℕ → Call → ℕ
refusal_on k c =
    k
    or given wrong_length (not (eqb (length c.label) c.n))
    or given memory_short (lacking c.n (length c.sources) (length c.numbers) (length c.words))

-- the first of 1, 2, 21, 3, 4, 22, 5, 6 that applies, else 0
abbrev pub label_refusal : Call → ℕ
label_refusal c = refusal_on (table_refusal c.n c.sources c.targets c.kinds) c

-- the call's table: edges of a kind in the mask count
abbrev pub collection : Call → Graph
collection c = table c.n c.sources c.targets c.kinds c.mask

-- the same call on a table without kinds
abbrev pub bare : Call → Call
bare c = record {
  n = c.n;
  sources = c.sources;
  targets = c.targets;
  kinds = [];
  mask = 0;
  label = c.label;
  numbers = c.numbers;
  words = c.words;
}

-- done: the labels of the collection g, and the working memory
pub record Finished (g : Graph) (c : Call) (l w ws : List ℕ) : Type 0 where
  pub label : l ≡ labels g
  pub numbers : Zeroed (numbers_needed c.n (length c.sources)) c.numbers w
  pub words : Zeroed (words_needed c.n) c.words ws

-- refused: nothing that was lent has changed
pub record Untouched (c : Call) (l w ws : List ℕ) : Type 0 where
  pub label : l ≡ c.label
  pub numbers : w ≡ c.numbers
  pub words : ws ≡ c.words

-- what is promised of the graph g, whose table's check gives k, where the call gives r
pub record PromiseOn (k : ℕ) (g : Graph) (c : Call) (l w ws : List ℕ) (r : ℕ) : Type 0 where
  pub refusal : r ≡ refusal_on k c
  pub finished : r ≡ 0 → Finished g c l w ws
  pub untouched : (r ≡ 0 → ⊥) → Untouched c l w ws

abbrev pub Promise : Call → List ℕ → List ℕ → List ℕ → ℕ → Type 0
Promise c = PromiseOn (table_refusal c.n c.sources c.targets c.kinds) (collection c) c
