-- Trimming as callers see it.
use Rattle.std.specs.Prelude.{ℕ, ◌≤◌, ◌≡◌, Bool, cond, ◌||◌, List, [], Result, Ok, Err, length}
use Rattle.graph.specs.Limits.{numbers_needed, words_needed, wrong_length, memory_short}
use Rattle.graph.specs.Numbers.{many, mark}
use Rattle.graph.specs.Graph.{Graph, table}
use Rattle.graph.specs.Search.{core}
use Rattle.graph.specs.Sets.{bit, members}
use Rattle.memory.specs.Memory.{Zeroed}
use Rattle.graph.specs.Refusal.{given, ◌or◌, table_refusal, lacking}
use Rattle.sets.specs.Sizes.{ill_sized, Words}
use Rattle.graph.specs.Reasons.{number_of, said}
use Rattle.graph.specs.declared.refusal.Refusal.{Refusal}
use Rattle.graph.specs.declared.table.Table.{Table}

-- what trimming is given
pub record Call : Type 0 where
  pub n : ℕ
  pub sources : List ℕ
  pub targets : List ℕ
  pub kinds : List ℕ
  pub mask : ℕ
  pub part : List ℕ
  pub left : List ℕ
  pub numbers : List ℕ
  pub words : List ℕ

-- the call of a lent table
abbrev pub call_of : Table → (part left numbers words : List ℕ) → Call
call_of t part left numbers words = record {
  n = t.n;
  sources = t.sources.now;
  targets = t.targets.now;
  kinds = t.kinds.now;
  mask = t.mask;
  part = part;
  left = left;
  numbers = numbers;
  words = words;
}

-- k, the number by which the table's check refuses; if it is 0, the first of 5, 6 that applies, else 0
unfoldable pub refusal_on : ℕ → Call → ℕ
refusal_on k c =
    k
    or given wrong_length (ill_sized c.n c.part || ill_sized c.n c.left)
    or given memory_short (lacking c.n (length c.sources) (length c.numbers) (length c.words))

-- the first of 1, 2, 21, 3, 4, 22, 5, 6 that applies, else 0
abbrev pub trim_refusal : Call → ℕ
trim_refusal c = refusal_on (table_refusal c.n c.sources c.targets c.kinds) c

-- the call's table: edges of a kind in the mask count
abbrev pub collection : Call → Graph
collection c = table c.n c.sources c.targets c.kinds c.mask

-- the same call on a table without kinds
abbrev pub bare : Call → Call
bare c = record {
  n = c.n;
  sources = c.sources;
  targets = c.targets;
  kinds = [];
  mask = 0;
  part = c.part;
  left = c.left;
  numbers = c.numbers;
  words = c.words;
}

-- what rounds of trimming in g leave of the part: marks of the vertices below n
abbrev pub left_of : Graph → Call → List Bool
left_of g c = core g (members c.n c.part)

-- done: the set of what is left, bits at n and above zero, its size, and the working memory
pub record Finished (g : Graph) (c : Call) (r w ws : List ℕ) (k : ℕ) : Type 0 where
  pub long : length r ≡ length c.left
  pub fit : Words r
  pub set : (v : ℕ) → bit r v ≡ cond (mark (left_of g c) v) 1 0
  pub above : (v : ℕ) → c.n ≤ v → bit r v ≡ 0
  pub vertices : k ≡ many (mark (left_of g c)) c.n
  pub numbers : Zeroed (numbers_needed c.n (length c.sources)) c.numbers w
  pub words : Zeroed (words_needed c.n) c.words ws

-- refused: nothing that was lent has changed
pub record Untouched (c : Call) (r w ws : List ℕ) (k : ℕ) : Type 0 where
  pub refused : k ≡ 0 → ⊥
  pub left : r ≡ c.left
  pub numbers : w ≡ c.numbers
  pub words : ws ≡ c.words

-- the values of an answer, and the final contents of what was lent
abbrev pub Gives : Graph → Call → List ℕ → List ℕ → List ℕ → Result ℕ Refusal → Type 0
Gives g c r w ws (Ok k) = Finished g c r w ws k
Gives g c r w ws (Err k) = Untouched c r w ws (number_of k)

-- what is promised of the graph g, whose table's check gives k
pub record PromiseOn (k : ℕ) (g : Graph) (c : Call) (r w ws : List ℕ) (a : Result ℕ Refusal) : Type 0 where
  pub refusal : said a ≡ refusal_on k c
  pub gives : Gives g c r w ws a

abbrev pub Promise : Call → List ℕ → List ℕ → List ℕ → Result ℕ Refusal → Type 0
Promise c = PromiseOn (table_refusal c.n c.sources c.targets c.kinds) (collection c) c
