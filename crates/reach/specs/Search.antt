-- The search as callers see it.
use Rattle.std.specs.Prelude.{ℕ, ◌≤◌, ◌≡◌, Bool, ◌||◌, List, [], Result, Ok, Err, length}
use Rattle.graph.specs.Limits.{numbers_needed, words_needed, wrong_length, memory_short}
use Rattle.graph.specs.Numbers.{many}
use Rattle.graph.specs.Graph.{Graph, Part, table, turned}
use Rattle.graph.specs.Parts.{Fwd}
use Rattle.graph.specs.Search.{looked}
use Rattle.graph.specs.Sets.{bit, Members, members}
use Rattle.memory.specs.Memory.{Zeroed}
use Rattle.graph.specs.Refusal.{given, ◌or◌, table_refusal, lacking}
use Rattle.sets.specs.Sizes.{ill_sized, Words}
use Rattle.graph.specs.Reasons.{number_of, said}
use Rattle.graph.specs.declared.refusal.Refusal.{Refusal}
use Rattle.graph.specs.declared.table.Table.{Table}
use Rattle.reach.specs.declared.Found.{Found}

-- what a search is given, but for the direction
pub record Call : Type 0 where
  pub n : ℕ
  pub sources : List ℕ
  pub targets : List ℕ
  pub kinds : List ℕ
  pub mask : ℕ
  pub starts : List ℕ
  pub permitted : List ℕ
  pub reached : List ℕ
  pub numbers : List ℕ
  pub words : List ℕ

-- the call of a lent table
abbrev pub call_of : Table → (starts permitted reached numbers words : List ℕ) → Call
call_of t starts permitted reached numbers words = record {
  n = t.n;
  sources = t.sources.now;
  targets = t.targets.now;
  kinds = t.kinds.now;
  mask = t.mask;
  starts = starts;
  permitted = permitted;
  reached = reached;
  numbers = numbers;
  words = words;
}

-- k, the number by which the table's check refuses; if it is 0, the first of 5, 6 that applies, else 0
unfoldable pub refusal_on : ℕ → Call → ℕ
refusal_on k c =
    k
    or given wrong_length (ill_sized c.n c.starts || ill_sized c.n c.permitted || ill_sized c.n c.reached)
    or given memory_short (lacking c.n (length c.sources) (length c.numbers) (length c.words))

-- the first of 1, 2, 21, 3, 4, 22, 5, 6 that applies, else 0
abbrev pub search_refusal : Call → ℕ
search_refusal c = refusal_on (table_refusal c.n c.sources c.targets c.kinds) c

-- the call's table: edges of a kind in the mask count
abbrev pub collection : Call → Graph
collection c = table c.n c.sources c.targets c.kinds c.mask

-- the same call on a table without kinds
abbrev pub bare : Call → Call
bare c = record {
  n = c.n;
  sources = c.sources;
  targets = c.targets;
  kinds = [];
  mask = 0;
  starts = c.starts;
  permitted = c.permitted;
  reached = c.reached;
  numbers = c.numbers;
  words = c.words;
}

-- the table in the direction of the search
abbrev pub table_of : Call → Bool → Graph
table_of c backward = turned backward (collection c)

-- the permitted vertices reached in g from permitted starts by chains of counted edges that stay permitted
abbrev pub Reached : Graph → Call → Bool → Part
Reached g c backward = Fwd (turned backward g) (Members c.n c.permitted) (Members c.n c.starts)

-- done: the set, its size, the number of counted edges whose source (backward: target) was reached, and the working memory
pub record Finished (g : Graph) (c : Call) (backward : Bool) (r w ws : List ℕ) (k e : ℕ) : Type 0 where
  pub long : length r ≡ length c.reached
  pub fit : Words r
  pub sound : (v : ℕ) → bit r v ≡ 1 → Reached g c backward v
  pub complete : (v : ℕ) → Reached g c backward v → bit r v ≡ 1
  pub above : (v : ℕ) → c.n ≤ v → bit r v ≡ 0
  pub vertices : k ≡ many (members c.n r) c.n
  pub edges : e ≡ looked (turned backward g) (members c.n r)
  pub numbers : Zeroed (numbers_needed c.n (length c.sources)) c.numbers w
  pub words : Zeroed (words_needed c.n) c.words ws

-- refused: nothing that was lent has changed
pub record Untouched (c : Call) (r w ws : List ℕ) (k : ℕ) : Type 0 where
  pub refused : k ≡ 0 → ⊥
  pub reached : r ≡ c.reached
  pub numbers : w ≡ c.numbers
  pub words : ws ≡ c.words

-- the values of an answer, and the final contents of what was lent
abbrev pub Gives : Graph → Call → Bool → List ℕ → List ℕ → List ℕ → Result Found Refusal → Type 0
Gives g c backward r w ws (Ok f) = Finished g c backward r w ws f.vertices f.edges
Gives g c backward r w ws (Err k) = Untouched c r w ws (number_of k)

-- what is promised of the graph g, whose table's check gives k
pub record PromiseOn (k : ℕ) (g : Graph) (c : Call) (backward : Bool) (r w ws : List ℕ) (a : Result Found Refusal) : Type 0 where
  pub refusal : said a ≡ refusal_on k c
  pub gives : Gives g c backward r w ws a

abbrev pub Promise : Call → Bool → List ℕ → List ℕ → List ℕ → Result Found Refusal → Type 0
Promise c = PromiseOn (table_refusal c.n c.sources c.targets c.kinds) (collection c) c
