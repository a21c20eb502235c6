-- What the shortest path is given and promises.
use Rattle.std.specs.Prelude.{ℕ, Result, Ok, Err, ◌≡◌, Bool, true, false, ◌||◌, List, [], ◌++◌, length, drop, eqb, ltb, leb}
use Rattle.graph.specs.Graph.{Graph, table}
use Rattle.graph.specs.Limits.{numbers_needed, words_needed, memory_short, vertex_outside, no_path, room_short}
use Rattle.graph.specs.Refusal.{given, ◌or◌, table_refusal, lacking}
use Rattle.graph.specs.Certificate.{dist_of}
use Rattle.graph.specs.Paths.{walk}
use Rattle.memory.specs.Memory.{Zeroed}
use Rattle.graph.specs.Reasons.{number_of, said}
use Rattle.graph.specs.declared.table.Table.{Table}
use Rattle.graph.specs.declared.refusal.Refusal.{Refusal}

-- what the function is given
pub record Call : Type 0 where
  pub n : ℕ
  pub sources : List ℕ
  pub targets : List ℕ
  pub kinds : List ℕ
  pub mask : ℕ
  pub u : ℕ
  pub v : ℕ
  pub room : List ℕ
  pub numbers : List ℕ
  pub words : List ℕ

-- the call on a lent table
abbrev pub call : Table → (u v : ℕ) → (room numbers words : List ℕ) → Call
call t u v room numbers words =
    record {
      n = t.n;
      sources = t.sources.now;
      targets = t.targets.now;
      kinds = t.kinds.now;
      mask = t.mask;
      u = u;
      v = v;
      room = room;
      numbers = numbers;
      words = words;
    }

-- the call's table: edges of a kind in the mask count
abbrev pub collection : Call → Graph
collection c = table c.n c.sources c.targets c.kinds c.mask

-- the same call on a table without kinds
abbrev pub bare : Call → Call
bare c =
    record {
      n = c.n;
      sources = c.sources;
      targets = c.targets;
      kinds = [];
      mask = 0;
      u = c.u;
      v = c.v;
      room = c.room;
      numbers = c.numbers;
      words = c.words;
    }

-- the number of edges on a shortest path, and n if there is none
abbrev pub distance : Call → ℕ
distance c = dist_of (collection c) c.u c.v

abbrev pub numbers_of : Call → ℕ
numbers_of c = numbers_needed c.n (length c.sources)

-- what is refused before the search where the table's check gives k: memory of x numbers and y words for m edges, vertices u and v
unfoldable pub ask_on : (k n m u v x y : ℕ) → ℕ
ask_on k n m u v x y = k or given memory_short (lacking n m x y) or given vertex_outside (leb n u || leb n v)

abbrev pub ask_refusal : ℕ → (sources targets kinds : List ℕ) (u v x y : ℕ) → ℕ
ask_refusal n sources targets kinds u v x y = ask_on (table_refusal n sources targets kinds) n (length sources) u v x y

abbrev pub first_on : ℕ → Call → ℕ
first_on k c = ask_on k c.n (length c.sources) c.u c.v (length c.numbers) (length c.words)

-- after it, by the distance in g: 11 exactly if v is not reached, 12 exactly if the length exceeds the room
unfoldable pub refusal_on : ℕ → Graph → Call → ℕ
refusal_on k g c =
    first_on k c
    or given no_path (leb c.n (dist_of g c.u c.v))
    or given room_short (ltb (length c.room) (dist_of g c.u c.v))

-- the call's own, with the number that its table's check gives
abbrev pub first_refusal : Call → ℕ
first_refusal c = first_on (table_refusal c.n c.sources c.targets c.kinds) c

abbrev pub path_refusal : Call → ℕ
path_refusal c = refusal_on (table_refusal c.n c.sources c.targets c.kinds) (collection c) c

-- 11 and 12 come after the search
abbrev pub after_search : ℕ → Bool
after_search k = eqb k no_path || eqb k room_short

-- working memory is zeroed by a search, and else as it was
abbrev pub Left : Bool → ℕ → List ℕ → List ℕ → Type 0
Left true k w w' = Zeroed k w w'
Left false k w w' = w' ≡ w

-- the length of a path, or why there is none
abbrev pub Answer : Type 0
Answer = Result ℕ Refusal

-- done: the distance in g, the path in the front of the room, and the working memory
pub record Finished (g : Graph) (c : Call) (room numbers words : List ℕ) (d : ℕ) : Type 0 where
  pub shortest : d ≡ dist_of g c.u c.v
  pub written : room ≡ walk g c.u d c.v ++ drop d c.room
  pub numbers_left : Zeroed (numbers_of c) c.numbers numbers
  pub words_left : Zeroed (words_needed c.n) c.words words

-- refused: the room is as it was
pub record Denied (c : Call) (room numbers words : List ℕ) (k : ℕ) : Type 0 where
  pub refused : k ≡ 0 → ⊥
  pub room_same : room ≡ c.room
  pub numbers_left : Left (after_search k) (numbers_of c) c.numbers numbers
  pub words_left : Left (after_search k) (words_needed c.n) c.words words

-- the values of an answer, and the final contents of what was lent
abbrev pub Gives : Graph → Call → (room numbers words : List ℕ) → Answer → Type 0
Gives g c room numbers words (Ok d) = Finished g c room numbers words d
Gives g c room numbers words (Err r) = Denied c room numbers words (number_of r)

-- where the table's check gives k, and paths are those of g
pub record PromiseOn (k : ℕ) (g : Graph) (c : Call) (room numbers words : List ℕ) (a : Answer) : Type 0 where
  pub refusal : said a ≡ refusal_on k g c
  pub gives : Gives g c room numbers words a

abbrev pub Promise : Call → (room numbers words : List ℕ) → Answer → Type 0
Promise c room numbers words a = PromiseOn (table_refusal c.n c.sources c.targets c.kinds) (collection c) c room numbers words a
