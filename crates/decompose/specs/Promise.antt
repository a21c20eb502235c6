-- The decomposer as callers see it.
use Rattle.std.specs.Prelude.{ℕ, ◌*◌, ◌≤◌, ◌<◌, ◌≡◌, cond, not, ◌||◌, Result, Ok, Err, List, [], length, get_or, eqb, ltb}
use Rattle.graph.specs.Graph.{Graph, table}
use Rattle.graph.specs.Limits.{numbers_needed, words_needed, wrong_length, memory_short, list_short, unknown_choice}
use Rattle.memory.specs.Memory.{Zeroed}
use Rattle.graph.specs.Pivot.{draws}
use Rattle.graph.specs.Refusal.{given, ◌or◌, table_refusal, lacking}
use Rattle.graph.specs.Search.{labels}
use Rattle.graph.specs.Apart.{TakenApart}
use Rattle.graph.specs.Summary.{summary}
use Rattle.waiting.specs.declared.Part.{Part}
use Rattle.waiting.specs.Records.{none}
use Rattle.pivot.specs.declared.chooser.Chooser.{Chooser}
use Rattle.graph.specs.declared.refusal.Refusal.{Refusal}
use Rattle.graph.specs.declared.table.Table.{Table}
use Rattle.graph.specs.Reasons.{number_of, said}

-- all that the decomposer is given
pub record Call : Type 0 where
  pub n : ℕ
  pub sources : List ℕ
  pub targets : List ℕ
  pub kinds : List ℕ
  pub mask : ℕ
  pub method : ℕ
  pub order : ℕ
  pub chooser : Chooser
  pub list : List ℕ
  pub waiting : List Part
  pub label : List ℕ
  pub numbers : List ℕ
  pub words : List ℕ

abbrev pub call : (n : ℕ) (sources targets kinds : List ℕ) (mask method order : ℕ) (chooser : Chooser) (list : List ℕ) (waiting : List Part) (label numbers words : List ℕ) → Call
call n sources targets kinds mask method order chooser list waiting label numbers words =
    record { n = n; sources = sources; targets = targets; kinds = kinds; mask = mask; method = method; order = order; chooser = chooser; list = list; waiting = waiting; label = label; numbers = numbers; words = words }

-- a call on a lent table
abbrev pub call_on : Table → (method order : ℕ) → Chooser → List ℕ → List Part → (label numbers words : List ℕ) → Call
call_on t = call t.n t.sources.now t.targets.now t.kinds.now t.mask

-- the call's table: edges of a kind in the mask count
abbrev pub collection : Call → Graph
collection c = table c.n c.sources c.targets c.kinds c.mask

-- the same call on a table without kinds
abbrev pub bare : Call → Call
bare c = call c.n c.sources c.targets [] 0 c.method c.order c.chooser c.list c.waiting c.label c.numbers c.words

-- the number k of the table check, else the first of 5 to 8 that applies, else 0; of the lent slices but the table only their lengths count
unfoldable pub refusal_after : (k n edges method order kind label waiting numbers words : ℕ) → ℕ
refusal_after k n edges method order kind label waiting numbers words =
    k
    or given wrong_length (not (eqb label n))
    or given memory_short (lacking n edges numbers words)
    or given list_short (ltb waiting n)
    or given unknown_choice (ltb 1 method || ltb 2 kind || ltb 1 order)

-- the first of 1, 2, 21, 3, 4, 22, 5 to 8 that applies, else 0
abbrev pub refusal_of : (n : ℕ) (sources targets kinds : List ℕ) (method order kind label waiting numbers words : ℕ) → ℕ
refusal_of n sources targets kinds = refusal_after (table_refusal n sources targets kinds) n (length sources)

abbrev pub refusal_on : ℕ → Call → ℕ
refusal_on k c =
    refusal_after k c.n (length c.sources) c.method c.order c.chooser.kind (length c.label) (length c.waiting) (length c.numbers) (length c.words)

-- what was lent, at the end
pub record After : Type 0 where
  pub chooser : Chooser
  pub waiting : List Part
  pub label : List ℕ
  pub numbers : List ℕ
  pub words : List ℕ

abbrev pub after : Chooser → List Part → (label numbers words : List ℕ) → After
after chooser waiting label numbers words = record { chooser = chooser; waiting = waiting; label = label; numbers = numbers; words = words }

-- the first k records are zeros, and those beyond as they were
pub record Emptied (k : ℕ) (ys ys' : List Part) : Type 0 where
  pub long : length ys' ≡ length ys
  pub front : (j : ℕ) → j < k → get_or ys' j none ≡ none
  pub rest : (j : ℕ) → k ≤ j → get_or ys' j none ≡ get_or ys j none

-- done with d draws: the labels of the collection g, by the course of the method; pivot kind 1 draws once for every choice, for each component of two or more and at most 2 × n times, the others never
pub record Finished (g : Graph) (c : Call) (a : After) (d : ℕ) : Type 0 where
  pub label : a.label ≡ labels g
  pub choices : ℕ
  pub course : TakenApart g c.method c.order c.chooser.kind c.chooser.state c.list a.label choices
  pub drawn : d ≡ cond (eqb c.chooser.kind 1) choices 0
  pub never : (c.chooser.kind ≡ 1 → ⊥) → d ≡ 0
  pub least : c.chooser.kind ≡ 1 → (summary c.n a.label).rings ≤ d
  pub most : d ≤ 2 * c.n
  pub state : a.chooser.state ≡ draws d c.chooser.state
  pub kind : a.chooser.kind ≡ c.chooser.kind
  pub waiting : Emptied c.n c.waiting a.waiting
  pub numbers : Zeroed (numbers_needed c.n (length c.sources)) c.numbers a.numbers
  pub words : Zeroed (words_needed c.n) c.words a.words

-- refused: nothing that was lent has changed
pub record Untouched (c : Call) (a : After) (k : ℕ) : Type 0 where
  pub refused : k ≡ 0 → ⊥
  pub chooser : a.chooser ≡ c.chooser
  pub waiting : a.waiting ≡ c.waiting
  pub label : a.label ≡ c.label
  pub numbers : a.numbers ≡ c.numbers
  pub words : a.words ≡ c.words

abbrev pub Gives : Graph → Call → After → Result ℕ Refusal → Type 0
Gives g c a (Ok d) = Finished g c a d
Gives g c a (Err r) = Untouched c a (number_of r)

-- the promise for a collection g, where the table check gives k
pub record PromiseOn (k : ℕ) (g : Graph) (c : Call) (a : After) (r : Result ℕ Refusal) : Type 0 where
  pub refusal : said r ≡ refusal_on k c
  pub gives : Gives g c a r

abbrev pub Promise : Call → After → Result ℕ Refusal → Type 0
Promise c = PromiseOn (table_refusal c.n c.sources c.targets c.kinds) (collection c) c
