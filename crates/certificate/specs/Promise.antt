-- What the certificate writer promises.
use Rattle.std.specs.Prelude.{ℕ, ◌≡◌, Bool, not, List, [], length, eqb}
use Rattle.graph.specs.Graph.{Graph, table}
use Rattle.graph.specs.Numbers.{some_below}
use Rattle.graph.specs.Search.{label_of}
use Rattle.graph.specs.Limits.{memory_short, wrong_labels}
use Rattle.graph.specs.Refusal.{given, ◌or◌, table_refusal, lacking}
use Rattle.graph.specs.Checker.{Columns, at}
use Rattle.graph.specs.Certificate.{certificate}
use Rattle.memory.specs.Memory.{Cleared}
use Rattle.graph.specs.declared.table.Table.{Table}
use Rattle.checker.specs.declared.Columns.{Columns as LentColumns}
use Rattle.checker.specs.Promise as checker

-- what is lent to be written
pub record Lent : Type 0 where
  pub rank : List ℕ
  pub in_edge : List ℕ
  pub in_dist : List ℕ
  pub out_edge : List ℕ
  pub out_dist : List ℕ
  pub numbers : List ℕ
  pub words : List ℕ

abbrev pub lent : (rank in_edge in_dist out_edge out_dist numbers words : List ℕ) → Lent
lent rank in_edge in_dist out_edge out_dist numbers words =
    record { rank = rank; in_edge = in_edge; in_dist = in_dist; out_edge = out_edge; out_dist = out_dist; numbers = numbers; words = words }

-- all that the writer is given
pub record Call : Type 0 where
  pub n : ℕ
  pub sources : List ℕ
  pub targets : List ℕ
  pub kinds : List ℕ
  pub mask : ℕ
  pub label : List ℕ
  pub lends : Lent

abbrev pub call : (n : ℕ) (sources targets kinds : List ℕ) (mask : ℕ) (label : List ℕ) → Lent → Call
call n sources targets kinds mask label lends =
    record { n = n; sources = sources; targets = targets; kinds = kinds; mask = mask; label = label; lends = lends }

-- the call of a lent table
abbrev pub call_of : Table → List ℕ → Lent → Call
call_of t label lends = call t.n t.sources.now t.targets.now t.kinds.now t.mask label lends

-- what is lent, where the five columns stand beside the labels
abbrev pub lends : LentColumns → List ℕ → List ℕ → Lent
lends c numbers words = lent c.rank.now c.in_edge.now c.in_distance.now c.out_edge.now c.out_distance.now numbers words

-- the call's table: edges of a kind in the mask count
abbrev pub collection : Call → Graph
collection c = table c.n c.sources c.targets c.kinds c.mask

-- the same call on a table without kinds
abbrev pub bare : Call → Call
bare c = call c.n c.sources c.targets [] 0 c.label c.lends

-- the six columns: the labels, and what is lent for the other five
abbrev pub columns : List ℕ → Lent → Columns
columns label l =
    record { label = label; rank = l.rank; in_edge = l.in_edge; in_dist = l.in_dist; out_edge = l.out_edge; out_dist = l.out_dist }

-- some label is not the right one
unfoldable pub wrong_label : Graph → List ℕ → Bool
wrong_label g lab = some_below g.n (λ v. not (eqb (at lab v) (label_of g v)))

-- the checker asked about the same table, the labels and what is lent for the other five columns
abbrev pub checked : Call → Lent → checker.Call
checked c l =
    record { n = c.n; sources = c.sources; targets = c.targets; kinds = c.kinds; mask = c.mask; given_columns = columns c.label l }

-- the number k of the table's check, else the first of 5, 6 that applies, else 0
unfoldable pub early_on : ℕ → Call → ℕ
early_on k c =
    checker.refusal_on k (checked c c.lends) or given memory_short (lacking c.n (length c.sources) (length c.lends.numbers) (length c.lends.words))

-- the same, else 10 if some label is not the one in g, else 0
unfoldable pub refusal_on : ℕ → Graph → Call → ℕ
refusal_on k g c = early_on k c or given wrong_labels (wrong_label g c.label)

-- the first of 1, 2, 21, 3, 4, 22, 5, 6 that applies, else 0
abbrev pub early_refusal : Call → ℕ
early_refusal c = early_on (table_refusal c.n c.sources c.targets c.kinds) c

-- the first of 1, 2, 21, 3, 4, 22, 5, 6, 10 that applies, else 0
abbrev pub writer_refusal : Call → ℕ
writer_refusal c = refusal_on (table_refusal c.n c.sources c.targets c.kinds) (collection c) c

-- the working memory is as after a completed call
abbrev pub Tidied : Call → Lent → Type 0
Tidied c after = Cleared c.n (length c.sources) c.lends.numbers after.numbers c.lends.words after.words

-- what is promised of a graph, k being the number of its table's check: the number r was returned, and after is what became of what was lent
pub record PromiseOn (k : ℕ) (g : Graph) (c : Call) (r : ℕ) (after : Lent) : Type 0 where
  pub number : r ≡ refusal_on k g c
  pub written : r ≡ 0 → (columns c.label after ≡ certificate g c.label) × Tidied c after
  pub wrong : r ≡ wrong_labels → (columns c.label after ≡ columns c.label c.lends) × Tidied c after
  pub refused : (r ≡ 0 → ⊥) → (r ≡ wrong_labels → ⊥) → after ≡ c.lends

abbrev pub Promise : Call → ℕ → Lent → Type 0
Promise c r after = PromiseOn (table_refusal c.n c.sources c.targets c.kinds) (collection c) c r after
