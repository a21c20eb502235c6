-- What the checker promises.
use Rattle.std.specs.Prelude.{ℕ, ◌≡◌, Bool, cond, not, ◌||◌, List, [], length, eqb, ltb, Result, Ok, Err}
use Rattle.graph.specs.Graph.{Graph, table, edges}
use Rattle.graph.specs.Numbers.{least}
use Rattle.graph.specs.Limits.{wrong_length}
use Rattle.graph.specs.Refusal.{given, ◌or◌, table_refusal}
use Rattle.graph.specs.Checker.{Columns, accepted, check5, failed, verdict}
use Rattle.graph.specs.Checker as graph_checker
use Rattle.graph.specs.Reasons.{number_of}
use Rattle.graph.specs.declared.refusal.Refusal.{Refusal}
use Rattle.graph.specs.declared.table.Table.{Table}
use Rattle.checker.specs.Contract.{columns, columns_of}
use Rattle.checker.specs.declared.Columns.{Columns as Lent}
use Rattle.checker.specs.declared.Verdict.{Verdict}
use Rattle.checker.specs.declared.Verdict.TheVariants.{Accepted, Failed}

-- all that the checker is given
pub record Call : Type 0 where
  pub n : ℕ
  pub sources : List ℕ
  pub targets : List ℕ
  pub kinds : List ℕ
  pub mask : ℕ
  pub given_columns : Columns

abbrev pub call : (n : ℕ) (sources targets kinds : List ℕ) (mask : ℕ) (label rank in_edge in_dist out_edge out_dist : List ℕ) → Call
call n sources targets kinds mask label rank in_edge in_dist out_edge out_dist =
    record { n = n; sources = sources; targets = targets; kinds = kinds; mask = mask; given_columns = columns label rank in_edge in_dist out_edge out_dist }

-- the call of a lent table and lent columns
abbrev pub call_of : Table → Lent → Call
call_of t c = record { n = t.n; sources = t.sources.now; targets = t.targets.now; kinds = t.kinds.now; mask = t.mask; given_columns = columns_of c }

-- the call's table: edges of a kind in the mask count
abbrev pub collection : Call → Graph
collection c = table c.n c.sources c.targets c.kinds c.mask

-- the same call on a table without kinds
abbrev pub bare : Call → Call
bare c = record { n = c.n; sources = c.sources; targets = c.targets; kinds = []; mask = 0; given_columns = c.given_columns }

-- some column is not exactly n long
unfoldable pub wrong_size : ℕ → Columns → Bool
wrong_size n c =
    not (eqb (length c.label) n) || not (eqb (length c.rank) n)
    || not (eqb (length c.in_edge) n) || not (eqb (length c.in_dist) n)
    || not (eqb (length c.out_edge) n) || not (eqb (length c.out_dist) n)

-- the number k of the table's check, else 5 if it applies, else 0
unfoldable pub refusal_on : ℕ → Call → ℕ
refusal_on k c = k or given wrong_length (wrong_size c.n c.given_columns)

-- the first of 1, 2, 21, 3, 4, 22, 5 that applies, else 0
abbrev pub checker_refusal : Call → ℕ
checker_refusal c = refusal_on (table_refusal c.n c.sources c.targets c.kinds) c

-- an answer as document 01 puts it: done, with the verdict, or a refusal number alone
pub data Outcome : Type 0 where
  done : graph_checker.Verdict → Outcome
  refused : ℕ → Outcome

-- the number returned
unfoldable pub number : Outcome → ℕ
number (done v) = 0
number (refused k) = k

-- what each case of the answer stands for
abbrev pub judged : Verdict → graph_checker.Verdict
judged Accepted = accepted
judged (Failed check place) = failed check place

unfoldable pub outcome : Result Verdict Refusal → Outcome
outcome (Ok v) = done (judged v)
outcome (Err r) = refused (number_of r)

-- the verdict of check 5 alone
unfoldable pub edge_verdict : Graph → Columns → graph_checker.Verdict
edge_verdict g c = let e = least (edges g) (λ e. not (check5 g c e)) in cond (ltb e (edges g)) (failed 5 e) accepted

-- what is promised of a graph, k being the number of its table's check
unfoldable pub promised_on : ℕ → Graph → Call → Outcome
promised_on k g c = cond (eqb (refusal_on k c) 0) (done (verdict g c.given_columns)) (refused (refusal_on k c))

abbrev pub PromiseOn : ℕ → Graph → Call → Result Verdict Refusal → Type 0
PromiseOn k g c answer = outcome answer ≡ promised_on k g c

abbrev pub Promise : Call → Result Verdict Refusal → Type 0
Promise c answer = PromiseOn (table_refusal c.n c.sources c.targets c.kinds) (collection c) c answer
