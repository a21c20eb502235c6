-- What the steps of the reader promise.
use Rattle.std.specs.Prelude.{ℕ, ◌≤◌, ◌≡◌, List, [], ◌∷◌, ◌++◌, map, length, drop, Option, Some, None, Result as Answer, Ok, Err}
use Rattle.std.specs.Borrow.{Bor}
use Rattle.graph.specs.Reasons.{number_of}
use Rattle.graph.specs.declared.refusal.Refusal.{Refusal}
use Rattle.lines.specs.Pieces.{lines}
use Rattle.text.specs.declared.entries.Edge.{Edge}
use Rattle.text.specs.declared.header.Head.{Head}
use Rattle.text.specs.declared.header.Limits.{Limits}
use Rattle.text.specs.declared.Size.{Size}
use Rattle.text.specs.Market.{Result, refused, done, pass_over, entries, as_table, market}

-- the size line and the lines past it, or that there is none
unfoldable pub SizeLine : List (List ℕ) → Option (Bor (List ℕ)) → List (List ℕ) → Type 0
SizeLine ls None rest = pass_over ls ≡ []
SizeLine ls (Some line) rest = pass_over ls ≡ line.now ∷ rest

-- the header has been read, and the entries start at the rest
pub record Begun (l : Limits) (text : List ℕ) (size : Size) (rest : List ℕ) : Type 0 where
  pub fits : size.edges ≤ l.room
  pub comes_to : market l text ≡ as_table size.n (entries size.n size.edges (lines rest))

unfoldable pub HeadSaid : Limits → List ℕ → Answer Head Refusal → Type 0
HeadSaid l text (Err r) = market l text ≡ refused (number_of r)
HeadSaid l text (Ok h) = Begun l text h.size h.rest.now

-- the entries have been read too
pub record Judged (l : Limits) (text : List ℕ) (size : Size) (rest : List ℕ) : Type 0 where
  pub edges : List Edge
  pub begun : Begun l text size rest
  pub reads : entries size.n size.edges (lines rest) ≡ done edges

unfoldable pub JudgeSaid : Limits → List ℕ → Answer Head Refusal → Type 0
JudgeSaid l text (Err r) = market l text ≡ refused (number_of r)
JudgeSaid l text (Ok h) = Judged l text h.size h.rest.now

-- what a reading comes to, without what was read
unfoldable pub only_judged : {A : Type 0} → Result A → Result (Unit {0})
only_judged (refused k) = refused k
only_judged (done a) = done tt

-- a column with the edges at its front, the rest as it was
abbrev pub column : (Edge → ℕ) → List Edge → List ℕ → List ℕ
column end es xs = map end es ++ drop (length es) xs

pub record FillAsk (text : List ℕ) (size : Size) (s t : List ℕ) : Type 0 where
  pub edges : List Edge
  pub reads : entries size.n size.edges (lines text) ≡ done edges
  pub room_s : size.edges ≤ length s
  pub room_t : size.edges ≤ length t

unfoldable pub edges_of : Result (List Edge) → List Edge
edges_of (refused k) = []
edges_of (done es) = es

pub record Filled (text : List ℕ) (size : Size) (s t s' t' : List ℕ) : Type 0 where
  pub sources : s' ≡ column (λ a. a.source) (edges_of (entries size.n size.edges (lines text))) s
  pub targets : t' ≡ column (λ a. a.target) (edges_of (entries size.n size.edges (lines text))) t
