-- Taking the collection apart, as document 01 says it: what a course of either method does with the colours of the vertices. A colour below n is a label, any other a part.
use Rattle.std.specs.Prelude.{ℕ, suc, ◌+◌, ◌-◌, ◌≤◌, ◌<◌, ◌≡◌, Bool, cond, ◌&&◌, List, ◌⊎◌, ◌↔◌, get_or, T, eqb, ltb}
use Rattle.graph.specs.Graph.{Graph, Part, Edge, IsLabel}
use Rattle.graph.specs.Parts.{Closed, Fwd, Bwd, only, Entered}
use Rattle.graph.specs.Numbers.{mark}
use Rattle.graph.specs.Search.{core}
use Rattle.graph.specs.Pivot.{draws, pivot}

-- the vertices of the part q, as a set and as a test
abbrev pub In : Graph → (ℕ → ℕ) → ℕ → Part
In g own q v = (v < g.n) × (own v ≡ q)

abbrev pub has : (ℕ → ℕ) → ℕ → ℕ → Bool
has own q v = eqb (own v) q

-- the same colours
abbrev pub Alike : ℕ → (ℕ → ℕ) → (ℕ → ℕ) → Type 0
Alike n own own' = (v : ℕ) → v < n → own' v ≡ own v

-- METHOD 0
-- F is what p reaches in the part q, B what reaches p there: which colour c a vertex v of the part gets
pub data Falls (g : Graph) (p q f : ℕ) (own : ℕ → ℕ) (v c : ℕ) : Type 0 where
  shared : Fwd g (In g own q) (only p) v → Bwd g (In g own q) (only p) v → IsLabel g v c → Falls g p q f own v c
  rest_f : Fwd g (In g own q) (only p) v → (Bwd g (In g own q) (only p) v → ⊥) → c ≡ f → Falls g p q f own v c
  rest_b : (Fwd g (In g own q) (only p) v → ⊥) → Bwd g (In g own q) (only p) v → c ≡ f + 1 → Falls g p q f own v c
  neither : (Fwd g (In g own q) (only p) v → ⊥) → (Bwd g (In g own q) (only p) v → ⊥) → c ≡ q → Falls g p q f own v c

-- The pivot p divides the part q: the rest of F is the part f, the rest of B the part f + 1, and V without F and B goes on as q.
pub record ForwardBackward (g : Graph) (p q f : ℕ) (own own' : ℕ → ℕ) : Type 0 where
  pub ours : (v : ℕ) → In g own q v → Falls g p q f own v (own' v)
  pub others : (v : ℕ) → v < g.n → (own v ≡ q → ⊥) → own' v ≡ own v

-- METHOD 1
-- what remains of F has the colour r; its seeds are marked
abbrev pub Seed : Graph → ℕ → (own marks : ℕ → ℕ) → Part
Seed g r own marks v = (v < g.n) × (own v ≡ r) × (marks v ≡ 0 → ⊥)

-- A seed v that no edge of what remains enters goes, as a component alone, and its successors are seeds.
pub record Goes (g : Graph) (r v : ℕ) (own marks own' marks' : ℕ → ℕ) : Type 0 where
  pub seed : Seed g r own marks v
  pub free : Entered g (In g own r) v → ⊥
  pub label : own' v ≡ v
  pub others : (u : ℕ) → u < g.n → (u ≡ v → ⊥) → own' u ≡ own u
  pub seeds : (u : ℕ) → In g own' r u → (marks' u ≡ 0 → ⊥) ↔ ((marks u ≡ 0 → ⊥) ⊎ ((e : ℕ) × Edge g e v u))

-- No seed can go: everything that reaches a seed within what remains is the slice s, and its successors outside it are the next seeds.
pub record Slice (g : Graph) (r s : ℕ) (own marks own' marks' : ℕ → ℕ) : Type 0 where
  pub other : s ≡ r → ⊥
  pub stuck : (v : ℕ) → Seed g r own marks v → Entered g (In g own r) v
  pub each : (v : ℕ) → v < g.n → (Bwd g (In g own r) (Seed g r own marks) v × (own' v ≡ s)) ⊎ ((Bwd g (In g own r) (Seed g r own marks) v → ⊥) × (own' v ≡ own v))
  pub seeds : (v : ℕ) → In g own' r v → (marks' v ≡ 0 → ⊥) ↔ Entered g (Bwd g (In g own r) (Seed g r own marks)) v

-- One step after the other; s is the next slice.
pub data Slicing (g : Graph) (r : ℕ) (own₀ marks₀ : ℕ → ℕ) (s₀ : ℕ) : (own marks : ℕ → ℕ) → ℕ → Type 0 where
  begins : {own marks : ℕ → ℕ} → Alike g.n own₀ own → Alike g.n marks₀ marks → Slicing g r own₀ marks₀ s₀ own marks s₀
  goes : {own marks own' marks' : ℕ → ℕ} {s : ℕ} (v : ℕ) → Slicing g r own₀ marks₀ s₀ own marks s → Goes g r v own marks own' marks' → Slicing g r own₀ marks₀ s₀ own' marks' s
  cuts : {own marks own' marks' : ℕ → ℕ} {s : ℕ} → Slicing g r own₀ marks₀ s₀ own marks s → Slice g r s own marks own' marks' → Slicing g r own₀ marks₀ s₀ own' marks' (suc s)

-- F, what the pivot p reaches in the part q, is used up, beginning with p as the only seed; V without F goes on as q.
pub record Obf (g : Graph) (p q top : ℕ) (own own' : ℕ → ℕ) (top' : ℕ) : Type 0 where
  -- the colour of what remains, the colours when F has it, and the marks of the seeds then and at the end
  pub rest : ℕ
  pub first : ℕ → ℕ
  pub marks : ℕ → ℕ
  pub marks' : ℕ → ℕ
  pub fresh : (v : ℕ) → v < g.n → own v ≡ rest → ⊥
  pub forward : (v : ℕ) → v < g.n → (Fwd g (In g own q) (only p) v × (first v ≡ rest)) ⊎ ((Fwd g (In g own q) (only p) v → ⊥) × (first v ≡ own v))
  pub seed : (v : ℕ) → In g first rest v → (marks v ≡ 0 → ⊥) ↔ (p ≡ v)
  pub slicing : Slicing g rest first marks top own' marks' top'
  pub done : (v : ℕ) → In g own' rest v → ⊥

-- CHOICES
-- p is chosen from the part q, a union of whole components
pub record Choice (g : Graph) (own : ℕ → ℕ) (q kind state : ℕ) (list : List ℕ) (p : ℕ) : Type 0 where
  pub whole : Closed g (In g own q)
  pub member : In g own q p
  pub exact : p ≡ pivot g.n (has own q) kind state list

-- what the pivot p does: by method 1 where slicing is 1, else by method 0
abbrev pub Pivoted : Graph → (slicing p q top : ℕ) (own own' : ℕ → ℕ) → ℕ → Type 0
Pivoted g slicing p q top own own' top' =
    ((slicing ≡ 1 → ⊥) × (top' ≡ top + 2) × ForwardBackward g p q top own own') ⊎ ((slicing ≡ 1) × Obf g p q top own own' top')

-- k choices from the part q, one after the other, each from what is then left of it; the state is the one before the first
pub data Choices (g : Graph) (slicing q kind state : ℕ) (list : List ℕ) (own₀ : ℕ → ℕ) (top₀ : ℕ) : ℕ → (ℕ → ℕ) → ℕ → Type 0 where
  unchosen : Choices g slicing q kind state list own₀ top₀ 0 own₀ top₀
  choice : {k t t' : ℕ} {own own' : ℕ → ℕ} (p : ℕ) → Choices g slicing q kind state list own₀ top₀ k own t
      → Choice g own q kind (draws k state) list p → Pivoted g slicing p q t own own' t' → Choices g slicing q kind state list own₀ top₀ (suc k) own' t'

-- The part q is trimmed: what goes has its own number as label.
pub record Trims (g : Graph) (q : ℕ) (own own' : ℕ → ℕ) : Type 0 where
  pub stays : (v : ℕ) → v < g.n → T (mark (core g (λ u. ltb u g.n && has own q u)) v) → own' v ≡ q
  pub goes : (v : ℕ) → In g own q v → (T (mark (core g (λ u. ltb u g.n && has own q u)) v) → ⊥) → own' v ≡ v
  pub others : (v : ℕ) → v < g.n → (own v ≡ q → ⊥) → own' v ≡ own v

-- The part q is divided by k choices until nothing of it is left; for method 0 it is trimmed before.
pub record Divides (g : Graph) (slicing q kind state : ℕ) (list : List ℕ) (own : ℕ → ℕ) (top k : ℕ) (own' : ℕ → ℕ) (top' : ℕ) : Type 0 where
  pub ready : ℕ → ℕ
  pub made : ((slicing ≡ 1 → ⊥) × Trims g q own ready) ⊎ ((slicing ≡ 1) × Alike g.n own ready)
  pub swept : ℕ → ℕ
  pub choices : Choices g slicing q kind state list ready top k swept top'
  pub end : Alike g.n swept own'
  pub gone : (v : ℕ) → In g own' q v → ⊥

-- THE LIST
-- which of c waiting parts is next, the oldest being 0: order 0 takes the newest, order 1 the oldest; and the i-th of the others
abbrev pub next : (order c : ℕ) → ℕ
next order c = cond (eqb order 0) (c - 1) 0

abbrev pub other : (order i : ℕ) → ℕ
other order i = cond (eqb order 0) i (i + 1)

-- After the next of c parts was divided c' parts wait: the others as they stood, and behind them the new parts, from top on, each once and none empty.
pub record ListAfter (n order top c : ℕ) (part : ℕ → ℕ) (own' : ℕ → ℕ) (c' : ℕ) (part' : ℕ → ℕ) : Type 0 where
  pub front : (i : ℕ) → i + 1 < c → (i < c') × (part' i ≡ part (other order i))
  pub new : (i : ℕ) → c ≤ i + 1 → i < c' → (top ≤ part' i) × ((v : ℕ) × (v < n) × (own' v ≡ part' i))
  pub all : (v : ℕ) → v < n → top ≤ own' v → (i : ℕ) × (c ≤ i + 1) × (i < c') × (part' i ≡ own' v)
  pub once : (i j : ℕ) → i < c' → j < c' → part' i ≡ part' j → i ≡ j

-- A course of k choices so far: c parts wait. The whole is the first part, by method 1 the only one that is sliced.
pub data Course (g : Graph) (method order kind state : ℕ) (list : List ℕ) : (slicing : ℕ) (own : ℕ → ℕ) (top c : ℕ) (part : ℕ → ℕ) → ℕ → Type 0 where
  whole : {own part : ℕ → ℕ} → ((v : ℕ) → v < g.n → own v ≡ g.n) → part 0 ≡ g.n → Course g method order kind state list method own (g.n + 1) 1 part 0
  onward : {slicing top c k top' c' j : ℕ} {own part own' part' : ℕ → ℕ} → Course g method order kind state list slicing own top c part k → 0 < c
      → Divides g slicing (part (next order c)) kind (draws k state) list own top j own' top'
      → ListAfter g.n order top c part own' c' part' → Course g method order kind state list 0 own' top' c' part' (k + j)

-- Choice i of a course: the vertex is chosen from what is left of the part that is next, after k choices from the parts before it and j from this one.
pub record ChoiceAt (g : Graph) (method order kind state : ℕ) (list : List ℕ) (i : ℕ) : Type 0 where
  -- what stood when the part was taken, when it was ready for its pivots, and before the choice
  pub slicing : ℕ
  pub top : ℕ
  pub c : ℕ
  pub k : ℕ
  pub own₀ : ℕ → ℕ
  pub part : ℕ → ℕ
  pub ready : ℕ → ℕ
  pub j : ℕ
  pub own : ℕ → ℕ
  pub t : ℕ
  pub vertex : ℕ
  pub course : Course g method order kind state list slicing own₀ top c part k
  pub some : 0 < c
  pub made : ((slicing ≡ 1 → ⊥) × Trims g (part (next order c)) own₀ ready) ⊎ ((slicing ≡ 1) × Alike g.n own₀ ready)
  pub choices : Choices g slicing (part (next order c)) kind (draws k state) list ready top j own t
  pub sum : k + j ≡ i
  pub chosen : Choice g own (part (next order c)) kind (draws i state) list vertex

-- The course of a call that made k choices: nothing waits any more, and the colours are the labels.
pub record TakenApart (g : Graph) (method order kind state : ℕ) (list label : List ℕ) (k : ℕ) : Type 0 where
  pub slicing : ℕ
  pub top : ℕ
  pub own : ℕ → ℕ
  pub part : ℕ → ℕ
  pub course : Course g method order kind state list slicing own top 0 part k
  pub labels : (v : ℕ) → v < g.n → get_or label v 0 ≡ own v
