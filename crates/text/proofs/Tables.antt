-- What a reading comes to: a table within the limits whose ends are vertices, with as many edges as were to come.
use Prim.Native.Nat.{ℕ, zero, suc, ◌-◌, ◌≤◌, ◌<◌}
use native.Mathlib.Nat.{suc-ne-zero}
use native.Mathlib.Omega.{arith}
use mathlib.Core.Path.{◌≡◌, refl, sym, ◌∙◌, ap}
use mathlib.Core.Bool.{Bool, true, false, cond, ◌&&◌}
use mathlib.Core.List.{List, [], ◌∷◌, map}
use lib.Dec.{eqb}
use lib.ListN.{length, get_or, length-map}
use borrow.Author.Tests.{eqb-true, leb-true, ltb-false, le-ltb, eq-eqb}
use Rattle.graph.specs.Limits.{most_vertices, most_edges}
use Rattle.graph.specs.Refusal.{given, ◌or◌, plain_refusal}
use Rattle.graph.proofs.Refusals.{or_none, given_none, outside_no}
use Rattle.lines.specs.Pieces.{lines}
use Rattle.lines.specs.Numbers.{Content, faulty, numbers, content}
use Rattle.text.specs.declared.entries.Edge.{Edge}
use Rattle.text.specs.declared.header.Limits.{Limits}
use Rattle.text.specs.declared.Size.{Size}
use Rattle.std.proofs.Common.{Option, Some, None}
use Rattle.text.specs.Market.{Result, refused, done, Table, same, banner, pass_over, size_refusal, sized, size_of, inside, entry_of, with_edge, at_entry, entries, as_table, at_size, from_size, from_first, market}

-- every entry of a column is below n
abbrev pub Low : ℕ → List ℕ → Type 0
Low n xs = (i : ℕ) → i < length xs → get_or xs i 0 < n

low_cons : (n x : ℕ) (xs : List ℕ) → x < n → Low n xs → Low n (x ∷ xs)
low_cons n x xs h l zero k = h
low_cons n x xs h l (suc i) k = l i (omega arith)

pub record Sound (l : Limits) (t : Table) : Type 0 where
  pub vertices : t.n ≤ l.most_vertices
  pub few : length t.edges ≤ l.most_edges
  pub fits : length t.edges ≤ l.room
  pub sources_low : Low t.n (map (λ a. a.source) t.edges)
  pub targets_low : Low t.n (map (λ a. a.target) t.edges)

Fine : Limits → Result Table → Type 0
Fine l (refused k) = Unit
Fine l (done t) = Sound l t

-- the entries
record Columns (n k : ℕ) (es : List Edge) : Type 0 where
  long : length es ≡ k
  sources_low : Low n (map (λ a. a.source) es)
  targets_low : Low n (map (λ a. a.target) es)

FineEdges : ℕ → ℕ → Result (List Edge) → Type 0
FineEdges n k (refused j) = j ≡ 15
FineEdges n k (done es) = Columns n k es

and_true : (a b : Bool) → (a && b) ≡ true → (a ≡ true) × (b ≡ true)
and_true true b e = (refl, e)
and_true false b e = let z : ◌≡◌ {A = ℕ} 0 1 = cc in absurd (omega arith)

pub inside_both : (n i : ℕ) → inside n i ≡ true → (1 ≤ i) × (i ≤ n)
unfolding inside
inside_both n i e = let (p, q) = and_true _ _ e in (leb-true 1 i p, leb-true i n q)

two_low : (n i j : ℕ) (a : Edge) (b : Bool) → (inside n i && inside n j) ≡ b → cond b (done (Some (record { source = i - 1; target = j - 1 }))) (refused 15) ≡ done (Some a) → (a.source < n) × (a.target < n)
two_low n i j a true p e =
    let hk : (inside n i ≡ true) × (inside n j ≡ true) = and_true _ _ p in
    let q : ◌≡◌ {A = Edge} (record { source = i - 1; target = j - 1 }) a = cc in
    let x : i - 1 ≡ a.source = ap (λ (b : Edge). b.source) q in
    let y : j - 1 ≡ a.target = ap (λ (b : Edge). b.target) q in
    (omega (arith, inside_both n i hk.0), omega (arith, inside_both n j hk.1))
two_low n i j a false p e = cc

entry_low : (n : ℕ) (a : Edge) (c : Content) → entry_of n c ≡ done (Some a) → (a.source < n) × (a.target < n)
unfolding entry_of
entry_low n a (numbers (i ∷ j ∷ [])) e = two_low n i j a (inside n i && inside n j) refl e
entry_low n a (numbers []) e = cc
entry_low n a (numbers (i ∷ [])) e = cc
entry_low n a (numbers (i ∷ j ∷ k ∷ vs)) e = cc
entry_low n a faulty e = cc

edge_fine : (n k : ℕ) (a : Edge) (r : Result (List Edge)) → a.source < n → a.target < n → FineEdges n k r → FineEdges n (suc k) (with_edge a r)
unfolding with_edge FineEdges
edge_fine n k a (refused j) h l f = f
edge_fine n k a (done es) h l f =
    record {
      long = ap suc f.long;
      sources_low = low_cons n a.source (map (λ a. a.source) es) h f.sources_low;
      targets_low = low_cons n a.target (map (λ a. a.target) es) l f.targets_low;
    }

cond_refused : (j : ℕ) (b : Bool) (o : Option Edge) → cond b (done o) (refused 15) ≡ refused j → j ≡ 15
cond_refused j true o e = cc
cond_refused j false o e = cc

entry_refused : (n j : ℕ) (c : Content) → entry_of n c ≡ refused j → j ≡ 15
unfolding entry_of
entry_refused n j (numbers (i ∷ k ∷ [])) e = cond_refused j (inside n i && inside n k) _ e
entry_refused n j (numbers []) e = cc
entry_refused n j (numbers (i ∷ [])) e = cc
entry_refused n j (numbers (i ∷ k ∷ m ∷ vs)) e = cc
entry_refused n j faulty e = cc

entry_fine : (n : ℕ) (e : Result (Option Edge)) (k : ℕ) (after : ℕ → Result (List Edge)) → ((a : Edge) → e ≡ done (Some a) → (a.source < n) × (a.target < n)) → ((j : ℕ) → e ≡ refused j → j ≡ 15) → ((j : ℕ) → FineEdges n j (after j)) → FineEdges n k (at_entry e k after)
unfolding at_entry FineEdges
entry_fine n (done None) k after low is f = f k
entry_fine n (refused j) k after low is f = is j refl
entry_fine n (done (Some a)) zero after low is f = refl
entry_fine n (done (Some a)) (suc k) after low is f = let h = low a refl in edge_fine n k a (after k) h.0 h.1 (f k)

end_fine : (n k : ℕ) (t : Bool) → eqb k 0 ≡ t → FineEdges n k (cond t (done []) (refused 15))
unfolding FineEdges
end_fine n k true p = record { long = sym (eqb-true k 0 p); sources_low = λ i h. absurd (omega arith); targets_low = λ i h. absurd (omega arith) }
end_fine n k false p = refl

entries_fine : (n k : ℕ) (ls : List (List ℕ)) → FineEdges n k (entries n k ls)
unfolding entries
entries_fine n k [] = end_fine n k (eqb k 0) refl
entries_fine n k (w ∷ ls) = entry_fine n (entry_of n (content w)) k (λ j. entries n j ls) (λ a. entry_low n a (content w)) (λ j. entry_refused n j (content w)) (λ j. entries_fine n j ls)

pub entries_count : (n k : ℕ) (ls : List (List ℕ)) (es : List Edge) → entries n k ls ≡ done es → length es ≡ k
unfolding FineEdges
entries_count n k ls es e = let f : Columns n k es = rw e at (entries_fine n k ls) in f.long

-- a reading that is no refusal
unfoldable pub is_done : {A : Type 0} → Result A → Bool
is_done (refused k) = false
is_done (done a) = true

-- the entries are refused by 15 alone
pub entries_refused : (n k : ℕ) (ls : List (List ℕ)) → is_done (entries n k ls) ≡ false → entries n k ls ≡ refused 15
unfolding FineEdges is_done
entries_refused n k ls = go (entries n k ls) (entries_fine n k ls)
  where
    go : (r : Result (List Edge)) → FineEdges n k r → is_done r ≡ false → r ≡ refused 15
    go (refused j) f q = ap refused f
    go (done es) f q = cc

-- the size line
record Taken (l : Limits) (n m : ℕ) : Type 0 where
  vertices : n ≤ l.most_vertices
  few : m ≤ l.most_edges
  fits : m ≤ l.room

FineSize : Limits → Result Size → Type 0
FineSize l (refused k) = Unit
FineSize l (done s) = Taken l s.n s.edges

size_taken : (l : Limits) (x y z : ℕ) → size_refusal l x y z ≡ 0 → Taken l x z
unfolding size_refusal
size_taken l x y z e =
    let (e1, r1) = or_none _ _ e in
    let (e2, r2) = or_none _ _ r1 in
    let (e3, e4) = or_none _ _ r2 in
    record {
      vertices = ltb-false l.most_vertices x (given_none 1 _ (suc-ne-zero 0) e2);
      few = ltb-false l.most_edges z (given_none 3 _ (suc-ne-zero 2) e3);
      fits = ltb-false l.room z (given_none 5 _ (suc-ne-zero 4) e4);
    }

sized_fine : (l : Limits) (x y z : ℕ) (t : Bool) → eqb (size_refusal l x y z) 0 ≡ t → FineSize l (cond t (done (record { n = x; edges = z })) (refused (size_refusal l x y z)))
unfolding FineSize
sized_fine l x y z true p = size_taken l x y z (eqb-true _ _ p)
sized_fine l x y z false p = tt

size_fine : (l : Limits) (c : Content) → FineSize l (size_of l c)
unfolding size_of sized FineSize
size_fine l (numbers (x ∷ y ∷ z ∷ [])) = sized_fine l x y z (eqb (size_refusal l x y z) 0) refl
size_fine l (numbers []) = tt
size_fine l (numbers (x ∷ [])) = tt
size_fine l (numbers (x ∷ y ∷ [])) = tt
size_fine l (numbers (x ∷ y ∷ z ∷ u ∷ vs)) = tt
size_fine l faulty = tt

-- a size line that is taken leaves room for its entries
pub size_fits : (l : Limits) (c : Content) (s : Size) → size_of l c ≡ done s → s.edges ≤ l.room
unfolding FineSize
size_fits l c s e = let t : Taken l s.n s.edges = rw e at (size_fine l c) in t.fits

table_fine : (l : Limits) (n m : ℕ) (r : Result (List Edge)) → Taken l n m → FineEdges n m r → Fine l (as_table n r)
unfolding as_table FineEdges Fine
table_fine l n m (refused k) t f = tt
table_fine l n m (done es) t f = record { vertices = t.vertices; few = omega (arith, f.long, t.few); fits = omega (arith, f.long, t.fits); sources_low = f.sources_low; targets_low = f.targets_low }

at_fine : (l : Limits) (s : Result Size) (rest : List (List ℕ)) → FineSize l s → Fine l (at_size s rest)
unfolding at_size FineSize Fine
at_fine l (refused k) rest f = f
at_fine l (done s) rest f = table_fine l s.n s.edges (entries s.n s.edges rest) f (entries_fine s.n s.edges rest)

from_fine : (l : Limits) (ls : List (List ℕ)) → Fine l (from_size l ls)
unfolding from_size Fine
from_fine l [] = tt
from_fine l (w ∷ ls) = at_fine l (size_of l (content w)) ls (size_fine l (content w))

first_fine : (l : Limits) (t : Bool) (ls : List (List ℕ)) → Fine l (cond t (from_size l (pass_over ls)) (refused 13))
unfolding Fine
first_fine l true ls = from_fine l (pass_over ls)
first_fine l false ls = tt

lines_fine : (l : Limits) (ls : List (List ℕ)) → Fine l (from_first l ls)
unfolding from_first Fine
lines_fine l [] = tt
lines_fine l (w ∷ ls) = first_fine l (same w banner) ls

pub market_sound : (l : Limits) (text : List ℕ) (t : Table) → market l text ≡ done t → Sound l t
unfolding market Fine
market_sound l text t e = rw e at (lines_fine l (lines text))

-- a table that was read passes the check of a table without kinds
pub sound_passed : (l : Limits) (t : Table) → l.most_vertices ≤ most_vertices → l.most_edges ≤ most_edges → Sound l t → plain_refusal t.n (map (λ a. a.source) t.edges) (map (λ a. a.target) t.edges) ≡ 0
unfolding plain_refusal given ◌or◌
sound_passed l t v e s =
    let from = length-map t.edges (λ a. a.source) in
    let to = length-map t.edges (λ a. a.target) in
    rw (
      le-ltb most_vertices t.n (omega (arith, s.vertices)),
      eq-eqb (length (map (λ a. a.source) t.edges)) (length (map (λ a. a.target) t.edges)) (from ∙ sym to),
      le-ltb most_edges (length (map (λ a. a.source) t.edges)) (omega (arith, s.few)),
      outside_no t.n (map (λ a. a.source) t.edges) s.sources_low,
      outside_no t.n (map (λ a. a.target) t.edges) s.targets_low,
    )
