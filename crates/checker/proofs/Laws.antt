-- What the tests of a call give, and how the answers of its parts make the verdict.
use Prim.Native.Nat.{ℕ, ◌+◌, ◌≤◌, ◌<◌}
use native.Mathlib.Omega.{arith}
use native.Mathlib.Nat.{suc-ne-zero}
use native.Mathlib.Decide.{ℕ_discrete}
use mathlib.Core.Path.{◌≡◌, refl, sym, ap, ◌∙◌}
use mathlib.Core.Bool.{Bool, true, false, not, ◌||◌}
use mathlib.Core.List.{List, [], ◌∷◌}
use lib.ListN.{length}
use lib.Dec.{leb, eqb, leb→le, eqb→eq}
use borrow.Author.Tests.{eqb-true, eq-eqb, ne_eqb, lt-ltb, le-ltb, not-false}
use borrow.Author.Count.{below_more}
use Rattle.graph.specs.Graph.{Graph, Valid, rev, edges}
use Rattle.graph.specs.Refusal.{given, ◌or◌, table_refusal}
use Rattle.graph.specs.Checker.{Columns, Sized, at, check1, check3, check5, fault, verdict}
use Rattle.graph.proofs.Tests.{and_split}
use Rattle.graph.proofs.Chains.{table_turned}
use Rattle.graph.proofs.Least.{least_found, least_none}
use Rattle.graph.proofs.Refusals.{or_none, given_none, or_left_none, Passed, table_passed, passed_valid}
use Rattle.std.specs.List.{list_any}
use Rattle.std.specs.Prelude.{Some, None, Ok, Err}
use Rattle.graph.specs.Table.{graph_of, turned_of}
use Rattle.graph.specs.declared.table.Table.{Table}
use Rattle.graph.specs.Reasons.{number_of}
use Rattle.graph.specs.declared.refusal.Refusal.{Refusal}
use Rattle.graph.proofs.Reasons.{number_some}
use Rattle.checker.specs.Contract.{fault_of, label_and_rank, RankAsk, FaultAsk, Ready}
use Rattle.checker.specs.Promise.{Call, collection, wrong_size, refusal_on, checker_refusal, edge_verdict, judged, outcome, promised_on, Promise}
use Rattle.checker.specs.declared.Verdict.{Verdict}
use Rattle.checker.specs.declared.Verdict.TheVariants.{Accepted, Failed}

-- check 1 says that the label is at most v, and its own label
pub own_says : (c : Columns) (v : ℕ) → check1 c v ≡ true → (at c.label v ≤ v) × (at c.label (at c.label v) ≡ at c.label v)
unfolding check1
own_says c v e =
    let l : ℕ = at c.label v in
    let (p, q) = and_split (leb l v) (eqb (at c.label l) l) (rw e tt) in
    (leb→le l v p, eqb→eq (at c.label l) l q)

-- check 4 is check 3 of the turned table
pub turned_tells : {t u : Table} (label edge dist : List ℕ) (v : ℕ) {r : Bool} → Valid (graph_of t) → u ≡ turned_of t → r ≡ check3 (graph_of u) label edge dist v → r ≡ check3 (rev (graph_of t)) label edge dist v
turned_tells {t} {u} label edge dist v valid e q =
    q ∙ ap (λ (u : Table). check3 (graph_of u) label edge dist v) e
    ∙ ap (λ (g : Graph). check3 g label edge dist v) (table_turned t.n t.sources.now t.targets.now t.kinds.now t.mask valid.same)

-- what fault asks
pub rank_ask : {g : Graph} {kinds : List ℕ} {c : Columns} {v : ℕ} → FaultAsk g kinds c v → true ≡ check1 (label_and_rank c.label []) v → RankAsk g.n c.label c.rank v
rank_ask {c = c} {v = v} x one =
    record {
      label_size = x.ready.sized.label;
      rank_size = x.ready.sized.rank;
      low = x.low;
      label_low = omega (arith, x.low, (own_says (label_and_rank c.label []) v (sym one)).0);
    }

-- some column of a row of six has the wrong size
pub any_wrong : (n : ℕ) (c : Columns) → list_any (λ column. not (eqb (length column) n)) (c.label ∷ c.rank ∷ c.in_edge ∷ c.in_dist ∷ c.out_edge ∷ c.out_dist ∷ []) ≡ wrong_size n c
unfolding wrong_size
any_wrong n c = row (wrong c.label) (wrong c.rank) (wrong c.in_edge) (wrong c.in_dist) (wrong c.out_edge) (wrong c.out_dist)
  where
    wrong : List ℕ → Bool
    wrong column = not (eqb (length column) n)

    row : (p q r s t u : Bool) → (p || (q || (r || (s || (t || (u || false)))))) ≡ (((((p || q) || r) || s) || t) || u)
    row true q r s t u = refl
    row false true r s t u = refl
    row false false true s t u = refl
    row false false false true t u = refl
    row false false false false true u = refl
    row false false false false false true = refl
    row false false false false false false = refl

-- columns of which none has the wrong size
sized : (n : ℕ) (c : Columns) → wrong_size n c ≡ false → Sized n c
unfolding wrong_size
sized n c e =
    let (r5, e6) = or_left_none _ _ e in
    let (r4, e5) = or_left_none _ _ r5 in
    let (r3, e4) = or_left_none _ _ r4 in
    let (r2, e3) = or_left_none _ _ r3 in
    let (e1, e2) = or_left_none _ _ r2 in
    record {
      label = eqb-true _ n (not-false _ e1);
      rank = eqb-true _ n (not-false _ e2);
      in_edge = eqb-true _ n (not-false _ e3);
      in_dist = eqb-true _ n (not-false _ e4);
      out_edge = eqb-true _ n (not-false _ e5);
      out_dist = eqb-true _ n (not-false _ e6);
    }

-- columns of the right sizes pass the test
sizes_pass : (n : ℕ) (c : Columns) → Sized n c → wrong_size n c ≡ false
unfolding wrong_size
sizes_pass n c z = rw (z.label, z.rank, z.in_edge, z.in_dist, z.out_edge, z.out_dist, eq-eqb n n refl)

module _ (c : Call) where
  -- a call that is not refused
  pub call_passed : checker_refusal c ≡ 0 → Passed c.n c.sources c.targets c.kinds
  unfolding refusal_on
  call_passed e = table_passed c.n c.sources c.targets c.kinds (or_none (table_refusal c.n c.sources c.targets c.kinds) _ e).0

  pub call_ready : checker_refusal c ≡ 0 → Ready (collection c) c.kinds c.given_columns
  unfolding refusal_on
  call_ready e = record {
    valid = passed_valid c.n c.sources c.targets c.kinds c.mask (call_passed e);
    kinded = (call_passed e).kinded;
    sized = sized c.n c.given_columns (given_none 5 _ (suc-ne-zero 4) (or_none (table_refusal c.n c.sources c.targets c.kinds) _ e).1);
  }

  -- a table that is not refused, and columns of its size
  pub ready_call : table_refusal c.n c.sources c.targets c.kinds ≡ 0 → Sized c.n c.given_columns → checker_refusal c ≡ 0
  unfolding refusal_on given ◌or◌
  ready_call e z = rw (e, sizes_pass c.n c.given_columns z)

  pub refused_promise : (r : Refusal) → number_of r ≡ checker_refusal c → Promise c (Err r)
  unfolding promised_on outcome
  refused_promise r e = rw (← e, ne_eqb (number_of r) 0 (number_some r))

  pub judged_promise : (v : Verdict) → checker_refusal c ≡ 0 → judged v ≡ verdict (collection c) c.given_columns → Promise c (Ok v)
  unfolding promised_on outcome
  judged_promise v e q = rw (e, q)

-- the verdict of a loop over the edges, and of one over the vertices
module _ (g : Graph) (c : Columns) where
  abbrev pub wrong : ℕ → Bool
  wrong v = not (eqb (fault g c v) 0)

  abbrev pub wrong_edge : ℕ → Bool
  wrong_edge e = not (check5 g c e)

  -- what the first failed check of a vertex says
  fault_some : (v : ℕ) {k : ℕ} → Some k ≡ fault_of g c v → (k ≡ fault g c v) × (k ≡ 0 → ⊥)
  unfolding fault_of
  fault_some v {k} e = elim (ℕ_discrete (fault g c v) 0) as (λ _. (k ≡ fault g c v) × (k ≡ 0 → ⊥)) [
    | yes z ↦ let f : Some k ≡ None = rw (eq-eqb (fault g c v) 0 z) at e in cc
    | no o ↦ let f : Some k ≡ Some (fault g c v) = rw (ne_eqb (fault g c v) 0 o) at e in let q : k ≡ fault g c v = cc in (q, λ z. o (sym q ∙ z))
  ]

  fault_no : (v : ℕ) → None ≡ fault_of g c v → fault g c v ≡ 0
  unfolding fault_of
  fault_no v e = elim (ℕ_discrete (fault g c v) 0) as (λ _. fault g c v ≡ 0) [
    | yes z ↦ z
    | no o ↦ let f : None ≡ Some (fault g c v) = rw (ne_eqb (fault g c v) 0 o) at e in cc
  ]

  pub fault_found : (v : ℕ) {k : ℕ} → k ≡ fault g c v → (k ≡ 0 → ⊥) → Some k ≡ fault_of g c v
  unfolding fault_of
  fault_found v {k} e o = rw (← e, ne_eqb k 0 o)

  pub edge_failed : {e : ℕ} {r : Bool} → e < edges g → ((j : ℕ) → j < e → wrong_edge j ≡ false) → r ≡ check5 g c e → not r ≡ true → judged (Failed 5 e) ≡ edge_verdict g c
  unfolding edge_verdict
  edge_failed {e} l none q t = rw (← (least_found (edges g) wrong_edge e l none (rw (← q, t))), lt-ltb e (edges g) l)

  pub edge_passed : {e : ℕ} {r : Bool} → ((j : ℕ) → j < e → wrong_edge j ≡ false) → r ≡ check5 g c e → not r ≡ false → (j : ℕ) → j < e + 1 → wrong_edge j ≡ false
  edge_passed none q t = below_more _ _ none (rw (← q, t))

  pub edges_pass : {e : ℕ} → ((j : ℕ) → j < e → wrong_edge j ≡ false) → edges g ≤ e → judged Accepted ≡ edge_verdict g c
  unfolding edge_verdict
  edges_pass none l = rw (← (least_none (edges g) wrong_edge (λ j h. none j (omega arith))), le-ltb (edges g) (edges g) (omega arith))

  pub vertex_failed : {v k : ℕ} → v < g.n → ((j : ℕ) → j < v → wrong j ≡ false) → Some k ≡ fault_of g c v → judged (Failed k v) ≡ verdict g c
  unfolding verdict
  vertex_failed {v} {k} l none q = let (e, o) = fault_some v q in rw (← (least_found g.n wrong v l none (rw (← e, ne_eqb k 0 o))), lt-ltb v g.n l, e)

  pub vertex_passed : {v : ℕ} → ((j : ℕ) → j < v → wrong j ≡ false) → None ≡ fault_of g c v → (j : ℕ) → j < v + 1 → wrong j ≡ false
  vertex_passed {v} none e = below_more _ _ none (rw (eq-eqb _ _ (fault_no v e)))

  pub vertices_pass : (r : Verdict) {v : ℕ} → ((j : ℕ) → j < v → wrong j ≡ false) → g.n ≤ v → judged r ≡ edge_verdict g c → judged r ≡ verdict g c
  unfolding verdict edge_verdict
  vertices_pass r none l q = rw (← (least_none g.n wrong (λ j h. none j (omega arith))), le-ltb g.n g.n (omega arith)) q
