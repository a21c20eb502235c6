-- What the tests leave: a table and memory that can be worked on.
use Prim.Native.Nat.{ℕ, ◌≤◌}
use native.Mathlib.Omega.{arith}
use mathlib.Core.Path.{◌≡◌, sym, ap, ◌∙◌}
use mathlib.Core.Logic.{⊎_elim}
use mathlib.Core.Bool.{cond, not, ◌||◌}
use mathlib.Core.List.{List}
use lib.ListN.{length}
use lib.Dec.{eqb, ltb}
use borrow.Author.Tests.{lt-ltb, le-ltb, ltb-false, eqb-true, not-false}
use Rattle.graph.specs.Graph.{table, Kinds, Valid}
use Rattle.graph.specs.Limits.{most_vertices, most_edges, InLimits, Enough, wrong_length, memory_short, list_short, unknown_choice}
use Rattle.std.proofs.Common.{Result, Ok, Err}
use native.Mathlib.Decide.{dec_lt, ℕ_discrete}
use Rattle.graph.specs.Refusal.{given, ◌or◌, table_refusal, lacking}
use Rattle.graph.specs.Reasons.{number_of, said}
use Rattle.graph.proofs.Reasons.{or_err, or_ok}
use Rattle.pivot.proofs.Unique.{kind_low}
use Rattle.machine.proofs.Orders.{order_low}
use Rattle.machine.proofs.Cutting.{method_low}
use Rattle.graph.specs.declared.refusal.Refusal.{Refusal}
use Rattle.decompose.specs.Accept.{lent_refusal, Chosen}
use Rattle.decompose.specs.Begin.{BeginAsk}
use Rattle.decompose.specs.declared.accept.Choice.{Choice}
use Rattle.graph.proofs.Refusals.{or_stop, or_pass, or_none, given_none, or_left_none, not_lacking, table_passed, passed_valid}
use Rattle.decompose.specs.Promise.{Call, refusal_after, refusal_of, refusal_on}

-- a call whose table and lent memory can be worked on
pub record Lent (n : ℕ) (sources targets kinds : List ℕ) (lab parts num wor : ℕ) : Type 0 where
  pub valid : (mask : ℕ) → Valid (table n sources targets kinds mask)
  pub kinded : Kinds (length sources) kinds
  pub small : n ≤ most_vertices
  pub few : length sources ≤ most_edges
  pub label : lab ≡ n
  pub memory : Enough n (length sources) num wor
  pub waiting : n ≤ parts

-- and whose choices are known
pub record Accepted (n : ℕ) (sources targets kinds : List ℕ) (method order kind lab parts num wor : ℕ) : Type 0 where
  pub lent : Lent n sources targets kinds lab parts num wor
  pub known_method : method ≤ 1
  pub known_kind : kind ≤ 2
  pub known_order : order ≤ 1

module _ {n : ℕ} {sources targets kinds : List ℕ} {lab parts num wor : ℕ} (e : 0 ≡ lent_refusal (table_refusal n sources targets kinds) n (length sources) lab parts num wor) where
  pub lent_passed : Lent n sources targets kinds lab parts num wor
  unfolding lent_refusal
  lent_passed =
      let (a, e₁) = or_none (table_refusal n sources targets kinds) _ (sym e) in
      let (b, e₂) = or_none (given wrong_length (not (eqb lab n))) _ e₁ in
      let (c, d) = or_none (given memory_short (lacking n (length sources) num wor)) _ e₂ in
      let p = table_passed n sources targets kinds a in
      record {
        valid = λ mask. passed_valid n sources targets kinds mask p;
        kinded = p.kinded;
        small = p.small;
        few = p.few;
        label = eqb-true lab n (not-false (eqb lab n) (given_none wrong_length (not (eqb lab n)) (λ z. omega arith) b));
        memory = not_lacking n (length sources) num wor (given_none memory_short _ (λ z. omega arith) c);
        waiting = ltb-false parts n (given_none list_short (ltb parts n) (λ z. omega arith) d);
      }

pub lent_limits : {n : ℕ} {sources targets kinds : List ℕ} {lab parts num wor : ℕ} → Lent n sources targets kinds lab parts num wor → InLimits n (length sources)
lent_limits p = record { small = p.small; few = p.few }

pub lent_ask : {n : ℕ} {sources targets kinds num wor : List ℕ} {lab parts : ℕ} (mask : ℕ) → Lent n sources targets kinds lab parts (length num) (length wor) → BeginAsk (table n sources targets kinds mask) kinds num wor
lent_ask mask p = record { valid = p.valid mask; kinded = p.kinded; small = p.small; few = p.few; memory = p.memory }

or_more : (a b c : ℕ) → (a or b) or c ≡ a or (b or c)
or_more a b c = elim (ℕ_discrete a 0) as (λ _. (a or b) or c ≡ a or (b or c)) [
  | yes q ↦ ap (λ (x : ℕ). x or c) (or_pass a b q) ∙ sym (or_pass a (b or c) q)
  | no q ↦ ap (λ (x : ℕ). x or c) (or_stop a b q) ∙ or_stop a c q ∙ sym (or_stop a (b or c) q)
]

-- of the tests of what was lent and of the choices, the first that applies
lent_or : (k n edges method order kind label waiting numbers words : ℕ)
    → lent_refusal k n edges label waiting numbers words or given unknown_choice (ltb 1 method || ltb 2 kind || ltb 1 order) ≡ refusal_after k n edges method order kind label waiting numbers words
unfolding lent_refusal refusal_after
lent_or k n edges method order kind label waiting numbers words =
    let e = given unknown_choice (ltb 1 method || ltb 2 kind || ltb 1 order) in
    let a = given wrong_length (not (eqb label n)) in
    let b = given memory_short (lacking n edges numbers words) in
    let d = given list_short (ltb waiting n) in
    or_more k (a or b or d) e ∙ ap (λ (x : ℕ). k or x) (or_more a (b or d) e ∙ ap (λ (x : ℕ). a or x) (or_more b d e))

-- a call that is not refused was lent what can be worked on, and its choices are known
pub accepted : {n : ℕ} {sources targets kinds : List ℕ} {method order kind lab parts num wor : ℕ}
    → refusal_of n sources targets kinds method order kind lab parts num wor ≡ 0 → Accepted n sources targets kinds method order kind lab parts num wor
accepted {n} {sources} {targets} {kinds} {method} {order} {kind} {lab} {parts} {num} {wor} e =
    let (a, f) = or_none (lent_refusal (table_refusal n sources targets kinds) n (length sources) lab parts num wor) _ (lent_or _ n (length sources) method order kind lab parts num wor ∙ e) in
    let (f', f₃) = or_left_none (ltb 1 method || ltb 2 kind) (ltb 1 order) (given_none unknown_choice _ (λ z. omega arith) f) in
    let (f₁, f₂) = or_left_none (ltb 1 method) (ltb 2 kind) f' in
    record {
      lent = lent_passed (sym a);
      known_method = ltb-false 1 method f₁;
      known_kind = ltb-false 2 kind f₂;
      known_order = ltb-false 1 order f₃;
    }

-- what the choices say as a number
chosen_said : (method order kind : ℕ) (r : Result Choice Refusal) → Chosen method order kind r → said r ≡ given unknown_choice (ltb 1 method || ltb 2 kind || ltb 1 order)
unfolding given
chosen_said method order kind (Ok x) c =
    rw (le-ltb 1 method (omega (arith, method_low x.method, c.method)), le-ltb 2 kind (omega (arith, kind_low x.pivots, c.pivots)), le-ltb 1 order (omega (arith, order_low x.order, c.order)))
chosen_said method order kind (Err e) c = ap number_of c.0 ∙ elim (dec_lt 1 method) as (λ _. unknown_choice ≡ cond (ltb 1 method || ltb 2 kind || ltb 1 order) unknown_choice 0) [
  | yes a ↦ rw (lt-ltb 1 method a)
  | no a ↦ elim (dec_lt 2 kind) as (λ _. unknown_choice ≡ cond (ltb 1 method || ltb 2 kind || ltb 1 order) unknown_choice 0) [
    | yes b ↦ rw (le-ltb 1 method (omega arith), lt-ltb 2 kind b)
    | no b ↦ rw (le-ltb 1 method (omega arith), le-ltb 2 kind (omega arith), lt-ltb 1 order (⊎_elim (λ h. absurd (a h)) (λ h. ⊎_elim (λ h. absurd (b h)) (λ h. h) h) c.1))
  ]
]

-- what was lent and what was chosen: a refusal of either is the call's, and where there is none the call has none
module _ (c : Call) where
  abbrev pub lent : ℕ
  lent = lent_refusal (table_refusal c.n c.sources c.targets c.kinds) c.n (length c.sources) (length c.label) (length c.waiting) (length c.numbers) (length c.words)

  abbrev pub all : ℕ
  all = refusal_on (table_refusal c.n c.sources c.targets c.kinds) c

  both : lent or given unknown_choice (ltb 1 c.method || ltb 2 c.chooser.kind || ltb 1 c.order) ≡ all
  both = lent_or _ c.n (length c.sources) c.method c.order c.chooser.kind (length c.label) (length c.waiting) (length c.numbers) (length c.words)

  pub refused_lent : (r : Refusal) → number_of r ≡ lent → number_of r ≡ all
  refused_lent r e = or_err r _ _ e ∙ both

  pub refused_chosen : (r : Result Choice Refusal) → 0 ≡ lent → Chosen c.method c.order c.chooser.kind r → said r ≡ all
  refused_chosen r z x = or_ok _ _ z (chosen_said c.method c.order c.chooser.kind r x) ∙ both
