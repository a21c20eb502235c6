-- The checker gives an answer exactly where what it says of the call holds.
use Prim.Native.Nat.{ℕ, ◌<◌}
use native.Mathlib.Omega.{arith}
use native.Mathlib.Nat.{suc-ne-zero}
use native.Mathlib.Decide.{ℕ_discrete, dec_lt}
use mathlib.Core.Path.{◌≡◌, refl, sym, subst, ◌∙◌}
use mathlib.Core.Logic.{◌↔◌, ◌⊎◌, inl, inr, ⊎_elim, by_cases}
use borrow.Author.Tests.{eq-eqb, ne_eqb}
use lib.Dec.{T, eqb, eqb→eq, T_not, not_T}
use Rattle.graph.specs.Graph.{Graph, rev, edges}
use Rattle.graph.specs.Numbers.{least}
use Rattle.graph.specs.Checker.{Columns, check1, check2, check3, check5, fault, verdict}
use Rattle.graph.specs.Checker as graph_checker
use Rattle.graph.proofs.Tests.{t_dec, T_true, no_t, cond_true, cond_false, least_passes, least_first}
use Rattle.graph.proofs.Verdict.{Passes, fault_none, accepted_verdict}
use Rattle.std.specs.Prelude.{Result, Ok, Err}
use Rattle.graph.specs.Reasons.{number_of}
use Rattle.graph.specs.declared.refusal.Refusal.{Refusal}
use Rattle.checker.specs.Promise.{Call, collection, checker_refusal, judged, outcome, done, refused, promised_on, Promise}
use Rattle.checker.specs.Answer.{Fails, one, two, three, four, FirstFailed, at_vertex, at_edge, Says}
use Rattle.checker.specs.declared.Verdict.{Verdict}
use Rattle.checker.specs.declared.Verdict.TheVariants.{Accepted, Failed}
use Rattle.checker.proofs.Laws.{fault_found, refused_promise, judged_promise, wrong, wrong_edge, edge_failed, vertex_failed, vertices_pass}
use Rattle.checker.proofs.Unique.{check_one}

module _ (g : Graph) (c : Columns) where
  -- the number that is computed is that of the first check that fails
  fails_fault : (v k : ℕ) → Fails g c v k → (k ≡ fault g c v) × (k ≡ 0 → ⊥)
  unfolding fault
  fails_fault v _ (one a) = (sym (cond_false (check1 c v) _ _ a), suc-ne-zero 0)
  fails_fault v _ (two a b) = (sym (cond_true (check1 c v) _ _ a ∙ cond_false (check2 g c v) _ _ b), suc-ne-zero 1)
  fails_fault v _ (three a b d) =
      (sym (cond_true (check1 c v) _ _ a ∙ cond_true (check2 g c v) _ _ b ∙ cond_false (check3 g c.label c.in_edge c.in_dist v) _ _ d), suc-ne-zero 2)
  fails_fault v _ (four a b d e) = (
    sym (cond_true (check1 c v) _ _ a ∙ cond_true (check2 g c v) _ _ b ∙ cond_true (check3 g c.label c.in_edge c.in_dist v) _ _ d
        ∙ cond_false (check3 (rev g) c.label c.out_edge c.out_dist v) _ _ e),
    suc-ne-zero 3,
  )

  passes_or_fails : (v : ℕ) → Passes g c v ⊎ ((k : ℕ) × Fails g c v k)
  passes_or_fails v = go (t_dec (check1 c v)) (t_dec (check2 g c v)) (t_dec (check3 g c.label c.in_edge c.in_dist v)) (t_dec (check3 (rev g) c.label c.out_edge c.out_dist v))
    where
      go : Dec (T (check1 c v)) → Dec (T (check2 g c v)) → Dec (T (check3 g c.label c.in_edge c.in_dist v)) → Dec (T (check3 (rev g) c.label c.out_edge c.out_dist v))
          → Passes g c v ⊎ ((k : ℕ) × Fails g c v k)
      go (no a) _ _ _ = inr (1, one a)
      go (yes a) (no b) _ _ = inr (2, two a b)
      go (yes a) (yes b) (no d) _ = inr (3, three a b d)
      go (yes a) (yes b) (yes d) (no e) = inr (4, four a b d e)
      go (yes a) (yes b) (yes d) (yes e) = inl (record { one = a; two = b; three = d; four = e })

  -- a vertex that fails no check passes all four
  none_passes : (v : ℕ) → ((k : ℕ) → Fails g c v k → ⊥) → Passes g c v
  none_passes v o = ⊎_elim (λ p. p) (λ (k, f). absurd (o k f)) (passes_or_fails v)

  -- the first failed check is the verdict
  failed_verdict : {k x : ℕ} → FirstFailed g c k x → judged (Failed k x) ≡ verdict g c
  failed_verdict {k} (at_vertex {v = v} none l f) =
      let (q, o) = fails_fault v k f in
      vertex_failed g c l (λ u m. rw ((fault_none g c u).1 (none_passes u (λ j. none u j m)))) (fault_found g c v q o)
  failed_verdict (at_edge {e} none before l o) =
      vertices_pass g c (Failed 5 e) {v = g.n} (λ v m. rw ((fault_none g c v).1 (none_passes v (λ j. none v j m)))) (omega arith)
      (edge_failed g c {e = e} {r = check5 g c e} l (λ d m. rw (T_true (check5 g c d) (before d m))) refl (rw (no_t (check5 g c e) o)))

  -- columns of which no check fails first pass them all
  decided : graph_checker.Accepted g c ⊎ ((k x : ℕ) × FirstFailed g c k x)
  decided = go (dec_lt (least g.n (wrong g c)) g.n) (dec_lt (least (edges g) (wrong_edge g c)) (edges g))
    where
      none : (v k : ℕ) → v < g.n → v < least g.n (wrong g c) → Fails g c v k → ⊥
      none v k l m f =
          let (q, o) = fails_fault v k f in
          omega (arith, least_first g.n (wrong g c) v l (not_T (eqb (fault g c v) 0) (λ t. o (q ∙ eqb→eq (fault g c v) 0 t))))

      before : (e : ℕ) → e < edges g → e < least (edges g) (wrong_edge g c) → T (check5 g c e)
      before e l m = by_cases (t_dec (check5 g c e)) (λ t. t) (λ o. absurd (omega (arith, least_first (edges g) (wrong_edge g c) e l (not_T (check5 g c e) o))))

      go : Dec (least g.n (wrong g c) < g.n) → Dec (least (edges g) (wrong_edge g c) < edges g) → graph_checker.Accepted g c ⊎ ((k x : ℕ) × FirstFailed g c k x)
      go (yes l) _ =
          let v : ℕ = least g.n (wrong g c) in
          ⊎_elim (λ p. absurd (rw ((fault_none g c v).1 p) at (least_passes g.n (wrong g c) l))) (λ (k, f). inr (k, v, at_vertex (λ u j m. none u j (omega arith) m) l f)) (passes_or_fails v)
      go (no a) (yes l) =
          let e : ℕ = least (edges g) (wrong_edge g c) in
          inr (5, e, at_edge (λ v j m. none v j m (omega arith)) (λ d m. before d (omega arith) m) l (T_not (check5 g c e) (least_passes (edges g) (wrong_edge g c) l)))
      go (no a) (no b) =
          inl (record { one = λ v l. (passes v l).one; two = λ v l. (passes v l).two; three = λ v l. (passes v l).three; four = λ v l. (passes v l).four; five = λ e l. before e l (omega arith) })
        where
          passes : (v : ℕ) → v < g.n → Passes g c v
          passes v l = none_passes v (λ j. none v j l (omega arith))

module _ (c : Call) where
  says_promise : (a : Result Verdict Refusal) → Says c a → Promise c a
  unfolding Says
  says_promise (Ok Accepted) (e, x) = judged_promise c Accepted e (rw (accepted_verdict (collection c) c.given_columns x))
  says_promise (Ok (Failed k x)) (e, f) = judged_promise c (Failed k x) e (failed_verdict (collection c) c.given_columns f)
  says_promise (Err r) e = refused_promise c r (sym e)

  -- some verdict is right of a call that is not refused
  some_verdict : checker_refusal c ≡ 0 → (v : Verdict) × Says c (Ok v)
  unfolding Says
  some_verdict e = ⊎_elim (λ x. (Accepted, (e, x))) (λ (k, x, f). (Failed k x, (e, f))) (decided (collection c) c.given_columns)

  promise_says : (a : Result Verdict Refusal) → Promise c a → Says c a
  unfolding Says promised_on outcome
  promise_says (Ok v) p = elim (ℕ_discrete (checker_refusal c) 0) as (λ _. Says c (Ok v)) [
    | yes e ↦ let (w, s) = some_verdict e in subst (Says c) (check_one c (Ok w) (Ok v) (says_promise (Ok w) s) p) s
    | no o ↦ let q : done (judged v) ≡ refused (checker_refusal c) = rw (ne_eqb (checker_refusal c) 0 o) at p in cc
  ]
  promise_says (Err r) p = elim (ℕ_discrete (checker_refusal c) 0) as (λ _. Says c (Err r)) [
    | yes e ↦ let q : refused (number_of r) ≡ done (verdict (collection c) c.given_columns) = rw (eq-eqb (checker_refusal c) 0 e) at p in cc
    | no o ↦ let q : refused (number_of r) ≡ refused (checker_refusal c) = rw (ne_eqb (checker_refusal c) 0 o) at p in cc
  ]

  -- AN ANSWER IS GIVEN EXACTLY WHERE WHAT IT SAYS HOLDS
  pub answer_says : (a : Result Verdict Refusal) → Promise c a ↔ Says c a
  answer_says a = (promise_says a, says_promise a)
