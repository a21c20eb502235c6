-- What the call's tests give, and how the stages keep the promise.
use Prim.Native.Nat.{ℕ, ◌+◌, ◌≤◌, ◌<◌}
use native.Mathlib.Omega.{arith}
use native.Mathlib.Nat.{suc-ne-zero}
use native.Mathlib.Decide.{ℕ_discrete}
use mathlib.Core.Path.{◌≡◌, refl, sym, ◌∙◌}
use mathlib.Core.Logic.{by_cases}
use mathlib.Core.Bool.{Bool, true, false, not}
use mathlib.Core.List.{List}
use lib.ListN.{length, get_or}
use lib.Seq.{ext_get_or}
use lib.Dec.{eqb, T_not}
use borrow.Author.Tests.{ne_eqb}
use Rattle.graph.specs.Graph.{Valid}
use Rattle.graph.specs.Numbers.{some_below}
use Rattle.graph.specs.Search.{label_of, labels}
use Rattle.graph.specs.Limits.{wrong_labels, numbers_needed, Enough}
use Rattle.graph.specs.Refusal.{given, ◌or◌}
use Rattle.memory.specs.Memory.{ClearAsk, Cleared, Copied}
use Rattle.graph.specs.Checker.{Columns, Sized, at}
use Rattle.graph.specs.Certificate.{Right, certificate, ranks, distances, entries}
use Rattle.graph.proofs.Tests.{T_true, no_t, eq_t, some_below_iff, length_each}
use Rattle.graph.proofs.Search.{label_is, label_eq}
use Rattle.graph.proofs.Certificate.{right_labels, right_unique}
use Rattle.graph.proofs.Refusals.{or_stop, or_none, or_of, given_none, given_of, not_lacking, Passed, table_apart, passed_valid}
use Rattle.memory.proofs.Memory.{zeroed_after}
use Rattle.checker.specs.Promise.{checker_refusal}
use Rattle.checker.specs.Promise as checker
use Rattle.checker.proofs.Laws.{call_passed, call_ready}
use Rattle.certificate.specs.Work.{base, Beyond, WorkAsk, Made, Worked, HandAsk, Handed}
use Rattle.classes.proofs.Classing.{clash, when, unless}
use Rattle.certificate.specs.Promise.{lent, Call, collection, columns, checked, wrong_label, early_on, refusal_on, early_refusal, writer_refusal, Promise}

-- what a call has that is not refused before 10
pub record Ready (c : Call) : Type 0 where
  pub passed : Passed c.n c.sources c.targets c.kinds
  pub sized : Sized c.n (columns c.label c.lends)
  pub memory : Enough c.n (length c.sources) (length c.lends.numbers) (length c.lends.words)

module _ (c : Call) where
  -- 10 is not given early
  early_other : early_refusal c ≡ wrong_labels → ⊥
  unfolding early_on checker.refusal_on
  early_other = or_of other _ _ (or_of other _ _ (λ q. omega (arith, table_apart c.n c.sources c.targets c.kinds (omega arith))) (low 5 _ (omega arith))) (low 6 _ (omega arith))
    where
      other : ℕ → Type 0
      other k = k ≡ wrong_labels → ⊥

      low : (k : ℕ) (t : Bool) → k < wrong_labels → other (given k t)
      low k t l = given_of other k t (λ q. omega arith) (λ q. omega arith)

  pub early_ready : early_refusal c ≡ 0 → Ready c
  unfolding early_on
  early_ready e =
      let (e5, e6) = or_none (checker_refusal (checked c c.lends)) _ e in
      record {
        passed = call_passed (checked c c.lends) e5;
        sized = (call_ready (checked c c.lends) e5).sized;
        memory = not_lacking c.n (length c.sources) (length c.lends.numbers) (length c.lends.words) (given_none 6 _ (suc-ne-zero 5) e6);
      }

  pub refused_promise : {k : ℕ} → k ≡ early_refusal c → (k ≡ 0 → ⊥) → Promise c k c.lends
  unfolding refusal_on
  refused_promise {k} e o =
      record {
        number = rw (← e, or_stop k _ o);
        written = λ z. absurd (o z);
        wrong = λ z. absurd (early_other (sym e ∙ z));
        refused = λ _ _. refl;
      }

  module _ {k : ℕ} (told : k ≡ early_refusal c) (none : k ≡ 0) where
    fine : early_refusal c ≡ 0
    fine = sym told ∙ none

    ready : Ready c
    ready = early_ready fine

    valid : Valid (collection c)
    valid = passed_valid c.n c.sources c.targets c.kinds c.mask ready.passed

    pub work_ask : WorkAsk (collection c) c.kinds c.label c.lends.numbers
    work_ask =
        record {
          valid = valid;
          kinded = ready.passed.kinded;
          size = ready.sized.label;
          small = ready.passed.small;
          few = ready.passed.few;
          room = ready.memory.numbers;
        }

    -- the memory of the call's counts, or of fewer, can be cleared: that it is all is the promise's matter
    pub clear_ask : {w : List ℕ} → length w ≡ length c.lends.numbers → {i j : ℕ} → i ≤ c.n → j ≤ length c.sources → ClearAsk i j w c.lends.words
    clear_ask q k l =
        record {
          limits = record { small = omega (arith, ready.passed.small); few = omega (arith, ready.passed.few) };
          enough = record { numbers = omega (arith, ready.memory.numbers); words = omega (arith, ready.memory.words) };
        }

    pub hand_ask : {w : List ℕ} → length w ≡ length c.lends.numbers → HandAsk c.n (length c.sources) w c.lends.rank c.lends.in_edge c.lends.in_dist c.lends.out_edge c.lends.out_dist
    hand_ask q =
        record {
          limits = record { small = ready.passed.small; few = ready.passed.few };
          room = omega (arith, ready.memory.numbers);
          rank_size = ready.sized.rank;
          in_edge_size = ready.sized.in_edge;
          in_dist_size = ready.sized.in_dist;
          out_edge_size = ready.sized.out_edge;
          out_dist_size = ready.sized.out_dist;
        }

    -- right labels are those that the test lets pass
    pub right_passes : Right (collection c) c.label → wrong_label (collection c) c.label ≡ false
    unfolding wrong_label
    right_passes right = no_t (some_below c.n _) (λ t.
        let (v, l, s) = (some_below_iff c.n (λ v. not (eqb (at c.label v) (label_of (collection c) v)))).0 t in
        T_not (eqb (at c.label v) (label_of (collection c) v)) s (eq_t _ _ (label_eq valid l (right v l))))

    passes_right : wrong_label (collection c) c.label ≡ false → Right (collection c) c.label
    unfolding wrong_label
    passes_right q v l = by_cases (ℕ_discrete (at c.label v) (label_of (collection c) v))
        (λ z. rw z (label_is valid v l))
        (λ o. absurd (clash _ (T_true _ ((some_below_iff c.n (λ v. not (eqb (at c.label v) (label_of (collection c) v)))).1 (v, l, rw (ne_eqb (at c.label v) (label_of (collection c) v) o) tt))) q))

    pub wrong_fails : (Right (collection c) c.label → ⊥) → wrong_label (collection c) c.label ≡ true
    wrong_fails o = go (wrong_label (collection c) c.label) refl
      where
        go : (b : Bool) → wrong_label (collection c) c.label ≡ b → wrong_label (collection c) c.label ≡ true
        go true q = q
        go false q = absurd (o (passes_right q))

    -- the working memory is zeroed after the stages
    tidy : (w w' words' : List ℕ) → Beyond (numbers_needed c.n (length c.sources)) c.lends.numbers w → Cleared c.n (length c.sources) w w' c.lends.words words'
        → Cleared c.n (length c.sources) c.lends.numbers w' c.lends.words words'
    tidy w w' words' f x = record { numbers_zero = zeroed_after f.long f.rest x.numbers_zero; words_zero = x.words_zero }

    pub wrong_promise : {r : Bool} {w w' words' : List ℕ} → Worked (collection c) c.label (base (collection c)) c.lends.numbers w r → not r ≡ true
        → Cleared c.n (length c.sources) w w' c.lends.words words'
        → Promise c wrong_labels (lent c.lends.rank c.lends.in_edge c.lends.in_dist c.lends.out_edge c.lends.out_dist w' words')
    unfolding refusal_on given ◌or◌
    wrong_promise {w = w} {w'} {words'} x f z =
        record {
          number = rw (fine, wrong_fails (unless x.either f));
          written = λ q. absurd (omega arith);
          wrong = λ q. (refl, tidy w w' words' x.beyond z);
          refused = λ p q. absurd (q refl);
        }

    columns_same : {label rank rank' in_edge in_edge' in_dist in_dist' out_edge out_edge' out_dist out_dist' : List ℕ}
        → rank ≡ rank' → in_edge ≡ in_edge' → in_dist ≡ in_dist' → out_edge ≡ out_edge' → out_dist ≡ out_dist'
        → ◌≡◌ {A = Columns} (record { label = label; rank = rank; in_edge = in_edge; in_dist = in_dist; out_edge = out_edge; out_dist = out_dist })
        (record { label = label; rank = rank'; in_edge = in_edge'; in_dist = in_dist'; out_edge = out_edge'; out_dist = out_dist' })
    columns_same p q r s t = rw (p, q, r, s, t)

    -- a column that was copied is the certificate's
    column_same : (w : List ℕ) (a : ℕ) (column column' wanted : List ℕ) → length column ≡ c.n → length wanted ≡ c.n
        → Copied w a column column' → ((v : ℕ) → v < c.n → get_or w (a + v) 0 ≡ at wanted v) → column' ≡ wanted
    column_same w a column column' wanted p q x f = ext_get_or 0 column' wanted (x.long ∙ p ∙ sym q) (λ v l. x.each v (omega (arith, x.long)) ∙ f v (omega (arith, x.long)))

    pub done_promise : {r : Bool} {w w' words' rank' in_edge' in_dist' out_edge' out_dist' : List ℕ}
        → Worked (collection c) c.label (base (collection c)) c.lends.numbers w r → not r ≡ false
        → Handed c.n (base (collection c)) w c.lends.rank rank' c.lends.in_edge in_edge' c.lends.in_dist in_dist' c.lends.out_edge out_edge' c.lends.out_dist out_dist'
        → Cleared c.n (length c.sources) w w' c.lends.words words'
        → Promise c 0 (lent rank' in_edge' in_dist' out_edge' out_dist' w' words')
    unfolding refusal_on given ◌or◌ certificate ranks distances entries
    done_promise {w = w} {w'} {words'} {rank'} {in_edge'} {in_dist'} {out_edge'} {out_dist'} x f h z =
        let made : Made (collection c) c.label (base (collection c)) w = when x.either f in
        record {
          number = rw (fine, right_passes made.right);
          written = λ q. (
            columns_same
                (column_same w _ c.lends.rank rank' _ ready.sized.rank (length_each c.n _) h.to_rank made.rank)
                (column_same w _ c.lends.in_edge in_edge' _ ready.sized.in_edge (length_each c.n _) h.to_in_edge made.in_edge)
                (column_same w _ c.lends.in_dist in_dist' _ ready.sized.in_dist (length_each c.n _) h.to_in_dist made.in_dist)
                (column_same w _ c.lends.out_edge out_edge' _ ready.sized.out_edge (length_each c.n _) h.to_out_edge made.out_edge)
                (column_same w _ c.lends.out_dist out_dist' _ ready.sized.out_dist (length_each c.n _) h.to_out_dist made.out_dist),
            tidy w w' words' x.beyond z,
          );
          wrong = λ q. absurd (omega arith);
          refused = λ p q. absurd (p refl);
        }

-- what the number 0 says of the call
pub ready_of : (c : Call) → writer_refusal c ≡ 0 → Valid (collection c) × (length c.label ≡ c.n)
unfolding refusal_on
ready_of c e = let r = early_ready c (or_none (early_refusal c) _ e).0 in (passed_valid c.n c.sources c.targets c.kinds c.mask r.passed, r.sized.label)

pub right_of : (c : Call) → writer_refusal c ≡ 0 → Right (collection c) c.label
unfolding refusal_on
right_of c e = let (p, q) = or_none (early_refusal c) _ e in passes_right c refl p (given_none 10 _ (suc-ne-zero 9) q)

-- what the label column says of the number, where the tests before 10 pass
pub right_none : (c : Call) → early_refusal c ≡ 0 → c.label ≡ labels (collection c) → writer_refusal c ≡ 0
unfolding refusal_on given ◌or◌
right_none c e q =
    let ok = passed_valid c.n c.sources c.targets c.kinds c.mask (early_ready c e).passed in
    rw (e, right_passes c refl e (rw q (right_labels ok)))

pub other_ten : (c : Call) → early_refusal c ≡ 0 → (c.label ≡ labels (collection c) → ⊥) → writer_refusal c ≡ wrong_labels
unfolding refusal_on given ◌or◌
other_ten c e o =
    let r = early_ready c e in
    let ok = passed_valid c.n c.sources c.targets c.kinds c.mask r.passed in
    rw (e, wrong_fails c refl e (λ right. o (right_unique ok c.label r.sized.label right)))
