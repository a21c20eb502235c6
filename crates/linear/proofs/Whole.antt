-- From an accepted call through the search to the promise.
use Prim.Native.Nat.{ℕ}
use native.Mathlib.Omega.{arith}
use native.Mathlib.Nat.{suc-ne-zero}
use mathlib.Core.Path.{◌≡◌, refl, sym}
use mathlib.Core.List.{List}
use lib.ListN.{length}
use borrow.Author.Tests.{eqb-true, not-false}
use Rattle.graph.specs.Graph.{Valid}
use Rattle.graph.specs.Limits.{Enough}
use Rattle.memory.specs.Memory.{ClearAsk, Cleared}
use Rattle.memory.proofs.Memory.{zeroed_after}
use Rattle.graph.proofs.Certificate.{right_unique}
use Rattle.graph.proofs.Refusals.{or_none, given_none, not_lacking, Passed, table_passed, passed_valid}
use Rattle.linear.specs.Search.{FindAsk, Found}
use Rattle.linear.specs.Promise.{Call, refusal_on, label_refusal, collection, Promise}

-- what a call has that is not refused
pub record Accepted (c : Call) : Type 0 where
  pub table : Passed c.n c.sources c.targets c.kinds
  pub label : length c.label ≡ c.n
  pub memory : Enough c.n (length c.sources) (length c.numbers) (length c.words)

module _ (c : Call) (e : label_refusal c ≡ 0) where
  pub accepted : Accepted c
  unfolding refusal_on
  accepted =
      let (e1, r1) = or_none _ _ e in
      let (e2, e3) = or_none _ _ r1 in
      record {
        table = table_passed c.n c.sources c.targets c.kinds e1;
        label = eqb-true _ _ (not-false _ (given_none 5 _ (suc-ne-zero 4) e2));
        memory = not_lacking c.n (length c.sources) (length c.numbers) (length c.words) (given_none 6 _ (suc-ne-zero 5) e3);
      }

  pub valid : Valid (collection c)
  valid = passed_valid c.n c.sources c.targets c.kinds c.mask accepted.table

  pub find_ask : FindAsk (collection c) c.kinds c.label c.numbers
  find_ask = let a = accepted in record {
    valid = valid;
    kinded = a.table.kinded;
    small = a.table.small;
    few = a.table.few;
    column = a.label;
    room = omega (arith, a.memory.numbers);
  }

  module _ {l w : List ℕ} {t : ℕ} (f : Found (collection c) l c.numbers w t) where
    pub clear_ask : ClearAsk c.n (length c.sources) w c.words
    clear_ask = let a = accepted in record {
      limits = record { small = a.table.small; few = a.table.few };
      enough = record { numbers = omega (arith, a.memory.numbers, f.long); words = a.memory.words };
    }

    -- each vertex got its label, and the working memory was cleared
    pub done : {w' ws : List ℕ} → Cleared c.n (length c.sources) w w' c.words ws → Promise c l w' ws 0
    done x = record {
      refusal = sym e;
      finished = λ _. record {
        label = right_unique valid l f.column f.labelled;
        numbers = zeroed_after f.long (λ j h. f.rest j (omega arith)) x.numbers_zero;
        words = x.words_zero;
      };
      untouched = λ o. absurd (o refl);
    }

-- nothing was done
pub refused : (c : Call) (k : ℕ) → k ≡ label_refusal c → (k ≡ 0 → ⊥) → Promise c c.label c.numbers c.words k
refused c k e o = record { refusal = e; finished = λ z. absurd (o z); untouched = λ _. record { label = refl; numbers = refl; words = refl } }
