-- Which number is given, and that the promise follows from what the search found.
use Prim.Native.Nat.{ℕ, ◌≤◌, ◌<◌}
use native.Mathlib.Omega.{arith}
use native.Mathlib.Nat.{suc-ne-zero}
use mathlib.Core.Path.{◌≡◌, refl, sym, ◌∙◌}
use mathlib.Core.Logic.{⊎_elim}
use mathlib.Core.Bool.{Bool, true, false}
use mathlib.Core.List.{List}
use lib.ListN.{length}
use borrow.Author.Tests.{lt-ltb, le-ltb, le-leb, lt-leb, leb-false, ne_eqb}
use Rattle.graph.specs.Graph.{Valid}
use Rattle.graph.specs.Limits.{words_needed, Enough, no_path, room_short}
use Rattle.graph.specs.Refusal.{given, ◌or◌}
use Rattle.memory.specs.Memory.{Zeroed, ClearAsk, Cleared}
use Rattle.memory.proofs.Memory.{zeroed_after}
use Rattle.graph.proofs.Reasons.{number_some, or_err}
use Rattle.graph.proofs.Refusals.{or_none, or_of, given_none, given_of, or_left_none, not_lacking, OfTable, table_apart, Passed, table_passed, passed_valid}
use Rattle.std.specs.Prelude.{Ok, Err}
use Rattle.graph.specs.Reasons.{number_of}
use Rattle.graph.specs.declared.refusal.Refusal.{Refusal}
use Rattle.paths.specs.Walk.{FindAsk, Prepared, Settled}
use Rattle.paths.specs.Promise.{Call, collection, distance, numbers_of, Answer, ask_on, first_refusal, refusal_on, path_refusal, after_search, Left, Promise}

-- WHAT IS REFUSED BEFORE THE SEARCH
-- neither 11 nor 12
abbrev Early : ℕ → Type 0
Early k = after_search k ≡ false

pub first_early : (c : Call) → after_search (first_refusal c) ≡ false
unfolding ask_on
first_early c = or_of Early _ _ (table_early (table_apart c.n c.sources c.targets c.kinds)) (or_of Early _ _ (given_of Early 6 _ refl refl) (given_of Early 9 _ refl refl))
  where
    table_early : {k : ℕ} → OfTable k → Early k
    table_early {k} h = rw (ne_eqb k no_path (λ e. omega (arith, h (omega arith))), ne_eqb k room_short (λ e. omega (arith, h (omega arith))))

-- what a call that is not refused has
pub record Admitted (c : Call) : Type 0 where
  pub passed : Passed c.n c.sources c.targets c.kinds
  pub memory : Enough c.n (length c.sources) (length c.numbers) (length c.words)
  pub u_low : c.u < c.n
  pub v_low : c.v < c.n

module _ (c : Call) (pass : first_refusal c ≡ 0) where
  pub admitted : Admitted c
  unfolding ask_on
  admitted =
      let (e1, r1) = or_none _ _ pass in
      let (e2, e3) = or_none _ _ r1 in
      let (p, q) = or_left_none _ _ (given_none 9 _ (suc-ne-zero 8) e3) in
      record {
        passed = table_passed _ _ _ _ e1;
        memory = not_lacking c.n (length c.sources) (length c.numbers) (length c.words) (given_none 6 _ (suc-ne-zero 5) e2);
        u_low = leb-false c.n c.u p;
        v_low = leb-false c.n c.v q;
      }

  pub valid : Valid (collection c)
  valid = passed_valid c.n c.sources c.targets c.kinds c.mask admitted.passed

  pub find_ask : FindAsk (collection c) c.kinds c.u c.numbers
  find_ask = record {
    valid = valid;
    kinded = admitted.passed.kinded;
    small = admitted.passed.small;
    few = admitted.passed.few;
    start = admitted.u_low;
    room = omega (arith, admitted.memory.numbers);
  }

  pub clear_ask : (w : List ℕ) → length w ≡ length c.numbers → ClearAsk c.n (length c.sources) w c.words
  clear_ask w q = record {
    limits = record { small = admitted.passed.small; few = admitted.passed.few };
    enough = record { numbers = omega (arith, admitted.memory.numbers); words = admitted.memory.words };
  }

  -- AFTER THE SEARCH
  pub far_refused : c.n ≤ distance c → path_refusal c ≡ no_path
  unfolding refusal_on given ◌or◌
  far_refused h = rw (pass, le-leb c.n (distance c) h)

  pub short_refused : distance c < c.n → length c.room < distance c → path_refusal c ≡ room_short
  unfolding refusal_on given ◌or◌
  short_refused h l = rw (pass, lt-leb c.n (distance c) h, lt-ltb (length c.room) (distance c) l)

  pub not_refused : distance c < c.n → distance c ≤ length c.room → path_refusal c ≡ 0
  unfolding refusal_on given ◌or◌
  not_refused h l = rw (pass, lt-leb c.n (distance c) h, le-ltb (length c.room) (distance c) l)

  module _ (room numbers₁ numbers words : List ℕ) (p : Prepared (collection c) c.u c.numbers numbers₁)
      (z : Cleared c.n (length c.sources) numbers₁ numbers c.words words) where
    zeroed : Zeroed (numbers_of c) c.numbers numbers
    zeroed = zeroed_after p.long (λ j h. p.high j (omega arith)) z.numbers_zero

    pub settled_promise : (a : Answer) → Settled (collection c) c.u c.v c.room room a → Promise c room numbers words a
    settled_promise (Ok d) s = record {
      refusal = sym (not_refused (omega (arith, s.is, s.low)) (omega (arith, s.is, s.fits)));
      gives = record { shortest = s.is; written = s.walked; numbers_left = zeroed; words_left = z.words_zero };
    }
    settled_promise (Err k) s = ⊎_elim
        (λ t. denied no_path (far_refused t.1) (λ q. omega (arith, q)) zeroed z.words_zero k t.0)
        (λ t. denied room_short (short_refused t.1 t.2) (λ q. omega (arith, q)) zeroed z.words_zero k t.0)
        s.why
      where
        denied : (j : ℕ) → path_refusal c ≡ j → (j ≡ 0 → ⊥) → Left (after_search j) (numbers_of c) c.numbers numbers → Left (after_search j) (words_needed c.n) c.words words
            → (k : Refusal) → number_of k ≡ j → Promise c room numbers words (Err k)
        denied j r o a b k q = record { refusal = q ∙ sym r; gives = rw q (record { refused = o; room_same = s.room_same; numbers_left = a; words_left = b }) }

-- refused before the search, with nothing changed
pub first_refused : (c : Call) (r : Refusal) → number_of r ≡ first_refusal c → Promise c c.room c.numbers c.words (Err r)
unfolding refusal_on
first_refused c r e =
    let l : after_search (number_of r) ≡ false = rw e (first_early c) in
    record {
      refusal = or_err r _ _ e;
      gives = record {
        refused = number_some r;
        room_same = refl;
        numbers_left = left (after_search (number_of r)) l (numbers_of c) c.numbers;
        words_left = left (after_search (number_of r)) l (words_needed c.n) c.words;
      };
    }
  where
    left : (b : Bool) → b ≡ false → (k : ℕ) (w : List ℕ) → Left b k w w
    left true q k w = let z : ◌≡◌ {A = ℕ} 0 1 = cc in absurd (omega arith)
    left false q k w = refl
