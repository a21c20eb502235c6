-- The answer as one signed number.
use Prim.Native.Nat.{ℕ, zero, suc, ◌≤◌, ◌<◌, ◌^◌}
use native.Mathlib.Omega.{arith}
use mathlib.Core.Path.{◌≡◌, refl, sym, ◌∙◌}
use mathlib.Core.Bool.{Bool, true, false, cond}
use mathlib.Core.List.{List}
use lib.Dec.{ltb}
use lib.IntN.{ℤ, pos, neg_ℤ, ◌-ℤ◌, +ℤ_idl}
use lib.ListN.{length}
use mir.Syntax.{w64}
use mir.Val.{SFits, to_z, of_z}
use mir.Facts.{to_z_pos, to_z-of_z}
use borrow.Author.Tests.{ltb-false}
use Rattle.std.proofs.Common.{Ok, Err, Result as Answer, ap}
use Rattle.graph.specs.declared.refusal.Refusal.{Refusal}
use Rattle.graph.specs.Reasons.{number_of}
use Rattle.text.specs.Market.{Result, refused, done, as_reading, market}
use Rattle.entry.specs.LabelText.{entry_limits, in_room, file_of, outcome, answer_to, returned, Answered, Promise}

minus : (k : ℕ) → pos 0 -ℤ pos k ≡ neg_ℤ (pos k)
minus k = +ℤ_idl (neg_ℤ (pos k))

-- minus a number of 32 bits fits 64
pub minus_fits : (k : ℕ) → k < 2 ^ 32 → SFits w64 (pos 0 -ℤ pos k)
minus_fits k h = rw (minus k) (fits k h)
  where
    fits : (k : ℕ) → k < 2 ^ 32 → SFits w64 (neg_ℤ (pos k))
    fits zero h = record { sfits = omega arith }
    fits (suc k) h = record { sfits = omega arith }

answer_refused : (x : Result (List ℕ)) (k : ℕ) → refused k ≡ answer_to x → returned x ≡ neg_ℤ (pos k)
unfolding answer_to returned
answer_refused (refused j) k e = let q : j ≡ k = cc in rw q
answer_refused (done b) k e = cc

answer_done : (x : Result (List ℕ)) (n : ℕ) → done n ≡ answer_to x → returned x ≡ pos n
unfolding answer_to returned
answer_done (refused j) n e = cc
answer_done (done b) n e = let q : length b ≡ n = cc in rw q

-- what is written has room
room_done : (room n : ℕ) (x : Result (List ℕ)) → done n ≡ answer_to (in_room room x) → n ≤ room
unfolding in_room answer_to
room_done room n (refused j) e = cc
room_done room n (done b) e = go (ltb room (length b)) refl e
  where
    go : (t : Bool) → ltb room (length b) ≡ t → done n ≡ answer_to (cond t (refused 12) (done b)) → n ≤ room
    go true p q = cc
    go false p q = let h : n ≡ length b = cc in omega (arith, ltb-false room (length b) p)

module _ (text out : List ℕ) (a : Answer ℕ Refusal) (out' : List ℕ) (p : Answered text out a out') where
  pub return_refused : (r : Refusal) (k : ℕ) (z : ℤ) → k ≡ number_of r → z ≡ pos k → k < 2 ^ 32 → a ≡ Err r → Promise text out (to_z w64 (of_z w64 (pos 0 -ℤ to_z w64 (of_z w64 z)))) out'
  return_refused r k z number as_z h e =
      let f : SFits w64 z = rw as_z (record { sfits = omega arith }) in
      let q : to_z w64 (of_z w64 z) ≡ pos k = to_z-of_z f ∙ as_z in
      record {
        returns = rw q (to_z-of_z (minus_fits k h) ∙ minus k) ∙ sym (answer_refused (outcome text out) k (ap refused number ∙ ap as_reading (sym e) ∙ p.answers));
        out_after = p.out_after;
      }

  pub return_room : (n : ℕ) → a ≡ Ok n → n ≤ length out
  unfolding outcome
  return_room n e = room_done (length out) n (file_of (market entry_limits text)) (ap as_reading (sym e) ∙ p.answers)

  pub return_done : (n : ℕ) → n < 2 ^ 63 → a ≡ Ok n → Promise text out (to_z w64 n) out'
  return_done n h e = record { returns = to_z_pos w64 h ∙ sym (answer_done (outcome text out) n (ap as_reading (sym e) ∙ p.answers)); out_after = p.out_after }
