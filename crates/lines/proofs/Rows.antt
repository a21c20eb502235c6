-- Numbers found word by word are the numbers of the line.
use Rattle.std.proofs.Common.{ℕ, ◌+◌, ◌≤◌, ◌<◌, ◌≡◌, refl, sym, ◌∙◌, ap, eqb, true, false, List, [], ◌∷◌, ◌++◌, append-nil, append_assoc, length, get_or, length-append, drop_of_length-le, Option, Some, None, arith}
use Rattle.std.proofs.Math.Seq.{drop-cons}
use borrow.Author.Tests.{le-ltb, lt-ltb, eqb-true, eqb-false}
use Rattle.lines.specs.declared.numbers.Found.{Found}
use Rattle.lines.specs.Pieces.{split}
use Rattle.lines.specs.Numbers.{Content, faulty, numbers, longest_line, space, number_of, filled, words, and_then, numbers_of, content}
use Rattle.lines.specs.Answers.{found_of, shown}
use Rattle.lines.proofs.Split.{split_few}

-- numbers by how many there are
module _ (vs : List ℕ) (f : Found) (held : f ≡ found_of vs) where
  many : length vs ≡ f.count
  many = sym (ap (λ (g : Found). g.count) held)

  pub found_none : f.count ≡ 0 → vs ≡ []
  found_none h = drop_of_length-le vs {i = 0} (omega (arith, many))

  pub found_two : f.count ≡ 2 → vs ≡ get_or f.numbers 0 0 ∷ get_or f.numbers 1 0 ∷ []
  found_two h = let m = many in rw held (drop-cons vs 0 0 (omega arith) ∙ rw (drop-cons vs 1 0 (omega arith), drop_of_length-le vs {i = 2} (omega arith)))

  pub found_three : f.count ≡ 3 → vs ≡ get_or f.numbers 0 0 ∷ get_or f.numbers 1 0 ∷ get_or f.numbers 2 0 ∷ []
  found_three h = let m = many in rw held (drop-cons vs 0 0 (omega arith) ∙ rw (drop-cons vs 1 0 (omega arith), drop-cons vs 2 0 (omega arith), drop_of_length-le vs {i = 3} (omega arith)))

-- numbers before those of what follows
unfoldable pub ahead : List ℕ → Content → Content
ahead vs faulty = faulty
ahead vs (numbers ws) = numbers (vs ++ ws)

ahead_none : (c : Content) → ahead [] c ≡ c
unfolding ahead
ahead_none faulty = refl
ahead_none (numbers vs) = refl

ahead_then : (vs : List ℕ) (v : ℕ) (c : Content) → ahead vs (and_then (Some v) c) ≡ ahead (vs ++ (v ∷ [])) c
unfolding ahead and_then
ahead_then vs v faulty = refl
ahead_then vs v (numbers ws) = ap numbers (sym (append_assoc vs (v ∷ []) ws))

-- the line is read up to the words of `left`
pub record Upto (line : List ℕ) (found : Found) (left : List (List ℕ)) : Type 0 where
  pub vs : List ℕ
  pub held : found ≡ found_of vs
  pub few : length vs + length left ≤ length line
  pub rest : numbers_of (words line) ≡ ahead vs (numbers_of (filled left))

pub upto_none : (line : List ℕ) (left : List (List ℕ)) → left ≡ split space line → Upto line (found_of []) left
unfolding words
upto_none line left e = rw e (record { vs = []; held = refl; few = omega (arith, split_few space line); rest = sym (ahead_none (numbers_of (filled (split space line)))) })

module _ (line : List ℕ) (short : length line ≤ longest_line) (found : Found) (left : List (List ℕ)) (r : Upto line found left) where
  pub upto_few : found.count ≤ longest_line
  upto_few = omega (arith, ap (λ (g : Found). g.count) r.held, r.few)

  pub upto_end : left ≡ [] → Some found ≡ shown (content line)
  unfolding content shown ahead filled numbers_of
  upto_end e = rw (le-ltb _ _ short, r.rest, e, append-nil r.vs, r.held)

  module _ (w : List ℕ) (after : List (List ℕ)) (e : left ≡ w ∷ after) where
    long : length left ≡ length after + 1
    long = omega (arith, ap length e)

    -- an empty word is passed over
    pub upto_empty : eqb (length w) 0 ≡ true → Upto line found after
    unfolding filled
    upto_empty z =
        let q : w ≡ [] = drop_of_length-le w {i = 0} (omega (arith, eqb-true (length w) 0 z)) in
        record { vs = r.vs; held = r.held; few = omega (arith, r.few, long); rest = r.rest ∙ rw (e, q) }

    module _ (some : eqb (length w) 0 ≡ false) (x : Option ℕ) (told : x ≡ number_of w) where
      more : numbers_of (words line) ≡ ahead r.vs (and_then x (numbers_of (filled after)))
      unfolding filled numbers_of
      more = r.rest ∙ rw (e, told) (go w (eqb-false (length w) 0 some))
        where
          go : (u : List ℕ) → (length u ≡ 0 → ⊥) → ahead r.vs (numbers_of (filled (u ∷ after))) ≡ ahead r.vs (and_then (number_of u) (numbers_of (filled after)))
          go [] n = absurd (n refl)
          go (b ∷ u) n = refl

      pub upto_stop : x ≡ None → None ≡ shown (content line)
      unfolding content shown ahead and_then
      upto_stop q = rw (le-ltb _ _ short, more, q)

      pub upto_step : (v : ℕ) → x ≡ Some v → (found' : Found) → ((vs : List ℕ) → found ≡ found_of vs → found' ≡ found_of (vs ++ (v ∷ []))) → Upto line found' after
      upto_step v q found' added =
          record {
            vs = r.vs ++ (v ∷ []);
            held = added r.vs r.held;
            few = omega (arith, length-append r.vs (v ∷ []), r.few, long);
            rest = more ∙ rw q (ahead_then r.vs v (numbers_of (filled after)));
          }

pub row_long : (line : List ℕ) → longest_line < length line → None ≡ shown (content line)
unfolding content shown
row_long line h = rw (lt-ltb _ _ h)

-- what a line's answer says of the line
pub record Read (c : Content) (f : Found) : Type 0 where
  pub vs : List ℕ
  pub is : c ≡ numbers vs
  pub held : f ≡ found_of vs

module _ (row : Option Found) where
  pub row_faulty : (c : Content) → row ≡ shown c → row ≡ None → c ≡ faulty
  unfolding shown
  row_faulty faulty seen e = refl
  row_faulty (numbers vs) seen e = cc

  pub row_held : (c : Content) → row ≡ shown c → (f : Found) → row ≡ Some f → Read c f
  unfolding shown
  row_held faulty seen f e = cc
  row_held (numbers vs) seen f e = record { vs = vs; is = refl; held = cc }
