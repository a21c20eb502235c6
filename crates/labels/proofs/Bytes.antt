-- Bytes put into a buffer, one after the other.
use Prim.Native.Nat.{ℕ, zero, suc, ◌+◌, ◌-◌, ◌/◌, ◌%◌, ◌^◌, ◌≤◌, ◌<◌}
use native.Mathlib.Nat.{pow-suc, one-le-pow, mul-div_cancel, add-zero}
use native.Mathlib.Numerals.{add-one}
use native.Mathlib.Omega.{arith}
use mathlib.Core.Path.{◌≡◌, refl, sym, ◌∙◌, ap}
use mathlib.Core.List.{List, [], ◌∷◌, ◌++◌, append_assoc, append-nil}
use lib.ListN.{length, get_or, take, drop, set, length-set, length-append, length-drop, drop_of_length-le}
use borrow.Rule.Slice.PartMut.{put_mid}
use Rattle.std.proofs.lemmas.Slice.{put_mid-paste}
use lib.Seq.{sets, length-sets, sets-eq, drop-cons, paste, take-length, length-take-le}
use Rattle.lines.specs.Pieces.{LF}
use Rattle.labels.specs.File.{width, digits, decimal, line, label_lines, label_file, banner}
use Rattle.labels.specs.Steps.{Measured, Written, Fits}
use Rattle.labels.proofs.Decimal.{decimal_length, digits_length}

sets_append : (vs ws l : List ℕ) (i : ℕ) → sets (sets l i vs) (i + length vs) ws ≡ sets l i (vs ++ ws)
sets_append [] ws l i = rw (add-zero i)
sets_append (a ∷ vs) ws l i =
    let e : i + suc (length vs) ≡ suc i + length vs = omega arith in
    rw e (sets_append vs ws (set l i a) (suc i))

written_length : {xs out : List ℕ} {at r : ℕ} {out' : List ℕ} → Written xs out at r out' → length out' ≡ length out
written_length {xs} {out} {at} w = ap length w.bytes ∙ length-sets out at xs

-- what is put after it
written_then : {xs ys out : List ℕ} {at r r' : ℕ} {out' out'' : List ℕ} → Written xs out at r out' → Written ys out' r r' out'' → Written (xs ++ ys) out at r' out''
written_then {xs} {ys} {out} {at} w v =
    record {
      place = omega (arith, length-append xs ys, w.place, v.place);
      bytes = v.bytes ∙ rw (w.bytes, w.place) (sets_append xs ys out at);
    }

pub written_front : {xs out : List ℕ} {r : ℕ} {out' : List ℕ} → Written xs out 0 r out' → length xs ≤ length out → out' ≡ xs ++ drop (length xs) out
written_front {xs} {out} w h =
    let z : 0 + length xs ≡ length xs = omega arith in
    let l : 0 + length xs ≤ length out = omega arith in
    w.bytes ∙ sets-eq xs out 0 l ∙ ap (λ (k : ℕ). xs ++ drop k out) z

-- what is still to be put from place i on gives the whole
pub record Putting (rest whole out₀ : List ℕ) (at i : ℕ) (out : List ℕ) : Type 0 where
  pub place : i + length rest ≡ at + length whole
  pub left : sets out i rest ≡ sets out₀ at whole
  pub long : length out ≡ length out₀

pub putting_none : (xs out : List ℕ) (at : ℕ) → Putting xs xs out at at out
putting_none xs out at = record { place = refl; left = refl; long = refl }

module _ (whole out₀ : List ℕ) (at i : ℕ) (out : List ℕ) where
  pub putting_end : Putting [] whole out₀ at i out → Written whole out₀ at i out
  putting_end p = record { place = omega (arith, p.place); bytes = p.left }

  pub putting_room : (xs ys : List ℕ) → Fits whole out₀ at → Putting (xs ++ ys) whole out₀ at i out → Fits xs out i
  putting_room xs ys f p = record { room = omega (arith, length-append xs ys, f.room, p.place, p.long) }

  -- bytes that were put are no longer to come
  pub putting_step : (xs ys : List ℕ) (r : ℕ) (out' : List ℕ) → Putting (xs ++ ys) whole out₀ at i out → Written xs out i r out' → Putting ys whole out₀ at r out'
  putting_step xs ys r out' p w =
      record {
        place = omega (arith, length-append xs ys, w.place, p.place);
        left = rw (w.bytes, w.place) (sets_append xs ys out i) ∙ p.left;
        long = written_length w ∙ p.long;
      }

  pub putting_one : (x : ℕ) (ys : List ℕ) → Putting (x ∷ ys) whole out₀ at i out → Putting ys whole out₀ at (i + 1) (set out i x)
  putting_one x ys p = record { place = omega (arith, p.place); left = rw (add-one i) p.left; long = length-set out i x ∙ p.long }

-- a copy of all the bytes at once
pub copied : (xs out : List ℕ) (at : ℕ) → Fits xs out at → (out' : List ℕ) → out' ≡ paste out at xs (length xs) → Written xs out at (at + length xs) out'
copied xs out at f out' e = record { place = refl; bytes = e ∙ rw (take-length xs) (sym (sets-eq xs out at f.room)) }

-- the digits that are still to come
pub record Digiting (x : ℕ) (out₀ : List ℕ) (at power i : ℕ) (out : List ℕ) : Type 0 where
  pub k : ℕ
  pub is : power ≡ 10 ^ k
  pub rest : Putting (digits k x) (decimal x) out₀ at i out

pub digiting_none : (x : ℕ) (out : List ℕ) (at digits power : ℕ) → Measured x digits power → Digiting x out at power at out
unfolding decimal
digiting_none x out at digits power m = record { k = width x; is = rw (← m.exact) m.above; rest = putting_none (decimal x) out at }

module _ (x : ℕ) (out₀ : List ℕ) (at power i : ℕ) (out : List ℕ) where
  step : (k : ℕ) → power ≡ 10 ^ k → Putting (digits k x) (decimal x) out₀ at i out → 1 < power → (power / 10 ≡ 10 ^ (k - 1)) × Putting (digits (k - 1) x) (decimal x) out₀ at (i + 1) (set out i (x / (power / 10) % 10 + 48))
  unfolding digits
  step zero e p h = absurd (omega arith)
  step (suc j) e p h =
      let q : suc j - 1 ≡ j = omega arith in
      let d : power / 10 ≡ 10 ^ j = ap (λ (u : ℕ). u / 10) (e ∙ pow-suc 10 j) ∙ mul-div_cancel (10 ^ j) (omega arith) in
      rw (q, d) (refl, putting_one (decimal x) out₀ at i out (x / 10 ^ j % 10 + 48) (digits j x) p)

  end : (k : ℕ) → power ≡ 10 ^ k → Putting (digits k x) (decimal x) out₀ at i out → power ≤ 1 → Written (decimal x) out₀ at i out
  unfolding digits
  end zero e p h = putting_end (decimal x) out₀ at i out p
  end (suc j) e p h = absurd (omega (arith, one-le-pow j 10 (omega arith), pow-suc 10 j))

  module _ (g : Digiting x out₀ at power i out) where
    pub digiting_step : 1 < power → Digiting x out₀ at (power / 10) (i + 1) (set out i (x / (power / 10) % 10 + 48))
    digiting_step h = let s = step g.k g.is g.rest h in record { k = g.k - 1; is = s.0; rest = s.1 }

    pub digiting_power : 1 < power → 1 ≤ power / 10
    digiting_power h = omega (arith, (step g.k g.is g.rest h).0, one-le-pow (g.k - 1) 10 (omega arith))

    pub digiting_end : power ≤ 1 → Written (decimal x) out₀ at i out
    digiting_end h = end g.k g.is g.rest h

-- the places of a number's digits
module _ (x : ℕ) (out : List ℕ) (at d power : ℕ) (f : Fits (decimal x) out at) (m : Measured x d power) where
  pub digits_end : at + d ≤ length out
  digits_end = omega (arith, f.room, decimal_length x, m.exact)

  pub digits_even : length (take (at + d - at) (drop at out)) ≡ length (decimal x)
  digits_even =
      let h : at + d - at ≤ length (drop at out) = omega (arith, length-drop at out, digits_end) in
      omega (arith, length-take-le (at + d - at) (drop at out) h, decimal_length x, m.exact)

  pub digits_put : (p : List ℕ) → p ≡ decimal x → Written (decimal x) out at (at + d) (put_mid at (at + d - at) out p)
  digits_put p e =
      let n : at + d ≡ at + length (decimal x) = omega (arith, decimal_length x, m.exact) in
      rw n (copied (decimal x) out at f (put_mid at (at + length (decimal x) - at) out p) (put_mid-paste at (at + length (decimal x) - at) out p (decimal x) (length (decimal x)) e (omega arith) refl))

-- digits into places that are as many
module _ (x : ℕ) (p₀ : List ℕ) (power i : ℕ) (p : List ℕ) (even : length p₀ ≡ length (decimal x)) (g : Digiting x p₀ 0 power i p) where
  pub digits_more : i < length p₀ → 1 < power
  digits_more h = omega (arith, g.is, go g.k (omega (arith, length-digits, g.rest.place, g.rest.long)))
    where
      length-digits : length (digits g.k x) ≡ g.k
      length-digits = digits_length g.k x

      go : (k : ℕ) → 1 ≤ k → 10 ≤ 10 ^ k
      go zero n = absurd (omega arith)
      go (suc j) n = omega (arith, one-le-pow j 10 (omega arith), pow-suc 10 j)

  pub digits_all : length p₀ ≤ i → p ≡ decimal x
  digits_all h =
      let none : g.k ≡ 0 = omega (arith, digits_length g.k x, g.rest.place, g.rest.long) in
      let last : power ≡ 1 = g.is ∙ rw none in
      let w = digiting_end x p₀ 0 power i p g (omega arith) in
      let l : length p₀ ≤ length (decimal x) = omega arith in
      written_front w (omega arith) ∙ rw (drop_of_length-le p₀ l) (append-nil (decimal x))

-- a number and LF
module _ (x : ℕ) (out : List ℕ) (at : ℕ) (f : Fits (line (decimal x)) out at) where
  pub line_digits : Fits (decimal x) out at
  line_digits = record { room = omega (arith, f.room, length-append (decimal x) (LF ∷ [])) }

  module _ (r : ℕ) (out' : List ℕ) (w : Written (decimal x) out at r out') where
    pub line_end : r < length out'
    line_end = omega (arith, f.room, length-append (decimal x) (LF ∷ []), w.place, written_length w)

    pub line_written : Written (line (decimal x)) out at (r + 1) (set out' r LF)
    line_written = written_then w (record { place = refl; bytes = refl })

-- one line and those after it
lines_cons : (label : List ℕ) (v : ℕ) → v < length label → label_lines (drop v label) ≡ line (decimal (get_or label v 0 + 1)) ++ label_lines (drop (v + 1) label)
unfolding label_lines
lines_cons label v h = rw (add-one v, drop-cons label v 0)

lines_none : (label : List ℕ) (v : ℕ) → length label ≤ v → label_lines (drop v label) ≡ []
unfolding label_lines
lines_none label v h = rw (drop_of_length-le label h)

-- the lines are counted up to v
module _ (label : List ℕ) (total v : ℕ) (so_far : total + length (label_lines (drop v label)) ≡ length (label_lines label)) where
  pub count_step : v < length label → (d power : ℕ) → Measured (get_or label v 0 + 1) d power → total + (d + 1) + length (label_lines (drop (v + 1) label)) ≡ length (label_lines label)
  count_step h d power m =
      let x = get_or label v 0 + 1 in
      omega (arith, ap length (lines_cons label v h), length-append (line (decimal x)) (label_lines (drop (v + 1) label)), length-append (decimal x) (LF ∷ []), decimal_length x, m.exact)

  pub count_end : length label ≤ v → total ≡ length (label_lines label)
  count_end h = omega (arith, ap length (lines_none label v h))

module _ (label out₀ : List ℕ) (at v i : ℕ) (out : List ℕ) (p : Putting (label_lines (drop v label)) (label_lines label) out₀ at i out) where
  module _ (h : v < length label) where
    lines_left : Putting (line (decimal (get_or label v 0 + 1)) ++ label_lines (drop (v + 1) label)) (label_lines label) out₀ at i out
    lines_left = rw (lines_cons label v h) at p

    pub lines_room : Fits (label_lines label) out₀ at → Fits (line (decimal (get_or label v 0 + 1))) out i
    lines_room f = putting_room (label_lines label) out₀ at i out (line (decimal (get_or label v 0 + 1))) (label_lines (drop (v + 1) label)) f lines_left

    pub lines_step : (r : ℕ) (out' : List ℕ) → Written (line (decimal (get_or label v 0 + 1))) out i r out' → Putting (label_lines (drop (v + 1) label)) (label_lines label) out₀ at r out'
    lines_step r out' w = putting_step (label_lines label) out₀ at i out (line (decimal (get_or label v 0 + 1))) (label_lines (drop (v + 1) label)) r out' lines_left w

  pub lines_end : length label ≤ v → Written (label_lines label) out₀ at i out
  lines_end h = putting_end (label_lines label) out₀ at i out (rw (lines_none label v h) at p)

-- the parts of the file, in the order in which they are put
file_parts : (label : List ℕ) → line banner ++ decimal (length label) ++ (32 ∷ 49 ∷ 10 ∷ []) ++ label_lines label ≡ label_file label
unfolding label_file
file_parts label = simp append_assoc

file_length : (label : List ℕ) → length (label_file label) ≡ 44 + width (length label) + 3 + length (label_lines label)
file_length label = ap length (sym (file_parts label)) ∙ simp length-append (omega (arith, decimal_length (length label)))

pub file_total : (label : List ℕ) (d power r : ℕ) → Measured (length label) d power → r ≡ length (label_lines label) → 44 + d + 3 + r ≡ length (label_file label)
file_total label d power r m e = omega (arith, file_length label, m.exact)

module _ (label out : List ℕ) (f : Fits (label_file label) out 0) where
  all : 44 + length (decimal (length label)) + 3 + length (label_lines label) ≤ length out
  all = omega (arith, f.room, file_length label, decimal_length (length label))

  pub file_banner : Fits (line banner) out 0
  file_banner = record { room = omega (arith, all) }

  module _ (r₁ : ℕ) (out₁ : List ℕ) (w₁ : Written (line banner) out 0 r₁ out₁) where
    pub file_vertices : Fits (decimal (length label)) out₁ r₁
    file_vertices = record { room = omega (arith, all, w₁.place, written_length w₁) }

    module _ (r₂ : ℕ) (out₂ : List ℕ) (w₂ : Written (decimal (length label)) out₁ r₁ r₂ out₂) where
      pub file_column : Fits (32 ∷ 49 ∷ 10 ∷ []) out₂ r₂
      file_column = record { room = omega (arith, all, w₁.place, written_length w₁, w₂.place, written_length w₂) }

      module _ (r₃ : ℕ) (out₃ : List ℕ) (w₃ : Written (32 ∷ 49 ∷ 10 ∷ []) out₂ r₂ r₃ out₃) where
        pub file_lines : Fits (label_lines label) out₃ r₃
        file_lines = record { room = omega (arith, all, w₁.place, written_length w₁, w₂.place, written_length w₂, w₃.place, written_length w₃) }

        pub file_written : (r₄ : ℕ) (out₄ : List ℕ) → Written (label_lines label) out₃ r₃ r₄ out₄ → Written (label_file label) out 0 r₄ out₄
        file_written r₄ out₄ w₄ = rw (← file_parts label) (written_then (written_then (written_then w₁ w₂) w₃) w₄)
