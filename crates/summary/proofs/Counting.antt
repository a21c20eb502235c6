-- Counting labels in blocks: what one more label, one more counter and one more block change.
use Prim.Native.Nat.{ℕ, ◌+◌, ◌-◌, ◌≤◌, ◌<◌}
use native.Mathlib.Omega.{arith}
use native.Mathlib.Decide.{ℕ_discrete}
use mathlib.Core.Path.{◌≡◌, refl, sym, ap, ◌∙◌}
use mathlib.Core.Bool.{Bool, true, false}
use mathlib.Core.List.{List}
use lib.ListN.{length, get_or, take, set, replicate, length-set, length-replicate, get_or-replicate}
use lib.Seq.{get_or-set_same, get_or-set_other, get_or-take, length-take-le}
use mir.Val.{bool_byte}
use lib.Dec.{eqb, leb}
use borrow.Author.Tests.{eq-eqb, ne_eqb}
use Rattle.graph.specs.Limits.{most_vertices}
use Rattle.graph.specs.Numbers.{many, most}
use Rattle.graph.specs.Summary.{sharing}
use Rattle.graph.proofs.Counts.{many_le}
use Rattle.graph.proofs.Ranges.{many_ext, many_add, many_next, most_ext, most_add}
use native.Mathlib.Nat.{add-zero}
use Rattle.summary.specs.declared.blocks.Totals.{Totals}
use Rattle.summary.specs.Counts.{one, Low, Added, Upto, Fresh, Counted, Folded, totals_of, joined}

-- a `bool` as a number
pub byte_is : (b : Bool) → bool_byte b ≡ one b
byte_is true = refl
byte_is false = refl

one_le : (b : Bool) → one b ≤ 1
one_le true = omega arith
one_le false = omega arith

-- how many of the first v numbers pass a test, and the next one
module _ (f : ℕ → Bool) (v n : ℕ) (so_far : n ≡ many f v) where
  pub many_room : (s : ℕ) → s ≡ one (f v) → n + s ≤ v + 1
  many_room s e = omega (arith, one_le (f v), many_le f v)

  pub many_step : (s : ℕ) → s ≡ one (f v) → n + s ≡ many f (v + 1)
  many_step s e = omega (arith, many_next f v)

-- a label outside the block changes nothing
pub added_none : (low l : ℕ) (counts : List ℕ) → ((j : ℕ) → j < length counts → l ≡ low + j → ⊥) → Added low l counts counts
added_none low l counts out =
    record { long = refl; at_each = λ j h. rw (ne_eqb l (low + j) (out j h)) (omega arith) }

-- a label inside the block changes its counter
pub added_one : (low l : ℕ) (counts : List ℕ) → low ≤ l → l - low < length counts → Added low l counts (set counts (l - low) (get_or counts (l - low) 0 + 1))
added_one low l counts h i = record { long = length-set counts (l - low) _; at_each = λ j k. go j k (ℕ_discrete j (l - low)) }
  where
    go : (j : ℕ) → j < length counts → Dec (j ≡ l - low) → get_or (set counts (l - low) (get_or counts (l - low) 0 + 1)) j 0 ≡ get_or counts j 0 + one (eqb l (low + j))
    go j k (yes e) = let q : l ≡ low + j = omega arith in rw (eq-eqb l (low + j) q, e, get_or-set_same counts (l - low) _ 0 i)
    go j k (no o) =
        let q : l ≡ low + j → ⊥ = λ r. o (omega arith) in
        rw (ne_eqb l (low + j) q, get_or-set_other counts (l - low) j _ 0 o) (omega arith)

-- counters that are made new
pub fresh_zeros : {label : List ℕ} (k : ℕ) → length label ≤ most_vertices → Fresh label (replicate k 0)
fresh_zeros k h = record { few = h; zeros = λ j i. get_or-replicate k j 0 0 (rw length-replicate at i) }

module _ {label : List ℕ} {low : ℕ} where
  pub upto_none : {counts : List ℕ} → Fresh label counts → Upto label low 0 counts
  unfolding many
  upto_none f = record { shared = f.zeros }

  pub upto_step : {k : ℕ} {counts counts' : List ℕ} → Upto label low k counts → Added low (get_or label k 0) counts counts' → Upto label low (k + 1) counts'
  upto_step {k} u a =
      record {
        shared = λ j h.
            a.at_each j (omega (arith, a.long)) ∙ omega (arith, u.shared j (omega (arith, a.long)), many_next (λ v. eqb (get_or label v 0) (low + j)) k);
      }

  pub upto_low : {k : ℕ} {counts counts₀ : List ℕ} → Fresh label counts₀ → k < length label → Upto label low k counts → Low counts
  upto_low {k} f h u j i = omega (arith, f.few, u.shared j i, many_le (λ v. eqb (get_or label v 0) (low + j)) k)

  pub upto_all : {k : ℕ} {counts : List ℕ} → length label ≤ k → k ≤ length label → Upto label low k counts → Counted label low counts
  unfolding sharing
  upto_all {k} h l u = let e : k ≡ length label = omega arith in record { shared = rw e at u.shared }

pub folded_none : {f : ℕ → ℕ} → Folded f 0 (record { rings = 0; largest = 0 })
unfolding many most
folded_none = record { rings_are = refl; largest_is = refl }

pub folded_same : {f g : ℕ → ℕ} {k : ℕ} {t : Totals} → ((j : ℕ) → j < k → f j ≡ g j) → Folded f k t → Folded g k t
folded_same {f} {g} {k} e h =
    record {
      rings_are = h.rings_are ∙ many_ext (λ j. leb 2 (f j)) (λ j. leb 2 (g j)) k (λ j i. ap (leb 2) (e j i));
      largest_is = h.largest_is ∙ most_ext f g k e;
    }

-- one number by itself
pub folded_one : (f : ℕ → ℕ) (x c : ℕ) → x ≡ f c → Folded (λ j. f (c + j)) 1 (totals_of x)
unfolding many most
folded_one f x c e =
    let q : x ≡ f (c + 0) = e ∙ ap f (sym (add-zero c)) in
    record { rings_are = rw q (omega arith); largest_is = rw q (omega arith) }

-- numbers after those that were counted before them
pub folded_join : (f : ℕ → ℕ) {low k : ℕ} {s t : Totals} → Folded f low s → Folded (λ j. f (low + j)) k t → Folded f (low + k) (joined s t)
folded_join f {low} {k} a b =
    record {
      rings_are = omega (arith, a.rings_are, b.rings_are, many_add (λ j. leb 2 (f j)) low k);
      largest_is = omega (arith, a.largest_is, b.largest_is, most_add f low k);
    }

pub folded_step : (f : ℕ → ℕ) {k : ℕ} {s : Totals} (x : ℕ) → x ≡ f k → Folded f k s → Folded f (k + 1) (joined s (totals_of x))
folded_step f {k} x e h = folded_join f h (folded_one f x k e)

pub folded_all : {f : ℕ → ℕ} {j k : ℕ} {t : Totals} → k ≤ j → j ≤ k → Folded f j t → Folded f k t
folded_all {f} {j} {k} h l a = let e : j ≡ k = omega arith in rw e at a

-- at most as many rings as numbers
pub folded_few : {f : ℕ → ℕ} {k : ℕ} {t : Totals} → Folded f k t → t.rings ≤ k
folded_few {f} {k} h = omega (arith, h.rings_are, many_le (λ j. leb 2 (f j)) k)

pub one_few : (x : ℕ) → (totals_of x).rings ≤ 1
one_few x = one_le (leb 2 x)

-- the first k counters
pub folded_front : (f : ℕ → ℕ) (counts : List ℕ) (k : ℕ) (t : Totals) → k ≤ length counts → ((j : ℕ) → j < length counts → get_or counts j 0 ≡ f j) → Folded (λ j. get_or (take k counts) j 0) (length (take k counts)) t → Folded f k t
folded_front f counts k t h each a =
    let l = length-take-le k counts h in
    folded_same (λ j i. get_or-take k counts j 0 i ∙ each j (omega arith)) (rw l at a)
