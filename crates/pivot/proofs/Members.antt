-- The member at place j is the one below which j members stand.
use Rattle.std.proofs.Common.{◌≡◌, ℕ, suc, ◌+◌, ◌-◌, ◌*◌, ◌/◌, ◌%◌, ◌^◌, ◌<◌, ◌≤◌, Bool, false, ◌&&◌, T, eqb, ltb, List, length, get_or, take, drop, refl, add-zero, sym, ap, ap₂, ◌∙◌, add-one, arith, lt→ltb}
use native.Mathlib.Decide.{dec_lt}
use lib.Count.{ones}
use Rattle.std.proofs.lemmas.List.{get_or-take, get_or-drop, length-take-le, length-drop}
use borrow.Author.Tests.{eq-eqb}
use Rattle.graph.specs.Limits.{words_of, most_vertices}
use Rattle.graph.specs.Numbers.{many, tally}
use Rattle.graph.specs.Pivot.{member}
use Rattle.graph.specs.Sets.{bit, members}
use Rattle.graph.proofs.Counts.{many_on}
use Rattle.graph.proofs.Pivot.{member_in}
use Rattle.graph.proofs.Sums.{tally_on, tally_add, tally_ext}
use Rattle.graph.proofs.Tests.{and_make, eq_t, cond_true, least_first}
use Rattle.sets.proofs.Sizes.{bits_many, size_many, word_tally}
use Rattle.sets.proofs.Store.{bit_lt}
use Rattle.pivot.specs.Place.{Within, From, Found}

-- a member counts one more
next : (p : ℕ → Bool) (v : ℕ) → T (p v) → many p (suc v) ≡ suc (many p v)
unfolding many
next p v t = rw (cond_true {A = ℕ} (p v) 1 0 t) (omega arith)

pub at_place : (n : ℕ) (p : ℕ → Bool) (v j : ℕ) → v < n → T (p v) → many p v ≡ j → j < many p n → v ≡ member n p j
unfolding member
at_place n p v j l t e h =
    let (a, b, d) = member_in n p j h in
    let f : ℕ → Bool = λ u. p u && eqb (many p u) j in
    let first : member n p j ≤ v = least_first n f v l (and_make (p v) _ t (eq_t (many p v) j e)) in
    elim (dec_lt (member n p j) v) as (λ _. v ≡ member n p j) [
      | yes s ↦ absurd (omega (arith, next p (member n p j) b, many_on p (suc (member n p j)) v s))
      | no s ↦ omega arith
    ]

pub bit_member : {w : List ℕ} {n j v k r : ℕ} → Within w n j → Found w n v k r → tally (bit w) v + k ≡ j → r ≡ member n (members n w) j
bit_member {w} {n} {j} {v} {k} {r} a f e =
    at_place n (members n w) r j f.low (and_make (ltb r n) (eqb (bit w r) 1) (lt→ltb r n f.low) (eq_t (bit w r) 1 f.is))
    (sym (bits_many w n r (omega (arith, f.low))) ∙ f.before ∙ e) a.low

-- one bit more
pub bits_next : (w : List ℕ) (v : ℕ) → tally (bit w) (v + 1) ≡ tally (bit w) v + bit w v
unfolding tally
bits_next w v = rw add-one

module _ {w : List ℕ} {n j : ℕ} (a : Within w n j) where
  -- where place j has not been passed, vertices are left
  before_end : (v k : ℕ) → tally (bit w) v + k ≡ j → v < n
  before_end v k e = elim (dec_lt v n) as (λ _. v < n) [
    | yes q ↦ q
    | no q ↦ absurd (omega (arith, a.low, size_many w n, tally_on (bit w) n v (omega arith)))
  ]

  -- k members stand from v on below the one sought
  pub from_at : (v k : ℕ) → tally (bit w) v + k ≡ j → From w n v k
  from_at v k e = record { small = a.small; words = a.words; here = before_end v k e; low = omega (arith, a.low, size_many w n) }

  -- so it does not lie behind the words
  pub within_words : (i k : ℕ) → length w ≤ i → tally (bit w) (i * 64) + k ≡ j → ⊥
  within_words i k h e = omega (arith, before_end (i * 64) k e, a.words)

-- the bits of some words are those from word i on
slice_bit : (w s : List ℕ) (i : ℕ) → ((k : ℕ) → k < length s → get_or s k 0 ≡ get_or w (i + k) 0) → (v : ℕ) → v < length s * 64 → bit w (i * 64 + v) ≡ bit s v
unfolding bit
slice_bit w s i e v l =
    let a : (i * 64 + v) / 64 ≡ i + v / 64 = omega arith in
    let b : (i * 64 + v) % 64 ≡ v % 64 = omega arith in
    ap₂ (λ (x y : ℕ). get_or w x 0 / 2 ^ y % 2) a b ∙ ap (λ (x : ℕ). x / 2 ^ (v % 64) % 2) (sym (e (v / 64) (omega arith)))

-- so the ones of the words from i on below e are those between
slice_tally : (w : List ℕ) (i e : ℕ) → i ≤ e → e ≤ length w → tally (bit w) (i * 64) + tally (bit (take (e - i) (drop i w))) (length (take (e - i) (drop i w)) * 64) ≡ tally (bit w) (e * 64)
slice_tally w i e h l =
    let s : List ℕ = take (e - i) (drop i w) in
    let long : length s ≡ e - i = length-take-le (e - i) (drop i w) (omega (arith, length-drop i w)) in
    let same : (k : ℕ) → k < length s → get_or s k 0 ≡ get_or w (i + k) 0 = λ k q. get_or-take (e - i) (drop i w) k 0 (omega arith) ∙ get_or-drop i w k 0 in
    let d : e * 64 ≡ i * 64 + length s * 64 = omega arith in
    rw d (omega (arith, tally_add (bit w) (i * 64) (length s * 64), tally_ext (λ v. bit w (i * 64 + v)) (bit s) (length s * 64) (slice_bit w s i same)))

-- those words are passed over, where no more ones than k
pub words_passed : (w : List ℕ) {j k o : ℕ} (i e : ℕ) → i ≤ e → e ≤ length w → o ≡ tally (bit (take (e - i) (drop i w))) (length (take (e - i) (drop i w)) * 64) → o ≤ k → tally (bit w) (i * 64) + k ≡ j → tally (bit w) (e * 64) + (k - o) ≡ j
words_passed w i e h l c f s = omega (arith, slice_tally w i e h l)

zero_bit : (w : List ℕ) (u : ℕ) → (bit w u ≡ 1 → ⊥) → bit w u ≡ 0
zero_bit w u o = let l = bit_lt w u in omega (arith, o)

-- of the vertices from u on, k members stand before the one sought
pub record Ahead (w : List ℕ) (n v rest u k : ℕ) : Type 0 where
  pub low : tally (bit w) u + k < tally (bit w) n
  pub same : tally (bit w) u + k ≡ tally (bit w) v + rest

pub ahead_found : {w : List ℕ} {n v rest u k : ℕ} → Ahead w n v rest u k → u < n → bit w u ≡ 1 → k ≡ 0 → Found w n v rest u
ahead_found a l b e = record { low = l; is = b; before = omega (arith, a.same) }

-- the ones of a word are passed over, where no more than k
pub ahead_word : {w : List ℕ} {n v rest : ℕ} (i k : ℕ) → get_or w i 0 < 2 ^ 64 → ones (get_or w i 0) ≤ k → Ahead w n v rest (i * 64) k → Ahead w n v rest ((i + 1) * 64) (k - ones (get_or w i 0))
ahead_word {w} i k h l a = record { low = omega (arith, a.low, word_tally w i h); same = omega (arith, a.same, word_tally w i h) }

module _ {w : List ℕ} {n v rest : ℕ} where
  -- vertices are left, since sought is one of them
  ahead_below : (u k : ℕ) → Ahead w n v rest u k → u < n
  ahead_below u k a = elim (dec_lt u n) as (λ _. u < n) [
    | yes q ↦ q
    | no q ↦ absurd (omega (arith, a.low, tally_on (bit w) n u (omega arith)))
  ]

  pub ahead_from : n ≤ most_vertices → length w ≡ words_of n → (u k : ℕ) → Ahead w n v rest u k → From w n u k
  ahead_from s e u k a = record { small = s; words = e; here = ahead_below u k a; low = a.low }

  -- what is found from there on is found from v on
  pub ahead_back : {u k r : ℕ} → Ahead w n v rest u k → Found w n u k r → Found w n v rest r
  ahead_back a f = record { low = f.low; is = f.is; before = f.before ∙ a.same }

  -- it does not lie behind the words
  pub ahead_end : length w ≡ words_of n → (i k : ℕ) → length w ≤ i → Ahead w n v rest (i * 64) k → ⊥
  ahead_end e i k h a = omega (arith, ahead_below (i * 64) k a)

-- a member is passed over, or what is none
pub ahead_member : {w : List ℕ} {n v rest u k : ℕ} → Ahead w n v rest u k → bit w u ≡ 1 → 0 < k → Ahead w n v rest (u + 1) (k - 1)
ahead_member {w} {u = u} a b l = record { low = omega (arith, a.low, bits_next w u); same = omega (arith, a.same, bits_next w u) }

pub ahead_other : {w : List ℕ} {n v rest u k : ℕ} → Ahead w n v rest u k → eqb (bit w u) 1 ≡ false → Ahead w n v rest (u + 1) k
ahead_other {w} {u = u} a o =
    let z : bit w u ≡ 0 = zero_bit w u (λ e. absurd (cc (o, eq-eqb (bit w u) 1 e))) in
    record { low = omega (arith, z, a.low, bits_next w u); same = omega (arith, z, a.same, bits_next w u) }

-- where as many members stand before the one sought as the bit counts, it is passed over; where fewer, it is the one
pub ahead_passed : {w : List ℕ} {n v rest u k : ℕ} → Ahead w n v rest u k → bit w u ≤ k → Ahead w n v rest (u + 1) (k - bit w u)
ahead_passed {w} {u = u} a h = record { low = omega (arith, a.low, bits_next w u); same = omega (arith, a.same, bits_next w u) }

pub ahead_here : {w : List ℕ} {n v rest u k : ℕ} → Ahead w n v rest u k → k < bit w u → Found w n v rest u
ahead_here {w} {n} {u = u} a h =
    let l : u < n = elim (dec_lt u n) as (λ _. u < n) [ yes q ↦ q | no q ↦ absurd (omega (arith, a.low, tally_on (bit w) n u (omega arith))) ] in
    ahead_found a l (omega (arith, bit_lt w u)) (omega (arith, bit_lt w u))

-- the bits of one word are those from word i on
pub word_bit : (w : List ℕ) (i b : ℕ) → i < length w → b < 64 → bit (take (i + 1 - i) (drop i w)) b ≡ bit w (i * 64 + b)
unfolding bit
word_bit w i b h l =
    let q : (i * 64 + b) / 64 ≡ i = omega arith in
    let r : (i * 64 + b) % 64 ≡ b % 64 = omega arith in
    let z : b / 64 ≡ 0 = omega arith in
    let s : i + 1 - i ≡ 1 = omega arith in
    rw (q, r, z, s, get_or-take 1 (drop i w) 0 0 (omega arith), get_or-drop i w 0 0, add-zero i) refl
