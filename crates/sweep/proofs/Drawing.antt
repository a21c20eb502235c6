-- Drawn pivots.
use Prim.Native.Nat.{ℕ, ◌+◌, ◌*◌, ◌%◌, ◌≤◌, ◌<◌}
use native.Mathlib.Omega.{arith}
use native.Mathlib.Nat.{mod-lt}
use native.Mathlib.Decide.{ℕ_discrete}
use native.Mathlib.Numerals.{add-one}
use mathlib.Core.Path.{◌≡◌, refl, sym, ap, ◌∙◌}
use mathlib.Core.Logic.{◌⊎◌, inl, inr, ⊎_elim}
use mathlib.Core.Bool.{Bool, true, false, cond}
use mathlib.Core.List.{List}
use lib.Dec.{T, eqb, eqb→eq}
use borrow.Author.Tests.{eq-eqb, ne_eqb}
use Rattle.graph.specs.Graph.{Graph, rev, edges}
use Rattle.graph.specs.Parts.{only}
use Rattle.graph.specs.Limits.{most_vertices}
use Rattle.graph.specs.Numbers.{many}
use Rattle.graph.specs.Pivot.{draw, draws, member}
use Rattle.graph.specs.Apart.{has}
use Rattle.graph.specs.Sets.{bit, members}
use Rattle.graph.proofs.Counts.{many_le}
use Rattle.graph.proofs.Pivot.{member_in}
use Rattle.graph.proofs.Sums.{tally_ext, many_tally}
use Rattle.sets.proofs.Sizes.{member_bit}
use Rattle.pivot.specs.Place.{Within}
use Rattle.pivot.proofs.Members.{at_place}
use Rattle.memory.specs.Decomposer.{col}
use Rattle.paint.specs.Colours.{paint}
use Rattle.paint.specs.Paint.{Searched}
use Rattle.split.specs.Split.{LabelAsk, Labelled}
use Rattle.split.proofs.Same.{top_le}
use Rattle.split.proofs.Splitting.{first_ask, second_ask, label_ask, l_low, split_all}
use Rattle.slices.specs.Seeds.{MarkAsk, Mark}
use Rattle.slices.specs.Slice.{CutsAsk, Done, SliceAsk}
use Rattle.slices.proofs.Slicing.{slice_start, slice_mark, slice_cuts, slice_done, slice_rest}
use Rattle.sweep.specs.Sweep.{chosen, Sweeps, unswept, taken}
use Rattle.sweep.specs.Drawn.{Empty, Marks, EraseAsk, Erased, FindAsk, FoundIn, PickAsk, Picked, DrawAsk, Drawn, RunAsk, SweptDrawn}
use Rattle.sweep.proofs.Marking.{tally_at}
use Rattle.sweep.proofs.Taking.{pivot_ask, slice_ask, take_split, take_slice, taken_held}
use Rattle.sweep.proofs.Sweeping.{SweptSoFar, sweeps_so_far}

bool_same : (a b : Bool) → ◌≡◌ {A = ℕ} (cond a 1 0) (cond b 1 0) → a ≡ b
bool_same true true e = refl
bool_same true false e = absurd (omega arith)
bool_same false true e = absurd (omega arith)
bool_same false false e = refl

many_same : (p r : ℕ → Bool) (k : ℕ) → ((v : ℕ) → v < k → p v ≡ r v) → many p k ≡ many r k
many_same p r k h = many_tally p k ∙ tally_ext (λ i. cond (p i) 1 0) (λ i. cond (r i) 1 0) k (λ i l. ap (λ (x : Bool). cond x 1 0) (h i l)) ∙ sym (many_tally r k)

-- THE SET
module _ {n b q : ℕ} {w ws : List ℕ} {left : ℕ} (z : Marks n b q w ws left) where
  pub marks_many : left ≡ many (has (col b w) q) n
  marks_many = z.size ∙ tally_ext (bit ws) (λ v. cond (has (col b w) q v) 1 0) n z.bits ∙ sym (many_tally (has (col b w) q) n)

  marks_has : (v : ℕ) → v < n → members n ws v ≡ has (col b w) q v
  marks_has v l = bool_same (members n ws v) (has (col b w) q v) (member_bit ws n v l ∙ z.bits v l)

  pub marks_within : n ≤ most_vertices → 0 < left → (s : ℕ) → Within ws n (s % left)
  marks_within small some s = record {
    small = small;
    words = z.words;
    low = omega (arith, mod-lt s some, marks_many, many_same (members n ws) (has (col b w) q) n marks_has);
  }

  -- the vertex at the place drawn is the one that kind 1 chooses
  pub marks_chosen : n ≤ most_vertices → 0 < left → (state p : ℕ) → p ≡ member n (members n ws) (draw state % left) → (p < n) × (col b w p ≡ q) × (p ≡ chosen n b w q 1 state)
  unfolding chosen
  marks_chosen small some state p e =
      let j : ℕ = draw state % left in
      let (low, is, at) = member_in n (members n ws) (draw state % left) (marks_within small some (draw state)).low in
      let r : ℕ = member n (members n ws) (draw state % left) in
      let t : T (has (col b w) q (member n (members n ws) (draw state % left))) = rw (marks_has (member n (members n ws) (draw state % left)) low) at is in
      let m : many (has (col b w) q) (member n (members n ws) (draw state % left)) ≡ draw state % left =
      sym (many_same (members n ws) (has (col b w) q) (member n (members n ws) (draw state % left)) (λ v l. marks_has v (omega arith))) ∙ at in
      let c : member n (members n ws) (draw state % left) ≡ member n (has (col b w) q) (draw state % left) =
      at_place n (has (col b w) q) (member n (members n ws) (draw state % left)) (draw state % left) low t m (omega (arith, marks_many, mod-lt (draw state) some)) in
      rw e (low, eqb→eq (col b w (member n (members n ws) (draw state % left))) q t, c ∙ ap (λ (k : ℕ). member n (has (col b w) q) (draw state % k)) marks_many)

  -- a set of no vertex
  pub marks_gone : left ≡ 0 → (v : ℕ) → v < n → col b w v ≡ q → ⊥
  marks_gone e v l c =
      let y : bit ws v ≡ 1 = z.bits v l ∙ ap (λ (x : Bool). cond x 1 0) (eq-eqb (col b w v) q c) in
      omega (arith, e, z.size, y, tally_at (bit ws) n v l)

  pub marks_empty : left ≡ 0 → Empty n ws
  marks_empty e = record { words = z.words; none = λ v l. omega (arith, e, z.size, tally_at (bit ws) n v l) }

  pub marks_few : left ≤ n
  marks_few = omega (arith, marks_many, many_le (has (col b w) q) n)

-- the same set, where nothing enters or leaves the part
marks_same : {n b q : ℕ} (w w' : List ℕ) {ws : List ℕ} {left : ℕ} → Marks n b q w ws left
    → ((v : ℕ) → v < n → (col b w' v ≡ col b w v) ⊎ ((col b w v ≡ q → ⊥) × (col b w' v ≡ q → ⊥))) → Marks n b q w' ws left
marks_same {n} {b} {q} w w' z s = record {
  words = z.words;
  bits = λ v h. z.bits v h ∙ ap (λ (x : Bool). cond x 1 0) (⊎_elim
      (λ e. ap (λ (c : ℕ). eqb c q) (sym e))
      (λ o. ne_eqb (col b w v) q o.0 ∙ sym (ne_eqb (col b w' v) q o.1)) (s v h));
  size = z.size;
}

-- A SEARCH, whose queue is taken out of the set
-- no colour becomes q
paint_away : (q q' c c' : ℕ) → (q' ≡ q → ⊥) → (c' ≡ q → ⊥) → (y : ℕ) → paint q q' c c' y ≡ q → ⊥
unfolding paint
paint_away q q' c c' o r y e = elim (ℕ_discrete y q) as (λ _. ⊥) [
  | yes i ↦ o (rw (eq-eqb y q i) at e)
  | no i ↦ elim (ℕ_discrete y c) as (λ _. ⊥) [ yes j ↦ r (rw (ne_eqb y q i, eq-eqb y c j) at e) | no j ↦ i (rw (ne_eqb y q i, ne_eqb y c j) at e) ]
]

module _ {g : Graph} {m : ℕ → ℕ} {ix b p q : ℕ} {w ws : List ℕ} {size : ℕ} (a : FindAsk g m ix b p q w ws size)
    {w₁ : List ℕ} {k seen : ℕ} (s : Searched g m b (only p) w w₁ k seen) where
  pub find_erase : EraseAsk g.n b w₁ k ws size
  find_erase = record {
    queued = record { member = λ i h. (s.member i h).0; few = s.few; small = a.start.ask.small; fits = omega (arith, a.start.ask.fits, s.kept.long) };
    words = a.marks.words;
    size = a.marks.size;
  }

  pub find_all : {ws₁ : List ℕ} {left : ℕ} → Erased g.n b w₁ k ws ws₁ left → FoundIn g m b p q w w₁ ws₁ k left
  find_all {ws₁} r = record {
    seen = seen;
    searched = s;
    marks = record {
      words = r.long ∙ a.marks.words;
      bits = λ v h. ⊎_elim
          (λ x. let (i, d, e) = s.listed v h x.0 in
          ap (bit ws₁) (sym e) ∙ r.gone i d ∙ ap (λ (y : Bool). cond y 1 0) (sym (ne_eqb (col b w₁ v) q (λ o. a.away (col b w v) (sym x.1 ∙ o)))))
          (λ x. r.else v (λ i d e. x.0 (rw e at (s.member i d).1)) ∙ a.marks.bits v h ∙ ap (λ (c : ℕ). cond (eqb c q) 1 0) (sym x.1))
          (s.each v h);
      size = r.size;
    };
  }

-- ONE PIVOT
module _ {g : Graph} {slicing b p q top : ℕ} {w ws : List ℕ} {left : ℕ} (a : PickAsk g slicing b p q top w ws left) where
  known : q < top
  known = a.take.ready.known

  pub pick_room : top ≤ 1000000
  pick_room = omega (arith, top_le a.take.ready.stage, a.take.ready.stage.tables.small)

  -- method 0: the set loses what each of its two searches has painted
  pub first_find : FindAsk g (paint q top q top) 0 b p q w ws left
  first_find = record {
    start = first_ask (pivot_ask a.take);
    away = paint_away q top q top (λ e. omega (arith, e, known)) (λ e. omega (arith, e, known));
    marks = a.marks;
  }

  module _ {w₁ ws₁ : List ℕ} {k₁ left₁ : ℕ} (f : FoundIn g (paint q top q top) b p q w w₁ ws₁ k₁ left₁) where
    pub second_find : FindAsk (rev g) (paint q (top + 1) top (top + 2)) (g.n + 1 + edges g) b p q w₁ ws₁ left₁
    second_find = record {
      start = second_ask (pivot_ask a.take) f.searched;
      away = paint_away q (top + 1) top (top + 2) (λ e. omega (arith, e, known)) (λ e. omega (arith, e, known));
      marks = f.marks;
    }

    module _ {w₂ ws₂ : List ℕ} {k₂ left₂ : ℕ} (s : FoundIn (rev g) (paint q (top + 1) top (top + 2)) b p q w₁ w₂ ws₂ k₂ left₂) where
      pub pick_label : LabelAsk g.n b w₂ k₂ (top + 2)
      pick_label = label_ask (pivot_ask a.take) f.searched s.searched

      pub pick_split : (slicing ≡ 1 → ⊥) → {w₃ : List ℕ} → Labelled g.n b w₂ k₂ (top + 2) w₃ → Picked g slicing b p q top w w₃ ws₂ left₂ (top + 2)
      pick_split o {w₃} y =
          let l : y.vertex < g.n = l_low (pivot_ask a.take) f.searched s.searched y.lowest in
          record {
            taken = take_split a.take o (split_all (pivot_ask a.take) f.searched s.searched y.lowest y.named);
            marks = marks_same w₂ w₃ s.marks (λ v h. ⊎_elim
                (λ e. inl e)
                (λ t. inr (λ e. omega (arith, e, t.0, known), λ e. omega (arith, e, t.1, l, a.take.ready.part))) (y.named.each v h));
          }

  -- method 1
  module _ (o : slicing ≡ 1) where
    sliced : SliceAsk g b p q top w
    sliced = slice_ask a.take o

    apart : 5 * g.n + 5 ≡ q → ⊥
    apart e = omega (arith, e, known, top_le a.take.ready.stage)

    pub slice_find : FindAsk g (paint q (5 * g.n + 5) q (5 * g.n + 5)) 0 b p q w ws left
    slice_find = record { start = slice_start sliced refl; away = paint_away q (5 * g.n + 5) q (5 * g.n + 5) apart apart; marks = a.marks }

    module _ {w₁ ws₁ : List ℕ} {k left₁ : ℕ} (f : FoundIn g (paint q (5 * g.n + 5) q (5 * g.n + 5)) b p q w w₁ ws₁ k left₁) where
      pub pick_mark : MarkAsk g.n b p (5 * g.n + 5) 0 w₁
      pick_mark = slice_mark sliced refl f.searched

      module _ {w₂ : List ℕ} {e : ℕ} (y : Mark g.n b p (5 * g.n + 5) 0 w₁ w₂ e) where
        pub pick_cuts : CutsAsk g b (5 * g.n + 5) top w₂
        pick_cuts = slice_cuts sliced refl f.searched y

        pub pick_slice : {w₃ : List ℕ} {t : ℕ} → Done g b (5 * g.n + 5) top w₂ w₃ t → Picked g slicing b p q top w w₃ ws₁ left₁ t
        pick_slice {w₃} d = record {
          taken = take_slice a.take o (slice_done sliced refl f.searched y d);
          marks = marks_same w₁ w₃ f.marks (slice_rest sliced refl f.searched y d);
        }

-- ONE DRAW
module _ {g : Graph} {slicing b q top : ℕ} {w ws : List ℕ} {left : ℕ} (a : DrawAsk g slicing b q top w ws left)
    (state : ℕ) {s p : ℕ} (e : s ≡ draw state) (f : p ≡ member g.n (members g.n ws) (s % left)) where
  here : (p < g.n) × (col b w p ≡ q) × (p ≡ chosen g.n b w q 1 state)
  here = marks_chosen a.marks a.ready.stage.tables.small a.some state p (f ∙ ap (λ (y : ℕ). member g.n (members g.n ws) (y % left)) e)

  pub draw_pick : PickAsk g slicing b p q top w ws left
  draw_pick = record { take = record { ready = a.ready; start = here.0; live = here.1 }; marks = a.marks }

  pub draw_done : {w' ws' : List ℕ} {left' top' : ℕ} → Picked g slicing b p q top w w' ws' left' top' → Drawn g slicing b q state top w w' ws' s left' top'
  draw_done x = record { advanced = e; vertex = p; low = here.0; live = here.1; exact = here.2; picked = x }

-- THE LOOP, after k draws
pub record Drawing (g : Graph) (slicing b q state top : ℕ) (w₀ w ws : List ℕ) (s k t left : ℕ) : Type 0 where
  pub sweeps : Sweeps g slicing b q 1 state top w₀ k t w
  pub advanced : s ≡ draws k state
  pub marks : Marks g.n b q w ws left

module _ {g : Graph} {slicing b q state top : ℕ} {w₀ ws₀ : List ℕ} {size : ℕ} (a : RunAsk g slicing b q top w₀ ws₀ size) where
  pub drawing_none : Drawing g slicing b q state top w₀ w₀ ws₀ state 0 top size
  unfolding draws
  drawing_none = record { sweeps = unswept; advanced = refl; marks = a.marks }

  module _ {w ws : List ℕ} {s k t left : ℕ} (z : Drawing g slicing b q state top w₀ w ws s k t left) where
    pub drawing_so_far : SweptSoFar g slicing b q top w₀ k t w
    drawing_so_far = sweeps_so_far a.ready z.sweeps

    -- a pivot for each vertex at most
    pub drawing_few : k + left ≤ g.n
    drawing_few = omega (arith, drawing_so_far.left, marks_many z.marks, marks_many a.marks, marks_few a.marks)

    pub drawing_ask : 0 < left → DrawAsk g slicing b q t w ws left
    drawing_ask h = record { ready = drawing_so_far.ready; marks = z.marks; some = h }

    module _ {w' ws' : List ℕ} {s' left' t' : ℕ} (d : Drawn g slicing b q s t w w' ws' s' left' t') where
      pub drawing_step : Drawing g slicing b q state top w₀ w' ws' s' (k + 1) t' left'
      unfolding draws
      drawing_step = rw (add-one k) (record {
        sweeps = taken d.vertex z.sweeps d.low d.live (d.exact ∙ ap (chosen g.n b w q 1) z.advanced) d.picked.taken;
        advanced = d.advanced ∙ ap draw z.advanced;
        marks = d.picked.marks;
      })

      pub drawing_less : left' < left
      drawing_less = omega (
        arith,
        taken_held (record { ready = drawing_so_far.ready; start = d.low; live = d.live }) d.picked.taken,
        marks_many d.picked.marks,
        marks_many z.marks,
      )

    pub drawing_all : (0 < left → ⊥) → SweptDrawn g slicing b q state top w₀ w ws s k t
    drawing_all h = let e : left ≡ 0 = omega arith in record {
      sweeps = z.sweeps;
      advanced = z.advanced;
      gone = marks_gone z.marks e;
      empty = marks_empty z.marks e;
    }
