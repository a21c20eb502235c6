-- The invariant of the machine, from turn to turn.
use Prim.Native.Nat.{ℕ, ◌+◌, ◌-◌, ◌*◌, ◌≤◌, ◌<◌}
use native.Mathlib.Omega.{arith}
use native.Mathlib.Decide.{dec_lt, ℕ_discrete}
use mathlib.Core.Path.{◌≡◌, refl, sym, ap, subst, ◌∙◌}
use mathlib.Core.Logic.{◌⊎◌, inl, inr, ⊎_elim}
use mathlib.Core.List.{List}
use lib.ListN.{length, get_or, set, length-set}
use lib.Seq.{get_or-set_same, get_or-set_other}
use lib.Dec.{eqb, ltb}
use borrow.Author.Tests.{lt-ltb, le-ltb, eq-eqb, ne_eqb}
use Rattle.graph.specs.Graph.{Graph, edges}
use Rattle.graph.specs.Limits.{most_vertices, numbers_needed, words_needed}
use Rattle.graph.specs.Numbers.{many}
use Rattle.graph.specs.Pivot.{draws, list_of}
use Rattle.graph.specs.Apart.{next, other, onward}
use Rattle.graph.proofs.Counts.{many_le}
use Rattle.memory.specs.Decomposer.{col, own, head}
use Rattle.split.specs.State.{labelled}
use Rattle.waiting.specs.declared.Part.{Part}
use Rattle.waiting.specs.Records.{none}
use Rattle.pivot.specs.declared.chooser.Chooser.{Chooser}
use Rattle.std.specs.declared.option.Option.{Option}
use Rattle.std.specs.declared.option.Option.TheVariants.{Some, None}
use Rattle.sweep.specs.Methods.{slicing_of}
use Rattle.machine.specs.declared.Machine.{Machine}
use Rattle.machine.specs.Orders.{order_of}
use Rattle.machine.specs.Aim.{ring, aim, aimed}
use Rattle.parts.specs.Divide.{DivideAsk, Division}
use Rattle.machine.specs.Waits.{Waits, waiting_count, first_of}
use Rattle.machine.specs.Machine.{base, clearing, handing, dividing, Whole, CutAsk, StepAsk, Stepped, clears, hands, divides}
use Rattle.parts.proofs.Dividing.{division_divides}
use Rattle.decompose.specs.Running.{Unsliced, Running, Traced, Went}
use Rattle.decompose.specs.Turns.{DriveAsk, Ran, idle, ran}
use Rattle.machine.proofs.Round.{wrapped_low, wrapped_one}
use Rattle.machine.proofs.Waiting.{waits_few, waits_same, waits_divide, waits_divided, list_divided}
use Rattle.machine.proofs.Cutting.{drawn_none, drawn_one, drawn_few, drawn_most}
use Rattle.machine.proofs.Aiming.{Mode, clear, hand, take, stop, mode, aim_clear, aim_hand, aim_stop, one_place, no_place, Takes, takes}
use Rattle.decompose.proofs.Order.{order_kept}
use Rattle.decompose.proofs.Coursing.{draws_more, agree_drawn, divides_agree, course_same, drawn_sum}

-- what is left to do: vertices to label, parts to hand out, records to take, places to clear
abbrev pub togo : ℕ → ℕ → List ℕ → Machine → ℕ
togo n m num s = 200000 * (n - many (λ v. ltb (col (2 * (n + 1 + m)) num v) n) n) + 14000000000 * (slicing_of s.method) + (2 * (s.pending - s.given) + s.count + (n - s.cleared))

-- the whole that has still to be sliced, where its place is as it was
slicing_kept : {n b : ℕ} {ys ys' : List Part} {num : List ℕ} {s e : Machine} → slicing_of e.method ≡ slicing_of s.method → e.top ≡ s.top → e.made ≡ s.made → waiting_count e ≡ waiting_count s
    → first_of n b ys' num e 0 ≡ first_of n b ys num s 0 → (slicing_of s.method ≡ 0) ⊎ Unsliced n b ys num s → (slicing_of e.method ≡ 0) ⊎ Unsliced n b ys' num e
slicing_kept a b c d f (inl q) = inl (a ∙ q)
slicing_kept a b c d f (inr x) =
    inr (record { one = a ∙ x.one; alone = d ∙ x.alone; whole = record { zero = f ∙ x.whole.zero; colours = x.whole.colours; first = b ∙ x.whole.first }; made = c ∙ x.made })

-- one turn
record Next (g : Graph) (c : Chooser) (ys : List Part) (num wor : List ℕ) (s : Machine) (ys' : List Part) (num' wor' : List ℕ) (e : Machine) : Type 0 where
  run : Running g c ys' num' wor' e
  went : Went g.n (edges g) ys num wor s ys' num' wor' e
  less : togo g.n (edges g) num' e < togo g.n (edges g) num s
  trace : (method : ℕ) (list : List ℕ) → Traced g method c list ys num s → Traced g method c list ys' num' e

-- the record that the next turn takes, and the others
abbrev its : Machine → ℕ
its s = next (order_of s.order) s.count

abbrev others : Machine → ℕ → ℕ
others s = other (order_of s.order)

module _ {g : Graph} {c : Chooser} {ys : List Part} {num wor : List ℕ} {s : Machine} (r : Running g c ys num wor s) where
  count_few : waiting_count s ≤ g.n
  count_few = waits_few r.waits

  ring_low : (i : ℕ) → i < g.n → ring g.n s i < g.n
  ring_low i l = let o = r.oldest in wrapped_low g.n (s.oldest + i) (omega arith)

  ring_one : (i j : ℕ) → i < g.n → j < g.n → ring g.n s i ≡ ring g.n s j → i ≡ j
  ring_one i j = wrapped_one g.n s.oldest i j r.oldest

  first_listed : (i : ℕ) → i < s.count → first_of g.n (base g) ys num s i ≡ (get_or ys (ring g.n s i) none).first
  first_listed i l = rw (lt-ltb i s.count l)

  -- the records that wait, when one is taken
  module _ (a : g.n ≤ s.cleared) (b : s.pending ≤ s.given) (p : 0 < s.count) where
    few : s.count ≤ g.n
    few = omega (arith, count_few)

    taken : Takes g.n s (its s) (others s)
    taken = takes g.n s r.oldest few a b p

    all_listed : waiting_count s ≡ s.count
    all_listed = omega arith

    only : Waits g (base g) s.top s.count (first_of g.n (base g) ys num s) num
    only = subst (λ (k : ℕ). Waits g (base g) s.top k (first_of g.n (base g) ys num s) num) all_listed r.waits

  -- the part of the record that is taken
  module _ {place : ℕ} (busy : s.next ≡ Some place) (a : g.n ≤ s.cleared) (b : s.pending ≤ s.given) (p : 0 < s.count) where
    its_place : place ≡ ring g.n s (its s)
    its_place = one_place (sym r.aiming ∙ busy) (taken a b p).here

    its_first : first_of g.n (base g) ys num s (its s) ≡ (get_or ys place none).first
    its_first = first_listed (its s) (taken a b p).low ∙ ap (λ (j : ℕ). (get_or ys j none).first) (sym its_place)

    its_flag : (get_or ys place none).slicing ≡ slicing_of s.method
    its_flag = ap (λ (j : ℕ). (get_or ys j none).slicing) its_place ∙ r.flags (its s) (taken a b p).low

    ask : CutAsk g (base g) (get_or ys place none) s.top num wor
    ask =
        record {
          ask = subst (λ (h : ℕ). DivideAsk g (base g) h s.top num wor) its_first (waits_divide (only a b p) (taken a b p).low r.blank);
          whole = λ q. ⊎_elim (λ x. absurd (omega (arith, its_flag))) (λ x. whole x) r.whole;
        }
      where
        whole : Unsliced g.n (base g) ys num s → Whole g.n (base g) (get_or ys place none).first s.top num
        whole x =
            let e : its s ≡ 0 = omega (arith, (taken a b p).low, x.alone) in
            record { zero = sym its_first ∙ ap (first_of g.n (base g) ys num s) e ∙ x.whole.zero; colours = x.whole.colours; first = x.whole.first }

  read_low : {place : ℕ} → s.next ≡ Some place → place < g.n
  read_low {place} busy = go (mode g.n s)
    where
      is : {i : ℕ} → aim g.n s ≡ Some i → place ≡ i
      is e = one_place (sym r.aiming ∙ busy) e

      go : Mode g.n s → place < g.n
      go (clear a) = omega (arith, is (aim_clear g.n s a))
      go (hand a b) = omega (arith, is (aim_hand g.n s a b), ring_low s.count (omega (arith, count_few)))
      go (take a b p) = omega (arith, is (taken a b p).here, ring_low (its s) (omega (arith, (taken a b p).low, count_few)))
      go (stop a b p) = absurd (no_place (aim_stop g.n s a b p) (sym r.aiming ∙ busy))

  running_ask : {place : ℕ} → s.next ≡ Some place → StepAsk g (base g) (get_or ys place none) s num wor
  running_ask busy =
      record {
        small = r.small;
        few = r.few;
        fits = omega (arith, r.memory);
        cleared = r.cleared;
        oldest = r.oldest;
        count = omega (arith, count_few);
        pending = r.pending;
        room = λ l. omega (arith, count_few);
        made = omega (arith, r.most, many_le (λ v. ltb (col (base g) num v) g.n) g.n);
        part = λ a b. (some a b, ask busy a b (some a b));
      }
    where
      some : g.n ≤ s.cleared → s.pending ≤ s.given → 0 < s.count
      some a b = elim (ℕ_discrete s.count 0) as (λ _. 0 < s.count) [ yes q ↦ absurd (no_place (aim_stop g.n s a b q) (sym r.aiming ∙ busy)) | no q ↦ omega arith ]

  module _ {place : ℕ} (busy : s.next ≡ Some place) where
    -- a record is put where the turn reads, and the memory beyond what is needed stays
    went_put : {num' wor' : List ℕ} {e : Machine} (p : Part) → e.order ≡ s.order → length num' ≡ length num → ((j : ℕ) → numbers_needed g.n (edges g) ≤ j → get_or num' j 0 ≡ get_or num j 0)
        → length wor' ≡ length wor → ((j : ℕ) → words_needed g.n ≤ j → get_or wor' j 0 ≡ get_or wor j 0) → Went g.n (edges g) ys num wor s (set ys place p) num' wor' e
    went_put p o nl n wl w =
        record { long = length-set ys place p; list = λ j h. get_or-set_other ys place j p none (λ e. omega (arith, read_low busy)); numbers_long = nl; numbers = n; words_long = wl; words = w; order = o }

    -- a record is cleared
    module _ (l : s.cleared < g.n) where
      there₁ : place ≡ s.cleared
      there₁ = one_place (sym r.aiming ∙ busy) (aim_clear g.n s l)

      empty₁ : s.count ≡ 0
      empty₁ = r.early l

      same₁ : (i : ℕ) → first_of g.n (base g) (set ys place none) num (aimed g.n (clearing s)) i ≡ first_of g.n (base g) ys num s i
      same₁ i = rw (le-ltb i s.count (omega (arith, empty₁)))

      cleared_run : Running g c (set ys place none) num wor (aimed g.n (clearing s))
      unfolding aim
      cleared_run =
          record {
            small = r.small;
            few = r.few;
            records = omega (arith, r.records, length-set ys place none);
            memory = r.memory;
            cleared = omega arith;
            oldest = r.oldest;
            pending = r.pending;
            early = λ q. empty₁;
            zeros = λ j a b. elim (ℕ_discrete j place) as (λ _. get_or (set ys place none) j none ≡ none) [
              | yes e ↦ rw e (get_or-set_same ys place none none (omega (arith, read_low busy, r.records)))
              | no e ↦ get_or-set_other ys place j none none e ∙ r.zeros j (omega (arith, there₁)) (λ i q. absurd (omega (arith, empty₁)))
            ];
            flags = λ i q. absurd (omega (arith, empty₁));
            whole = slicing_kept refl refl refl refl (same₁ 0) r.whole;
            waits = waits_same r.waits (first_of g.n (base g) (set ys place none) num (aimed g.n (clearing s))) (λ i q. same₁ i);
            blank = r.blank;
            drawn = r.drawn;
            still = r.still;
            most = r.most;
            kind = r.kind;
            state = r.state;
            aiming = refl;
          }

      cleared_traced : (method : ℕ) (list : List ℕ) → Traced g method c list ys num s → Traced g method c list (set ys place none) num (aimed g.n (clearing s))
      cleared_traced method list x = record { known = x.known; order = x.order; choices = x.choices; course = course_same refl (λ i l. ap (own g.n (base g) num) (same₁ i)) x.course; drawn = x.drawn }

      cleared_less : togo g.n (edges g) num (aimed g.n (clearing s)) < togo g.n (edges g) num s
      cleared_less = omega arith

    -- a pending part is handed out
    module _ (a : g.n ≤ s.cleared) (b : s.given < s.pending) where
      abbrev child : Part
      child = record { first = head g.n (base g) num s.given; slicing = slicing_of s.method }

      abbrev e₂ : Machine
      e₂ = aimed g.n (handing g.n (base g) num s)

      free₂ : s.count < g.n
      free₂ = omega (arith, count_few)

      there₂ : place ≡ ring g.n s s.count
      there₂ = one_place (sym r.aiming ∙ busy) (aim_hand g.n s a b)

      else₂ : (i : ℕ) → i < s.count → get_or (set ys place child) (ring g.n s i) none ≡ get_or ys (ring g.n s i) none
      else₂ i l = get_or-set_other ys place (ring g.n s i) child none (λ q. omega (arith, ring_one i s.count (omega (arith, free₂)) free₂ (q ∙ there₂)))

      here₂ : get_or (set ys place child) (ring g.n s s.count) none ≡ child
      here₂ = ap (λ (j : ℕ). get_or (set ys place child) j none) (sym there₂) ∙ get_or-set_same ys place child none (omega (arith, read_low busy, r.records))

      total₂ : waiting_count e₂ ≡ waiting_count s
      total₂ = omega arith

      same₂ : (i : ℕ) → first_of g.n (base g) (set ys place child) num e₂ i ≡ first_of g.n (base g) ys num s i
      same₂ i = elim (dec_lt i s.count) as (λ _. first_of g.n (base g) (set ys place child) num e₂ i ≡ first_of g.n (base g) ys num s i) [
        | yes q ↦ rw (lt-ltb i (s.count + 1) (omega arith), lt-ltb i s.count q) (ap (λ (p : Part). p.first) (else₂ i q))
        | no q ↦ elim (ℕ_discrete i s.count) as (λ _. first_of g.n (base g) (set ys place child) num e₂ i ≡ first_of g.n (base g) ys num s i) [
          | yes w ↦
              rw (w, lt-ltb s.count (s.count + 1) (omega arith), le-ltb s.count s.count (omega arith))
              (ap (λ (p : Part). p.first) here₂ ∙ ap (head g.n (base g) num) (omega arith))
          | no w ↦ rw (le-ltb i (s.count + 1) (omega arith), le-ltb i s.count (omega arith)) (ap (head g.n (base g) num) (omega arith))
        ]
      ]

      handed_run : Running g c (set ys place child) num wor e₂
      unfolding aim
      handed_run =
          record {
            small = r.small;
            few = r.few;
            records = omega (arith, r.records, length-set ys place child);
            memory = r.memory;
            cleared = r.cleared;
            oldest = r.oldest;
            pending = r.pending;
            early = λ q. absurd (omega arith);
            zeros = λ j h q. elim (ℕ_discrete j place) as (λ _. get_or (set ys place child) j none ≡ none) [
              | yes w ↦ absurd (q s.count (omega arith) (sym there₂ ∙ sym w))
              | no w ↦ get_or-set_other ys place j child none w ∙ r.zeros j h (λ i l. q i (omega arith))
            ];
            flags = λ i l. elim (dec_lt i s.count) as (λ _. (get_or (set ys place child) (ring g.n s i) none).slicing ≡ slicing_of s.method) [
              | yes q ↦ ap (λ (p : Part). p.slicing) (else₂ i q) ∙ r.flags i q
              | no q ↦ let w : i ≡ s.count = omega arith in ap (λ (j : ℕ). (get_or (set ys place child) (ring g.n s j) none).slicing) w ∙ ap (λ (p : Part). p.slicing) here₂
            ];
            whole = slicing_kept refl refl refl total₂ (same₂ 0) r.whole;
            waits = subst (λ (k : ℕ). Waits g (base g) s.top k (first_of g.n (base g) (set ys place child) num e₂) num) (sym total₂) (waits_same r.waits (first_of g.n (base g) (set ys place child) num e₂) (λ i l. same₂ i));
            blank = r.blank;
            drawn = r.drawn;
            still = r.still;
            most = r.most;
            kind = r.kind;
            state = r.state;
            aiming = refl;
          }

      handed_traced : (method : ℕ) (list : List ℕ) → Traced g method c list ys num s → Traced g method c list (set ys place child) num e₂
      handed_traced method list x = record { known = x.known; order = x.order; choices = x.choices; course = course_same total₂ (λ i l. ap (own g.n (base g) num) (same₂ i)) x.course; drawn = x.drawn }

      handed_less : togo g.n (edges g) num e₂ < togo g.n (edges g) num s
      handed_less = omega arith

    -- the part of a record is divided
    module _ (a : g.n ≤ s.cleared) (b : s.pending ≤ s.given) (p : 0 < s.count) {num' wor' : List ℕ} {state k top children : ℕ}
        (v : Division g (slicing_of s.method) (base g) c.kind s.chooser.state (first_of g.n (base g) ys num s (its s)) s.top num wor num' wor' state k top children) where
      abbrev e₃ : Machine
      e₃ = aimed g.n (dividing g.n s state k top children)

      taking : Takes g.n s (its s) (others s)
      taking = taken a b p

      count_low : s.count ≤ g.n
      count_low = few a b p

      there₃ : place ≡ ring g.n s (its s)
      there₃ = one_place (sym r.aiming ∙ busy) taking.here

      moved : (i : ℕ) → i + 1 < s.count → ring g.n e₃ i ≡ ring g.n s (others s i)
      moved i = taking.moved state k top children i

      -- the other records are where they were
      else₃ : (i : ℕ) → i + 1 < s.count → get_or (set ys place none) (ring g.n e₃ i) none ≡ get_or ys (ring g.n s (others s i)) none
      else₃ i l =
          ap (λ (j : ℕ). get_or (set ys place none) j none) (moved i l)
          ∙ get_or-set_other ys place (ring g.n s (others s i)) none none
          (λ q. taking.without.other i l (ring_one (others s i) (its s) (omega (arith, taking.without.low i l, count_low)) (omega (arith, taking.low, count_low)) (q ∙ there₃)))

      front₃ : (i : ℕ) → i + 1 < s.count → first_of g.n (base g) (set ys place none) num' e₃ i ≡ first_of g.n (base g) ys num s (others s i)
      front₃ i l = rw (lt-ltb i (s.count - 1) (omega arith), lt-ltb (others s i) s.count (taking.without.low i l)) (ap (λ (x : Part). x.first) (else₃ i l))

      back₃ : (j : ℕ) → j < children → first_of g.n (base g) (set ys place none) num' e₃ (s.count - 1 + j) ≡ head g.n (base g) num' j
      back₃ j l = rw (le-ltb (s.count - 1 + j) (s.count - 1) (omega arith)) (ap (head g.n (base g) num') (omega arith))

      -- the whole is divided before any draw
      unsliced : slicing_of s.method ≡ 1 → s.made ≡ 0
      unsliced q = ⊎_elim (λ x. absurd (omega arith)) (λ x. x.made) r.whole

      bounded : s.made + k ≤ labelled g (base g) num' + g.n
      bounded = elim (ℕ_discrete (slicing_of s.method) 1) as (λ _. s.made + k ≤ labelled g (base g) num' + g.n) [
        | yes q ↦ omega (arith, unsliced q, drawn_most v)
        | no q ↦ omega (arith, r.most, v.few q, drawn_few v)
      ]

      alone : slicing_of s.method ≡ 0 → (i : ℕ) → i + 1 < s.count → (get_or (set ys place none) (ring g.n e₃ i) none).slicing ≡ 0
      alone q i l = ap (λ (x : Part). x.slicing) (else₃ i l) ∙ r.flags (others s i) (taking.without.low i l) ∙ q

      divided_run : Running g c (set ys place none) num' wor' e₃
      unfolding aim
      divided_run =
          record {
            small = r.small;
            few = r.few;
            records = omega (arith, r.records, length-set ys place none);
            memory = omega (arith, r.memory, v.handed.long);
            cleared = r.cleared;
            oldest = older;
            pending = v.handed.most;
            early = λ q. absurd (omega arith);
            zeros = zeros;
            flags = λ i l. ⊎_elim (λ q. alone q i (omega arith)) (λ x. absurd (omega (arith, x.alone))) r.whole;
            whole = inl refl;
            waits = waits_divided (only a b p) (its s) taking.low (others s) taking.without v.handed (waiting_count e₃) (omega arith) (first_of g.n (base g) (set ys place none) num' e₃) front₃ back₃;
            blank = v.handed.blank;
            drawn = λ q. omega (arith, r.drawn q, v.many, drawn_one v q);
            still = λ q. omega (arith, r.still q, drawn_none v q);
            most = bounded;
            kind = r.kind;
            state = v.advanced ∙ ap (draws k) r.state ∙ draws_more k s.made c.state;
            aiming = refl;
          }
        where
          older : e₃.oldest < g.n
          older = elim (ℕ_discrete (order_of s.order) 0) as (λ _. e₃.oldest < g.n) [
            | yes q ↦ rw (eq-eqb (order_of s.order) 0 q) r.oldest
            | no q ↦ rw (ne_eqb (order_of s.order) 0 q) (let o = r.oldest in wrapped_low g.n (s.oldest + 1) (omega (arith, p, count_low)))
          ]

          zeros : (j : ℕ) → j < s.cleared → ((i : ℕ) → i < s.count - 1 → ring g.n e₃ i ≡ j → ⊥) → get_or (set ys place none) j none ≡ none
          zeros j h q = elim (ℕ_discrete j place) as (λ _. get_or (set ys place none) j none ≡ none) [
            | yes w ↦ rw w (get_or-set_same ys place none none (omega (arith, read_low busy, r.records)))
            | no w ↦ get_or-set_other ys place j none none w ∙ r.zeros j h (λ i l x.
                let (i', y, z) = taking.without.all i l (λ u. w (sym x ∙ ap (ring g.n s) u ∙ sym there₃)) in
                q i' (omega arith) (moved i' y ∙ ap (ring g.n s) z ∙ x))
          ]

      divided_less : togo g.n (edges g) num' e₃ < togo g.n (edges g) num s
      divided_less = elim (ℕ_discrete (slicing_of s.method) 1) as (λ _. togo g.n (edges g) num' e₃ < togo g.n (edges g) num s) [ yes q ↦ sliced q | no q ↦ more (v.some q) ]
        where
          sliced : slicing_of s.method ≡ 1 → togo g.n (edges g) num' e₃ < togo g.n (edges g) num s
          sliced q = omega (arith, v.handed.most, r.small, count_low)

          more : labelled g (base g) num < labelled g (base g) num' → togo g.n (edges g) num' e₃ < togo g.n (edges g) num s
          more q = omega (arith, v.handed.most, r.small, count_low, many_le (λ w. ltb (col (base g) num' w) g.n) g.n)

      -- the course goes on by the pivots of the division
      divided_traced : (method : ℕ) (list : List ℕ) → Traced g method c list ys num s → Traced g method c list (set ys place none) num' e₃
      divided_traced method list x =
          record {
            known = x.known;
            order = order_kept (list_of c.kind list) v.handed x.order;
            choices = x.choices + v.pivots;
            course = onward (course_same (sym (all_listed a b p)) (λ i l. refl) x.course) p
                (divides_agree (agree_drawn c.kind x.choices c.state list x.drawn r.state) (division_divides list r.waits.stage v x.order x.known))
                (list_divided (only a b p) (its s) taking.low (others s) taking.without v.handed (waiting_count e₃) (omega arith) (first_of g.n (base g) (set ys place none) num' e₃) front₃ back₃ (order_of s.order) (λ i. refl));
            drawn = omega (arith, x.drawn, v.drawn, drawn_sum (eqb c.kind 1) x.choices v.pivots);
          }

      divided : Next g c ys num wor s (set ys place none) num' wor' e₃
      divided =
          record {
            run = divided_run;
            went = went_put none refl v.handed.long (λ j h. v.handed.high j (omega arith)) v.handed.words_long (λ j h. v.handed.beyond j (omega arith));
            less = divided_less;
            trace = divided_traced;
          }

went_none : {n m : ℕ} {ys : List Part} {num wor : List ℕ} {s : Machine} → Went n m ys num wor s ys num wor s
went_none = record { long = refl; list = λ j h. refl; numbers_long = refl; numbers = λ j h. refl; words_long = refl; words = λ j h. refl; order = refl }

went_more : {n m : ℕ} {ys ys₁ ys₂ : List Part} {num num₁ num₂ wor wor₁ wor₂ : List ℕ} {s s₁ s₂ : Machine}
    → Went n m ys num wor s ys₁ num₁ wor₁ s₁ → Went n m ys₁ num₁ wor₁ s₁ ys₂ num₂ wor₂ s₂ → Went n m ys num wor s ys₂ num₂ wor₂ s₂
went_more f h =
    record {
      long = h.long ∙ f.long;
      list = λ j l. h.list j l ∙ f.list j l;
      numbers_long = h.numbers_long ∙ f.numbers_long;
      numbers = λ j l. h.numbers j l ∙ f.numbers j l;
      words_long = h.words_long ∙ f.words_long;
      words = λ j l. h.words j l ∙ f.words j l;
      order = h.order ∙ f.order;
    }

module _ {g : Graph} {c : Chooser} {ys : List Part} {num wor : List ℕ} {s : Machine} (r : Running g c ys num wor s) {place : ℕ} (busy : s.next ≡ Some place) where
  stepped : {num' wor' : List ℕ} {e : Machine} → Stepped g (base g) (get_or ys place none) s num wor num' wor' e → Next g c ys num wor s (set ys place e.part) num' wor' e
  stepped (clears l) =
      record { run = cleared_run r busy l; went = went_put r busy none refl refl (λ j h. refl) refl (λ j h. refl); less = cleared_less r busy l; trace = cleared_traced r busy l }
  stepped (hands a b) =
      record { run = handed_run r busy a b; went = went_put r busy (child r busy a b) refl refl (λ j h. refl) refl (λ j h. refl); less = handed_less r busy a b; trace = handed_traced r busy a b }
  stepped {num'} {wor'} (divides {state = state} {k} {top} {children} a b v) = let p = ((running_ask r busy).part a b).0 in divided r busy a b p (as_listed p)
    where
      -- the record is the one whose turn it is
      as_listed : 0 < s.count → Division g (slicing_of s.method) (base g) c.kind s.chooser.state (first_of g.n (base g) ys num s (its s)) s.top num wor num' wor' state k top children
      as_listed p =
          subst (λ (h : ℕ). Division g (slicing_of s.method) (base g) c.kind s.chooser.state h s.top num wor num' wor' state k top children) (sym (its_first r busy a b p))
          (subst (λ (f : ℕ). Division g f (base g) c.kind s.chooser.state (get_or ys place none).first s.top num wor num' wor' state k top children) (its_flag r busy a b p)
          (subst (λ (i : ℕ). Division g (get_or ys place none).slicing (base g) i s.chooser.state (get_or ys place none).first s.top num wor num' wor' state k top children) r.kind v))

module _ {g : Graph} {ys : List Part} {num wor : List ℕ} {s : Machine} where
  pub driving_begin : {b : ℕ} → DriveAsk g b ys num wor s → Ran g ys num wor s ys num wor s
  driving_begin a = of s.next refl
    where
      of : (o : Option ℕ) → s.next ≡ o → Ran g ys num wor s ys num wor s
      of None z = idle z
      of (Some i) busy = ran busy (a.ready i busy) went_none (λ method list x. x)

  -- where the next turn reads, and what its step asks
  pub driving_low : {ys' : List Part} {num' wor' : List ℕ} {e : Machine} {place : ℕ} → Ran g ys num wor s ys' num' wor' e → e.next ≡ Some place → place < most_vertices
  driving_low (idle z) busy = absurd (no_place z busy)
  driving_low (ran p r w f) busy = omega (arith, read_low r busy, r.small)

  pub driving_read : {ys' : List Part} {num' wor' : List ℕ} {e : Machine} {place : ℕ} → Ran g ys num wor s ys' num' wor' e → e.next ≡ Some place → place < length ys'
  driving_read (idle z) busy = absurd (no_place z busy)
  driving_read (ran p r w f) busy = omega (arith, read_low r busy, r.records)

  pub driving_ask : {ys' : List Part} {num' wor' : List ℕ} {e : Machine} {place : ℕ} → Ran g ys num wor s ys' num' wor' e → e.next ≡ Some place → StepAsk g (base g) (get_or ys' place none) e num' wor'
  driving_ask (idle z) busy = absurd (no_place z busy)
  driving_ask (ran p r w f) busy = running_ask r busy

  module _ {num₂ wor₂ : List ℕ} {e₂ : Machine} where
    pub driving_turn : {ys' : List Part} {num' wor' : List ℕ} {e : Machine} {place : ℕ} → Ran g ys num wor s ys' num' wor' e → e.next ≡ Some place → Stepped g (base g) (get_or ys' place none) e num' wor' num₂ wor₂ e₂
        → Ran g ys num wor s (set ys' place e₂.part) num₂ wor₂ e₂
    driving_turn (idle z) busy t = absurd (no_place z busy)
    driving_turn (ran p r w f) busy t = let x = stepped r busy t in ran p x.run (went_more w x.went) (λ method list y. x.trace method list (f method list y))

    pub driving_less : {ys' : List Part} {num' wor' : List ℕ} {e : Machine} {place : ℕ} → Ran g ys num wor s ys' num' wor' e → e.next ≡ Some place → Stepped g (base g) (get_or ys' place none) e num' wor' num₂ wor₂ e₂
        → togo g.n (edges g) num₂ e₂ < togo g.n (edges g) num' e
    driving_less (idle z) busy t = absurd (no_place z busy)
    driving_less (ran p r w f) busy t = (stepped r busy t).less
