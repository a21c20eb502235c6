-- From the beginning through the turns to the end: the promise.
use Prim.Native.Nat.{ℕ, ◌*◌, ◌≤◌, ◌<◌}
use native.Mathlib.Omega.{arith}
use native.Mathlib.Decide.{dec_lt, ℕ_discrete}
use native.Mathlib.Nat.{not-suc-le-zero}
use mathlib.Core.Path.{◌≡◌, refl, sym, ap, subst, ◌∙◌}
use mathlib.Core.Logic.{◌⊎◌, inl, inr}
use mathlib.Core.List.{List, []}
use lib.ListN.{length, get_or, replicate}
use lib.Dec.{T, eqb, ltb, leb, eqb→eq, leb→le}
use Rattle.graph.specs.Graph.{Graph, Valid, IsLabel, edges}
use Rattle.graph.specs.Numbers.{many}
use Rattle.graph.specs.Pivot.{draws, list_of}
use Rattle.graph.specs.Apart.{Course, whole, TakenApart}
use Rattle.graph.specs.Summary.{sharing, summary}
use Rattle.graph.proofs.Certificate.{right_unique}
use Rattle.memory.proofs.Memory.{zeroed_after}
use Rattle.graph.proofs.Counts.{many_le, many_mono, many_place}
use Rattle.memory.specs.Decomposer.{col, ord, own, head}
use Rattle.split.specs.State.{ring, rings}
use Rattle.split.proofs.Rings.{is_ring}
use Rattle.waiting.specs.declared.Part.{Part}
use Rattle.waiting.specs.Records.{none}
use Rattle.std.specs.declared.option.Option.TheVariants.{None}
use Rattle.graph.specs.Arrows.{SomeOf, EveryOf, arrows}
use Rattle.memory.specs.declared.layout.Layout.{Layout}
use Rattle.graph.specs.Reasons.{number_of}
use Rattle.graph.proofs.Reasons.{number_some}
use Rattle.pivot.specs.Kinds.{kind_of}
use Rattle.pivot.specs.Order.{Arranged}
use Rattle.pivot.proofs.Unique.{kind_low}
use Rattle.pivot.specs.declared.chooser.Chooser.{Chooser}
use Rattle.decompose.specs.Accept.{Named, Chosen}
use Rattle.decompose.specs.declared.accept.Choice.{Choice}
use Rattle.sweep.specs.Methods.{slicing_of}
use Rattle.machine.specs.declared.Machine.{Machine}
use Rattle.std.proofs.Common.{Result, Ok, Err}
use Rattle.graph.specs.declared.refusal.Refusal.{Refusal}
use Rattle.machine.specs.Orders.{order_of}
use Rattle.machine.specs.Aim.{aim, aimed}
use Rattle.machine.specs.Machine.{base}
use Rattle.machine.specs.Waits.{waiting_count, first_of}
use Rattle.decompose.specs.Running.{Unsliced, Running, Traced, Went}
use Rattle.decompose.specs.Turns.{DriveAsk, Ran, idle, ran, Driven}
use Rattle.decompose.specs.Begin.{layout_of, BeginAsk, Started, first_one, Begun, nothing, begun}
use Rattle.decompose.specs.Finish.{FinishAsk, Ended}
use Rattle.decompose.specs.Plain.{still, Plainly}
use Rattle.decompose.specs.Promise.{Call, collection, After, call, after, Promise}
use Rattle.machine.proofs.Waiting.{waits_same}
use Rattle.machine.proofs.Cutting.{method_low}
use Rattle.machine.proofs.Aiming.{aim_clear, no_place, stopped}
use Rattle.decompose.proofs.Accepting.{Lent, lent_passed, lent_ask, lent, all, refused_lent, refused_chosen}
use Rattle.decompose.proofs.Starting.{rings_begin}
use Rattle.decompose.proofs.Coursing.{drawn_first, course_same, apart_unlisted, apart_none}

-- the machine before its first turn
module _ {g : Graph} {kinds : List ℕ} (x : Choice) {c : Chooser} {list num wor num' wor' : List ℕ}
    (a : BeginAsk g kinds num wor) (same : kind_of x.pivots ≡ c.kind) (p : 0 < g.n) (st : Started g (kind_of x.pivots) list num wor num' wor') (ys : List Part) (l : g.n ≤ length ys) where
  pub begun_running : Running g c ys num' wor' (aimed g.n (first_one g.n x c))
  unfolding aim draws
  begun_running =
      record {
        small = a.small;
        few = a.few;
        records = l;
        memory = omega (arith, a.memory.numbers, st.long);
        cleared = omega arith;
        oldest = p;
        pending = omega arith;
        early = λ q. refl;
        zeros = λ j h. absurd (not-suc-le-zero h);
        flags = λ i h. absurd (not-suc-le-zero h);
        whole = elim (ℕ_discrete (slicing_of x.method) 0) as (λ _. (slicing_of x.method ≡ 0) ⊎ Unsliced g.n (base g) ys num' (aimed g.n (first_one g.n x c))) [
          | yes q ↦ inl q
          | no q ↦ inr (record { one = omega (arith, method_low x.method); alone = refl; whole = st.whole; made = refl })
        ];
        waits = waits_same st.waits (first_of g.n (base g) ys num' (aimed g.n (first_one g.n x c))) same_first;
        blank = st.blank;
        drawn = λ q. rings_begin g (base g) num' st.whole.colours;
        still = λ q. refl;
        most = omega arith;
        kind = refl;
        state = refl;
        aiming = refl;
      }
    where
      same_first : (i : ℕ) → i < 1 → first_of g.n (base g) ys num' (aimed g.n (first_one g.n x c)) i ≡ head g.n (base g) num' i
      same_first i h = let z : i ≡ 0 = omega arith in rw z refl

  -- the course begins with the whole
  begun_traced : Traced g (slicing_of x.method) c list ys num' (aimed g.n (first_one g.n x c))
  begun_traced =
      record {
        known = omega (arith, same, kind_low x.pivots);
        order = subst (λ (k : ℕ). Arranged g.n (list_of k list) (ord g.n (base g) num')) same st.order;
        choices = 0;
        course = whole st.whole.colours (st.whole.colours (ord g.n (base g) num' (head g.n (base g) num' 0)) (st.order.low (head g.n (base g) num' 0) (st.waits.first 0 (omega arith)).low));
        drawn = drawn_first (eqb c.kind 1);
      }

-- the drive may begin
pub begun_drive : {g : Graph} {kinds : List ℕ} {x : Choice} {c : Chooser} {list num wor num' wor' : List ℕ} {ys : List Part} {s : Machine} → BeginAsk g kinds num wor → kind_of x.pivots ≡ c.kind
    → g.n ≤ length ys → Begun g x c list num wor num' wor' s → DriveAsk g (base g) ys num' wor' s
begun_drive a e l (nothing z) = record { base = refl; ready = λ i q. absurd (no_place refl q) }
begun_drive {x = x} {ys = ys} a e l (begun p st) = record { base = refl; ready = λ i q. begun_running x a e p st ys l }

-- the lengths of lent memory stay
pub record Lengths (num wor num' wor' : List ℕ) : Type 0 where
  pub numbers : length num' ≡ length num
  pub words : length wor' ≡ length wor

begun_lengths : {g : Graph} {x : Choice} {c : Chooser} {list num wor num' wor' : List ℕ} {s : Machine} → Begun g x c list num wor num' wor' s → Lengths num wor num' wor'
begun_lengths (nothing z) = record { numbers = refl; words = refl }
begun_lengths (begun p st) = record { numbers = st.long; words = st.words_long }

ran_lengths : {g : Graph} {ys ys' : List Part} {num wor num' wor' : List ℕ} {s e : Machine} → Ran g ys num wor s ys' num' wor' e → Lengths num wor num' wor'
ran_lengths (idle z) = record { numbers = refl; words = refl }
ran_lengths (ran p r w f) = record { numbers = w.numbers_long; words = w.words_long }

pub driven_finish : {g : Graph} {kinds : List ℕ} {x : Choice} {c : Chooser} {list lab num wor num₁ wor₁ num₂ wor₂ : List ℕ} {s e : Machine} {ys ys₁ : List Part} → BeginAsk g kinds num wor → length lab ≡ g.n
    → Begun g x c list num wor num₁ wor₁ s → Driven g ys num₁ wor₁ s ys₁ num₂ wor₂ e → FinishAsk g.n (edges g) (base g) lab num₂ wor₂
driven_finish a l b d =
    let p = begun_lengths b in
    let q = ran_lengths d.run in
    record {
      label = l;
      colours = omega (arith, a.memory.numbers, p.numbers, q.numbers);
      memory = record { limits = record { small = a.small; few = a.few }; enough = record { numbers = omega (arith, a.memory.numbers, p.numbers, q.numbers); words = omega (arith, a.memory.words, p.words, q.words) } };
    }

-- nothing waits: every colour is a label
module _ {g : Graph} {c : Chooser} {ys : List Part} {num wor : List ℕ} {e : Machine} (r : Running g c ys num wor e) (done : e.next ≡ None) (valid : Valid g) where
  stops : (g.n ≤ e.cleared) × (e.pending ≤ e.given) × (e.count ≡ 0)
  stops = stopped g.n e (sym r.aiming ∙ done)

  labelled_all : (v : ℕ) → v < g.n → col (base g) num v < g.n
  labelled_all v l = elim (dec_lt (col (base g) num v) g.n) as (λ _. col (base g) num v < g.n) [
    | yes q ↦ q
    | no q ↦
        let (i, h, m) = r.waits.stage.placed.all v l in
        let t : own g.n (base g) num i ≡ col (base g) num v = ap (col (base g) num) m in
        let (j, k, x) = r.waits.all i h (omega (arith, t)) in
        absurd (omega (arith, k, stops.1, stops.2))
  ]

  ended_label : (v : ℕ) → v < g.n → IsLabel g v (col (base g) num v)
  ended_label v l = r.waits.stage.owned.right v l (labelled_all v l)

  ended_none : (j : ℕ) → j < g.n → get_or ys j none ≡ none
  ended_none j h = r.zeros j (omega (arith, stops.0)) (λ i q. absurd (omega (arith, stops.2)))

  ended_most : e.made ≤ 2 * g.n
  ended_most = omega (arith, r.most, many_le (λ v. ltb (col (base g) num v) g.n) g.n)

  -- and the course has come to its end
  ended_course : {method order : ℕ} {list : List ℕ} (lab : List ℕ) → ((v : ℕ) → v < g.n → get_or lab v 0 ≡ col (base g) num v) → order_of e.order ≡ order → (t : Traced g method c list ys num e)
      → TakenApart g method order c.kind c.state list lab t.choices
  ended_course {method} {order} {list} lab are o t =
      record {
        slicing = slicing_of e.method;
        top = e.top;
        own = col (base g) num;
        part = λ i. own g.n (base g) num (first_of g.n (base g) ys num e i);
        course = subst (λ (x : ℕ). Course g method x c.kind c.state list (slicing_of e.method) (col (base g) num) e.top 0 (λ i. own g.n (base g) num (first_of g.n (base g) ys num e i)) t.choices) o
            (course_same (sym none_left) (λ i l. refl) t.course);
        labels = are;
      }
    where
      none_left : waiting_count e ≡ 0
      none_left = omega (arith, stops.1, stops.2)

  module _ (lab : List ℕ) (long : length lab ≡ g.n) (are : (v : ℕ) → v < g.n → get_or lab v 0 ≡ col (base g) num v) where
    -- a label that two share is a ring
    shared : (l : ℕ) → l < g.n → T (leb 2 (sharing lab l)) → T (ring g.n (col (base g) num) l)
    unfolding sharing
    shared l h t =
        let two : 2 ≤ many (λ v. eqb (get_or lab v 0) l) (length lab) = leb→le 2 (sharing lab l) t in
        let (u, lu, tu, eu) = many_place (λ v. eqb (get_or lab v 0) l) (length lab) 0 (omega arith) in
        let (v, lv, tv, ev) = many_place (λ v. eqb (get_or lab v 0) l) (length lab) 1 (omega arith) in
        elim (ℕ_discrete u l) as (λ _. T (ring g.n (col (base g) num) l)) [
          | yes q ↦ of v (omega arith) (tv) (λ x. differ u v eu ev (q ∙ sym x))
          | no q ↦ of u (omega arith) tu q
        ]
      where
        differ : (u v : ℕ) → many (λ v. eqb (get_or lab v 0) l) u ≡ 0 → many (λ v. eqb (get_or lab v 0) l) v ≡ 1 → u ≡ v → ⊥
        differ u v a b q = let x = ap (many (λ v. eqb (get_or lab v 0) l)) q in omega arith

        of : (v : ℕ) → v < g.n → T (eqb (get_or lab v 0) l) → (v ≡ l → ⊥) → T (ring g.n (col (base g) num) l)
        of v lv t d =
            let e₁ : col (base g) num v ≡ l = sym (are v lv) ∙ eqb→eq (get_or lab v 0) l t in
            let s = rw e₁ at (ended_label v lv).member in
            is_ring g.n (col (base g) num) l v (sym (r.waits.stage.owned.whole v l lv s) ∙ e₁) lv d e₁

    ended_rings : (summary g.n lab).rings ≤ rings g (base g) num
    unfolding summary
    ended_rings = many_mono (λ l. leb 2 (sharing lab l)) (ring g.n (col (base g) num)) g.n shared

-- a call that is refused, for what was lent or for what was chosen
module _ {c : Call} (r : Refusal) where
  refused_met : number_of r ≡ all c → Promise c (after c.chooser c.waiting c.label c.numbers c.words) (Err r)
  refused_met e = record { refusal = e; gives = record { refused = number_some r; chooser = refl; waiting = refl; label = refl; numbers = refl; words = refl } }

  pub lent_met : number_of r ≡ lent c → Promise c (after c.chooser c.waiting c.label c.numbers c.words) (Err r)
  lent_met e = refused_met (refused_lent c r e)

  pub chosen_met : 0 ≡ lent c → Chosen c.method c.order c.chooser.kind (Err r) → Promise c (after c.chooser c.waiting c.label c.numbers c.words) (Err r)
  chosen_met z x = refused_met (refused_chosen c (Err r) z x)

-- a call that is not refused
module _ (c : Call) {x : Choice} (z : 0 ≡ lent c) (h : Named c.method c.order c.chooser.kind x) where
  abbrev g : Graph
  g = collection c

  passed : Lent c.n c.sources c.targets c.kinds (length c.label) (length c.waiting) (length c.numbers) (length c.words)
  passed = lent_passed z

  valid : Valid g
  valid = passed.valid c.mask

  ask : BeginAsk g c.kinds c.numbers c.words
  ask = lent_ask c.mask passed

  unrefused : 0 ≡ all c
  unrefused = refused_chosen c (Ok x) z h

  module _ {lab₃ num₃ wor₃ : List ℕ} where
    -- no vertex
    nothing_met : c.n ≡ 0 → Ended c.n (length c.sources) (base g) c.label c.numbers c.words lab₃ num₃ wor₃ → Promise c (after c.chooser c.waiting lab₃ num₃ wor₃) (Ok 0)
    unfolding draws summary
    nothing_met e f =
        record {
          refusal = unrefused;
          gives = record {
            label = right_unique valid lab₃ (f.copied.long ∙ passed.label) (λ v l. absurd (omega arith));
            choices = 0;
            course = apart_none c.method c.order c.chooser.kind c.chooser.state c.list lab₃ e;
            drawn = drawn_first (eqb c.chooser.kind 1);
            never = λ z. refl;
            least = λ z. omega (arith, many_le (λ l. leb 2 (sharing lab₃ l)) c.n);
            most = omega arith;
            state = refl;
            kind = refl;
            waiting = record { long = refl; front = λ j h. absurd (omega arith); rest = λ j h. refl };
            numbers = f.cleared.numbers_zero;
            words = f.cleared.words_zero;
          };
        }

    -- the machine ran
    ran_met : {num₁ wor₁ num₂ wor₂ : List ℕ} {e : Machine} {ys₂ : List Part} → Started g (kind_of x.pivots) c.list c.numbers c.words num₁ wor₁ → Running g c.chooser ys₂ num₂ wor₂ e
        → Went c.n (length c.sources) c.waiting num₁ wor₁ (aimed c.n (first_one c.n x c.chooser)) ys₂ num₂ wor₂ e → Traced g (slicing_of x.method) c.chooser c.list ys₂ num₂ e → e.next ≡ None
        → Ended c.n (length c.sources) (base g) c.label num₂ wor₂ lab₃ num₃ wor₃ → Promise c (after e.chooser ys₂ lab₃ num₃ wor₃) (Ok e.made)
    ran_met {num₂ = num₂} st r w t d f =
        let copied : (v : ℕ) → v < c.n → get_or lab₃ v 0 ≡ col (base g) num₂ v = λ v l. f.copied.each v (omega (arith, passed.label)) in
        record {
          refusal = unrefused;
          gives = record {
            label = right_unique valid lab₃ (f.copied.long ∙ passed.label) (λ v l. rw (copied v l) (ended_label r d valid v l));
            choices = t.choices;
            course = subst (λ (m : ℕ). TakenApart g m c.order c.chooser.kind c.chooser.state c.list lab₃ t.choices) h.method (ended_course r d valid lab₃ copied (ap order_of w.order ∙ h.order) t);
            drawn = t.drawn;
            never = r.still;
            least = λ z. omega (arith, r.drawn z, ended_rings r d valid lab₃ (f.copied.long ∙ passed.label) copied);
            most = ended_most r d valid;
            state = r.state;
            kind = r.kind;
            waiting = record { long = w.long; front = ended_none r d valid; rest = w.list };
            numbers = zeroed_after (w.numbers_long ∙ st.long) (λ j h. w.numbers j h ∙ st.beyond j h) f.cleared.numbers_zero;
            words = zeroed_after (w.words_long ∙ st.words_long) (λ j h. w.words j h ∙ st.words j h) f.cleared.words_zero;
          };
        }

    met : {num₁ wor₁ num₂ wor₂ : List ℕ} {s e : Machine} {ys₂ : List Part} → Begun g x c.chooser c.list c.numbers c.words num₁ wor₁ s → Ran g c.waiting num₁ wor₁ s ys₂ num₂ wor₂ e → e.next ≡ None
        → Ended c.n (length c.sources) (base g) c.label num₂ wor₂ lab₃ num₃ wor₃ → Promise c (after e.chooser ys₂ lab₃ num₃ wor₃) (Ok e.made)
    met (nothing q) (idle y) d f = nothing_met q f
    met (nothing q) (ran p r w t) d f = absurd (no_place refl p)
    met (begun q st) (idle y) d f = absurd (no_place y (aim_clear c.n (first_one c.n x c.chooser) q))
    met (begun q st) (ran p r w t) d f = ran_met st r w (t (slicing_of x.method) c.list (begun_traced x ask h.pivots q st c.waiting passed.waiting)) d f

  -- the calls of the decomposer, one after the other, on the layout of the call
  module _ {at : Layout} (e : at ≡ layout_of g) {num₁ wor₁ : List ℕ} {s : Machine} (b : Begun g x c.chooser c.list c.numbers c.words num₁ wor₁ s) where
    drive_ask : DriveAsk g (base g) c.waiting num₁ wor₁ s
    drive_ask = begun_drive ask h.pivots passed.waiting b

    pub call_drive : SomeOf at.n at.m (λ g. DriveAsk g at.base c.waiting num₁ wor₁ s)
    call_drive = subst (λ (y : Layout). SomeOf y.n y.m (λ g. DriveAsk g y.base c.waiting num₁ wor₁ s)) (sym e) (arrows g, drive_ask)

    module _ {num₂ wor₂ : List ℕ} {ys₂ : List Part} {r : Machine} (d : EveryOf at.n at.m (λ g. DriveAsk g at.base c.waiting num₁ wor₁ s → Driven g c.waiting num₁ wor₁ s ys₂ num₂ wor₂ r)) where
      driven : Driven g c.waiting num₁ wor₁ s ys₂ num₂ wor₂ r
      driven = subst (λ (y : Layout). EveryOf y.n y.m (λ g. DriveAsk g y.base c.waiting num₁ wor₁ s → Driven g c.waiting num₁ wor₁ s ys₂ num₂ wor₂ r)) e d (arrows g) drive_ask

      pub call_finish : FinishAsk at.n at.m at.base c.label num₂ wor₂
      call_finish = subst (λ (y : Layout). FinishAsk y.n y.m y.base c.label num₂ wor₂) (sym e) (driven_finish ask passed.label b driven)

      pub call_met : {lab₃ num₃ wor₃ : List ℕ} → Ended at.n at.m at.base c.label num₂ wor₂ lab₃ num₃ wor₃ → Promise c (after r.chooser ys₂ lab₃ num₃ wor₃) (Ok r.made)
      call_met {lab₃} {num₃} {wor₃} f = met b driven.run driven.done (subst (λ (y : Layout). Ended y.n y.m y.base c.label num₂ wor₂ lab₃ num₃ wor₃) e f)

-- pivot kind 0 reads no list of vertices
unlisted : {n : ℕ} {src tgt kinds : List ℕ} {mask : ℕ} {list lab num wor : List ℕ} {ys : List Part} {o : After} (a : Result ℕ Refusal) → Promise (call n src tgt kinds mask 0 0 still list ys lab num wor) o a → Promise (call n src tgt kinds mask 0 0 still [] ys lab num wor) o a
unlisted (Ok d) p =
    let f = p.gives in
    record {
      refusal = p.refusal;
      gives = record { label = f.label; choices = f.choices; course = apart_unlisted f.course; drawn = f.drawn; never = f.never; least = f.least; most = f.most; state = f.state; kind = f.kind; waiting = f.waiting; numbers = f.numbers; words = f.words };
    }
unlisted (Err r) p =
    let f = p.gives in
    record { refusal = p.refusal; gives = record { refused = f.refused; chooser = f.chooser; waiting = f.waiting; label = f.label; numbers = f.numbers; words = f.words } }

pub plainly : {n : ℕ} {src tgt kinds : List ℕ} {mask : ℕ} {list lab num wor : List ℕ} {c₂ : Chooser} {ys ys₂ : List Part} {lab₃ num₃ wor₃ : List ℕ} {a : Result ℕ Refusal}
    → ys ≡ replicate 512 none → Promise (call n src tgt kinds mask 0 0 still list ys lab num wor) (after c₂ ys₂ lab₃ num₃ wor₃) a → Plainly n src tgt kinds mask lab num wor lab₃ num₃ wor₃ a
plainly {c₂ = c₂} {ys₂ = ys₂} {a = a} q p = record { chooser = c₂; waiting = ys₂; promise = unlisted a (rw q at p) }
