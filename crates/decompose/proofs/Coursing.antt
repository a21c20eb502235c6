-- The course of a decomposition: how a division carries it on, and what it says of each choice.
use Prim.Native.Nat.{ℕ, zero, suc, ◌+◌, ◌-◌, ◌<◌}
use native.Mathlib.Omega.{arith}
use native.Mathlib.Decide.{dec_lt, ℕ_discrete}
use native.Mathlib.Nat.{not-suc-le-zero}
use mathlib.Core.Path.{◌≡◌, refl, sym, ap, subst, ◌∙◌}
use mathlib.Core.Bool.{Bool, true, false, cond}
use mathlib.Core.Logic.{◌⊎◌, inl, inr}
use mathlib.Core.List.{List}
use lib.Dec.{eqb}
use borrow.Author.Tests.{eq-eqb, ne_eqb}
use Rattle.graph.specs.Graph.{Graph}
use Rattle.graph.specs.Pivot.{draw, draws, pivot}
use Rattle.graph.specs.Apart.{Alike, Choice, Choices, unchosen, choice, Trims, Divides, next, ListAfter, Course, whole, onward, ChoiceAt, TakenApart}
use Rattle.memory.specs.Decomposer.{own}

-- draws after draws
pub draws_more : (j k state : ℕ) → draws j (draws k state) ≡ draws (k + j) state
unfolding draws
draws_more zero k state = let e : k ≡ k + zero = omega arith in ap (λ (i : ℕ). draws i state) e
draws_more (suc j) k state = let e : suc (k + j) ≡ k + suc j = omega arith in ap draw (draws_more j k state) ∙ ap (λ (i : ℕ). draws i state) e

-- the same choices from either state and either list
abbrev pub Agree : (kind state state' : ℕ) → List ℕ → List ℕ → Type 0
Agree kind state state' list list' = (n : ℕ) (p : ℕ → Bool) (i : ℕ) → pivot n p kind (draws i state) list ≡ pivot n p kind (draws i state') list'

-- only kind 1 looks at the state, and only kind 2 at the list
pub agree_drawn : (kind k state₀ : ℕ) {made state : ℕ} (list : List ℕ) → made ≡ cond (eqb kind 1) k 0 → state ≡ draws made state₀ → Agree kind state (draws k state₀) list list
unfolding pivot
agree_drawn kind k state₀ {state = state} list e f n p i = elim (ℕ_discrete kind 1) as (λ _. pivot n p kind (draws i state) list ≡ pivot n p kind (draws i (draws k state₀)) list) [
  | yes q ↦ ap (λ (x : ℕ). pivot n p kind (draws i x) list) (f ∙ ap (λ (x : ℕ). draws x state₀) (e ∙ rw (eq-eqb kind 1 q)))
  | no q ↦ rw (ne_eqb kind 1 q)
]

pub agree_unlisted : (state : ℕ) (list list' : List ℕ) → Agree 0 state state list list'
unfolding pivot
agree_unlisted state list list' n p i = refl

-- kind 1 draws once for every choice, the others never: at the beginning, and after more choices
pub drawn_first : (t : Bool) → ◌≡◌ {A = ℕ} 0 (cond t 0 0)
drawn_first true = refl
drawn_first false = refl

pub drawn_sum : (t : Bool) (j k : ℕ) → cond t j 0 + cond t k 0 ≡ cond t (j + k) 0
drawn_sum true j k = refl
drawn_sum false j k = refl

module _ {g : Graph} {slicing q kind state state' : ℕ} {list list' : List ℕ} (e : Agree kind state state' list list') where
  choices_agree : {own : ℕ → ℕ} {top k : ℕ} {own' : ℕ → ℕ} {top' : ℕ} → Choices g slicing q kind state list own top k own' top' → Choices g slicing q kind state' list' own top k own' top'
  choices_agree unchosen = unchosen
  choices_agree (choice {k} p c x y) = choice p (choices_agree c) (record { whole = x.whole; member = x.member; exact = x.exact ∙ e _ _ k }) y

  pub divides_agree : {own own' : ℕ → ℕ} {top k top' : ℕ} → Divides g slicing q kind state list own top k own' top' → Divides g slicing q kind state' list' own top k own' top'
  divides_agree d = record { ready = d.ready; made = d.made; swept = d.swept; choices = choices_agree d.choices; end = d.end; gone = d.gone }

-- the choices before choice i from a part, and choice i
abbrev ChosenAt : Graph → (slicing q kind state : ℕ) → List ℕ → (ℕ → ℕ) → (top i : ℕ) → Type 0
ChosenAt g slicing q kind state list ready top i =
    (own : ℕ → ℕ) × (t : ℕ) × (p : ℕ) × Choices g slicing q kind state list ready top i own t × Choice g own q kind (draws i state) list p

choices_choice : {g : Graph} {slicing q kind state : ℕ} {list : List ℕ} {ready : ℕ → ℕ} {top : ℕ} {own : ℕ → ℕ} {k t : ℕ} → Choices g slicing q kind state list ready top k own t
    → (i : ℕ) → i < k → ChosenAt g slicing q kind state list ready top i
choices_choice unchosen i l = absurd (not-suc-le-zero l)
choices_choice {g} {slicing} {q} {kind} {state} {list} {ready} {top = top} (choice {k} {t} {own = own} p c x y) i l =
    elim (dec_lt i k) as (λ _. ChosenAt g slicing q kind state list ready top i) [
      | yes a ↦ choices_choice c i a
      | no a ↦ let e : k ≡ i = omega arith in subst (ChosenAt g slicing q kind state list ready top) e (own, t, p, c, x)
    ]

module _ {g : Graph} {method order kind state : ℕ} {list : List ℕ} where
  -- only the parts below c count
  parts_same : {slicing top c k : ℕ} {own part part' : ℕ → ℕ} → ((i : ℕ) → i < c → part' i ≡ part i) → Course g method order kind state list slicing own top c part k → Course g method order kind state list slicing own top c part' k
  parts_same e (whole f h) = whole f (e 0 (omega arith) ∙ h)
  parts_same e (onward c p d l) = onward c p d (record {
    front = λ i a. let (x, y) = l.front i a in (x, e i x ∙ y);
    new = λ i a b. rw (e i b) (l.new i a b);
    all = λ v a b. let (i, x, y, z) = l.all v a b in (i, x, y, e i y ∙ z);
    once = λ i j a b f. l.once i j a b (sym (e i a) ∙ f ∙ e j b);
  })

  pub course_same : {slicing top c c' k : ℕ} {own part part' : ℕ → ℕ} → c' ≡ c → ((i : ℕ) → i < c → part' i ≡ part i)
      → Course g method order kind state list slicing own top c part k → Course g method order kind state list slicing own top c' part' k
  course_same {slicing} {top} {k = k} {own} {part' = part'} q e x = subst (λ (z : ℕ). Course g method order kind state list slicing own top z part' k) (sym q) (parts_same e x)

  -- every choice of the course
  pub course_choice : {slicing top c k : ℕ} {own part : ℕ → ℕ} → Course g method order kind state list slicing own top c part k → (i : ℕ) → i < k → ChoiceAt g method order kind state list i
  course_choice (whole f h) i l = absurd (not-suc-le-zero l)
  course_choice (onward {slicing} {top} {c} {k} {own = own} {part} x p d s) i l = elim (dec_lt i k) as (λ _. ChoiceAt g method order kind state list i) [
    | yes a ↦ course_choice x i a
    | no a ↦ last (choices_choice d.choices (i - k) (omega arith)) (omega arith)
  ]
    where
      last : ChosenAt g slicing (part (next order c)) kind (draws k state) list d.ready top (i - k) → k + (i - k) ≡ i → ChoiceAt g method order kind state list i
      last (o, t, v, f, h) e =
          record {
            slicing = slicing;
            top = top;
            c = c;
            k = k;
            own₀ = own;
            part = part;
            ready = d.ready;
            j = i - k;
            own = o;
            t = t;
            vertex = v;
            course = x;
            some = p;
            made = d.made;
            choices = f;
            sum = e;
            chosen = subst (λ (z : ℕ). Choice g o (part (next order c)) kind z list v) (draws_more (i - k) k state ∙ ap (λ (z : ℕ). draws z state) e) h;
          }

-- kind 0 reads no list of vertices
course_unlisted : {g : Graph} {method order state : ℕ} {list list' : List ℕ} {slicing top c k : ℕ} {own part : ℕ → ℕ}
    → Course g method order 0 state list slicing own top c part k → Course g method order 0 state list' slicing own top c part k
course_unlisted (whole f h) = whole f h
course_unlisted {state = state} {list} {list'} (onward {k = k} c p d l) = onward (course_unlisted c) p (divides_agree (agree_unlisted (draws k state) list list') d) l

pub apart_unlisted : {g : Graph} {method order state : ℕ} {list list' label : List ℕ} {k : ℕ} → TakenApart g method order 0 state list label k → TakenApart g method order 0 state list' label k
apart_unlisted a = record { slicing = a.slicing; top = a.top; own = a.own; part = a.part; course = course_unlisted a.course; labels = a.labels }

-- with no vertex the whole is empty, and divided by no choice
pub apart_none : {g : Graph} (method order kind state : ℕ) (list label : List ℕ) → g.n ≡ 0 → TakenApart g method order kind state list label 0
apart_none {g} method order kind state list label e =
    record {
      slicing = 0;
      top = g.n + 1;
      own = λ v. g.n;
      part = λ i. g.n;
      course = onward {part = λ i. g.n} (whole (λ v l. refl) refl) (omega arith) empty after;
      labels = λ v l. absurd (omega arith);
    }
  where
    empty : Divides g method g.n kind (draws 0 state) list (λ v. g.n) (g.n + 1) 0 (λ v. g.n) (g.n + 1)
    empty =
        record {
          ready = λ v. g.n;
          made = elim (ℕ_discrete method 1) as (λ _. ((method ≡ 1 → ⊥) × Trims g g.n (λ v. g.n) (λ v. g.n)) ⊎ ((method ≡ 1) × Alike g.n (λ v. g.n) (λ v. g.n))) [
            | yes q ↦ inr (q, λ v l. refl)
            | no q ↦ inl (q, record { stays = λ v l. absurd (omega arith); goes = λ v h. absurd (omega (arith, h.0)); others = λ v l h. refl })
          ];
          swept = λ v. g.n;
          choices = unchosen;
          end = λ v l. refl;
          gone = λ v h. omega (arith, h.0);
        }

    after : ListAfter g.n order (g.n + 1) 1 (λ i. g.n) (λ v. g.n) 0 (λ i. g.n)
    after =
        record {
          front = λ i l. absurd (omega arith);
          new = λ i l h. absurd (not-suc-le-zero h);
          all = λ v l h. absurd (omega arith);
          once = λ i j l h. absurd (not-suc-le-zero l);
        }
