-- A run, a root, all roots: the search begins with one vertex on the stack and ends with none, and its steps are counted.
use Prim.Native.Nat.{ℕ, zero, suc, ◌+◌, ◌*◌, ◌≤◌, ◌<◌}
use native.Mathlib.Omega.{arith}
use native.Mathlib.Decide.{ℕ_discrete, dec_lt}
use mathlib.Core.Path.{◌≡◌, refl, sym, ap, ◌∙◌}
use mathlib.Core.Logic.{by_cases}
use mathlib.Core.List.{List}
use lib.ListN.{length, get_or, set, length-set}
use lib.Seq.{get_or-set_same, get_or-set_other}
use Rattle.graph.specs.Graph.{Graph, edges}
use Rattle.graph.specs.Limits.{most_vertices}
use Rattle.graph.specs.Numbers.{tally}
use Rattle.graph.proofs.Sums.{tally_none}
use Rattle.graph.proofs.Chains.{edge_from_low}
use Rattle.memory.specs.Memory.{Framed}
use Rattle.memory.proofs.Memory.{framed_none, framed_more, set_framed}
use Rattle.index.specs.Index.{start, first}
use Rattle.index.specs.Build.{OneAsk, One}
use Rattle.index.proofs.Counts.{start_all}
use Rattle.index.proofs.Moved.{adjacent_same}
use Rattle.index.proofs.Asks.{valid_column}
use Rattle.moves.specs.declared.Stand.{Stand}
use Rattle.linear.specs.Path.{Setting, Between, cost}
use Rattle.moves.specs.Moves.{hue_of, off_of, other_of, stack_of, front_of, path_of, cursor_of, BeginAsk, begun_colours, begun}
use Rattle.linear.specs.Search.{stand, resting, alone, path_at, cursor_at, left_of, Searching, Kept, StepAsk, Stepped, RunAsk, Ran, RootAsk, Rooted, RootsAsk, Searched, FindAsk, Found}
use Rattle.linear.proofs.Moved.{offs_rise, moved}
use Rattle.linear.proofs.Step.{empty, pushed}
use Rattle.linear.proofs.Keeping.{kept_none, kept_more, onto_here, offs_same, others_same, setting_same, searching}
use Rattle.linear.proofs.Working.{searching_stand}
use Rattle.linear.proofs.Left.{cost_unseen, cost_seen, cost_gone}

-- A RUN
-- t steps lead from r alone to x
pub record Running (g : Graph) (b r : ℕ) (l w : List ℕ) (x : Stand) (l' w' : List ℕ) (t : ℕ) : Type 0 where
  pub next : Searching g b x l' w'
  pub kept : Kept g.n b l w l' w'
  pub work : t + left_of g.n b x l' w' ≡ left_of g.n b (alone r w) l w

pub run_none : {g : Graph} {b r : ℕ} {l w : List ℕ} → RunAsk g b r l w → Running g b r l w (alone r w) l w 0
run_none {g} {b} {r} {l} {w} (_, x) = record { next = x; kept = kept_none g.n b l w; work = omega arith }

-- r's offsets stand in w
pub run_low : {g : Graph} {b r : ℕ} {l w : List ℕ} → RunAsk g b r l w → (r < most_vertices) × (r + 1 < length w)
run_low (m, x) = (omega (arith, x.small), omega (arith, x.behind, x.room))

module _ {g : Graph} {b r t : ℕ} {x : Stand} {l w l₁ w₁ : List ℕ} (z : Running g b r l w x l₁ w₁ t) where
  pub run_ask : 0 < x.path → StepAsk g b x l₁ w₁
  run_ask h = record { known = z.next; some = h }

  pub run_step : {y : Stand} {l₂ w₂ : List ℕ} → Stepped g b x l₁ w₁ l₂ w₂ y → Running g b r l w y l₂ w₂ (t + y.steps)
  run_step s = record { next = s.next; kept = kept_more z.kept s.kept; work = omega (arith, z.work, s.work) }

  -- the steps are few
  pub run_few : RunAsk g b r l w → t ≤ 5 * g.n + edges g
  run_few a = omega (arith, z.work, a.1.bound)

-- nothing of the path is looked at where it is at its end
at_rest : {g : Graph} {b u c h : ℕ} {l w : List ℕ} → Searching g b (stand 0 0 0 u c h) l w → Searching g b resting l w
unfolding tally
at_rest {g} {b} {u} {c} {h} {l} {w} x =
    searching x (framed_none b (b + 4 * g.n) w) resting l refl (λ m. absurd (omega arith))
    (moved x.setting (record {
      offs = λ v m. refl;
      others = λ i m. refl;
      cols = λ v m. refl;
      sts = λ i m. refl;
      frs = λ j m. refl;
      pas = λ q m. absurd (omega arith);
      cus = λ q m. absurd (omega arith);
    }) x.between)
    (omega arith)

pub run_end : {g : Graph} {b r t : ℕ} {x : Stand} {l w l' w' : List ℕ} → x.path ≡ 0 → Running g b r l w x l' w' t → Ran g b r l w l' w' t
unfolding tally
run_end {g} {b} {x = x} {l' = l'} {w' = w'} e z =
    let (es, ek) = empty z.next.setting z.next.between e in
    let rest : Searching g b (stand 0 0 0 x.top x.cursor x.end) l' w' = rw (es, ek, e) at (searching_stand z.next) in
    record { next = at_rest rest; kept = z.kept; work = rw (es, ek, e) at z.work }

-- A ROOT
pub root_seen : {g : Graph} {b r : ℕ} {l w : List ℕ} → RootAsk g b r l w → (hue_of l r ≡ g.n → ⊥) → Rooted g b r l w l w 1
root_seen {g} {b} {r} {l} {w} a o = record { next = a.known; kept = kept_none g.n b l w; over = o; work = omega arith }

root_ask : {g : Graph} {b r : ℕ} {l w : List ℕ} → RootAsk g b r l w → BeginAsk g.n b r l w
root_ask a = record { small = a.known.small; column = a.known.column; room = a.known.room; vertex = a.vertex }

-- what stands where once r is on the stack
module _ {n b r : ℕ} {l w : List ℕ} (a : BeginAsk n b r l w) where
  begun_frame : Framed b (b + 4 * n) w (begun n b r w)
  begun_frame =
      framed_more (set_framed w b (b + 4 * n) b r (omega arith) (omega (arith, a.vertex)))
      (set_framed (set w b r) b (b + 4 * n) (b + n) (n + 1) (omega arith) (omega (arith, a.vertex)))

  begun_stack : stack_of b (begun n b r w) 0 ≡ r
  begun_stack =
      ap (λ (j : ℕ). get_or (begun n b r w) j 0) (omega arith) ∙ get_or-set_other (set w b r) (b + n) b (n + 1) 0 (λ e. omega (arith, a.vertex))
      ∙ get_or-set_same w b r 0 (omega (arith, a.room, a.vertex))

  begun_front : front_of n b (begun n b r w) 0 ≡ n + 1 + 0
  begun_front =
      ap (λ (j : ℕ). get_or (begun n b r w) j 0) (omega arith) ∙ get_or-set_same (set w b r) (b + n) (n + 1) 0 (omega (arith, a.room, a.vertex, length-set w b r))
      ∙ omega arith

  begun_colour : hue_of (begun_colours n r l) r ≡ n + 1 + 0
  begun_colour = get_or-set_same l r (n + 1) 0 (omega (arith, a.vertex, a.column)) ∙ omega arith

  begun_colours_elsewhere : (v : ℕ) → (v ≡ r → ⊥) → hue_of (begun_colours n r l) v ≡ hue_of l v
  begun_colours_elsewhere v o = get_or-set_other l r v (n + 1) 0 o

module _ {g : Graph} {b r : ℕ} {l w : List ℕ} (a : RootAsk g b r l w) (unseen : hue_of l r ≡ g.n) where
  abbrev l' : List ℕ
  l' = begun_colours g.n r l

  abbrev w' : List ℕ
  w' = begun g.n b r w

  frame' : Framed b (b + 4 * g.n) w w'
  frame' = begun_frame (root_ask a)

  top : path_at g.n b (alone r w') w' 0 ≡ r
  top = onto_here 0 r (path_of g.n b w')

  cursor : cursor_at g.n b (alone r w') w' 0 ≡ off_of w' r
  cursor = onto_here 0 (off_of w' r) (cursor_of g.n b w')

  seen' : (v : ℕ) → v < g.n → hue_of l' v ≡ g.n → hue_of l v ≡ g.n
  seen' v m e = by_cases (ℕ_discrete v r) (λ q. rw q unseen) (λ o. sym (begun_colours_elsewhere (root_ask a) v o) ∙ e)

  begun_between : Between g (off_of w') (other_of g.n w') 1 1 1 (hue_of l') (stack_of b w') (front_of g.n b w') (path_at g.n b (alone r w') w') (cursor_at g.n b (alone r w') w')
  begun_between =
      pushed (setting_same a.known frame')
      (moved a.known.setting (record {
        offs = offs_same a.known frame';
        others = others_same a.known frame';
        cols = λ v m. refl;
        sts = λ i m. absurd (omega arith);
        frs = λ j m. absurd (omega arith);
        pas = λ q m. absurd (omega arith);
        cus = λ q m. absurd (omega arith);
      }) a.known.between)
      r a.vertex unseen (begun_stack (root_ask a)) (begun_front (root_ask a)) top cursor (hue_of l') (begun_colour (root_ask a))
      (λ u m. begun_colours_elsewhere (root_ask a) u)
      (λ u m h. let (i, q, e) = a.known.between.whose u m h in absurd (omega arith))

  -- r's cost is more than what is left of it on the stack
  begun_left : 1 + left_of g.n b (alone r w') l' w' ≡ left_of g.n b resting l w
  unfolding tally
  begun_left =
      omega (
        arith,
        cost_gone {off = off_of w} {off' = off_of w'} {col = hue_of l} {col' = hue_of l'} (offs_same a.known frame') r a.vertex unseen (λ e. omega (arith, begun_colour (root_ask a))) (λ v m. begun_colours_elsewhere (root_ask a) v),
        ap (λ (v : ℕ). off_of w' (suc v)) top,
        cursor,
        offs_same a.known frame' r (omega (arith, a.vertex)),
        offs_same a.known frame' (suc r) a.vertex,
      )

  begun_ask : RunAsk g b r l' w'
  begun_ask =
      (a.vertex, searching a.known frame' (alone r w') l' (length-set l r (g.n + 1)) (λ m. ap (off_of w') (omega arith)) begun_between (omega (arith, begun_left)))

  begun_kept : Kept g.n b l w l' w'
  begun_kept = record { frame = frame'; long = length-set l r (g.n + 1); seen = seen' }

  begun_run : {l₂ w₂ : List ℕ} {t : ℕ} → Ran g b r l' w' l₂ w₂ t → Rooted g b r l w l₂ w₂ (t + 2)
  begun_run x =
      record {
        next = x.next;
        kept = kept_more begun_kept x.kept;
        over = λ e. omega (arith, x.kept.seen r a.vertex e, begun_colour (root_ask a));
        work = omega (arith, x.work, begun_left);
      }

  module _ {l₁ w₁ : List ℕ} (e : (l₁ ≡ begun_colours g.n r l) × (w₁ ≡ begun g.n b r w)) where
    pub root_begun : RunAsk g b r l₁ w₁
    root_begun = rw (e.0, e.1) begun_ask

    module _ {l₂ w₂ : List ℕ} {t : ℕ} (x : Ran g b r l₁ w₁ l₂ w₂ t) where
      pub root_run : Rooted g b r l w l₂ w₂ (t + 2)
      root_run = begun_run (rw (e.0, e.1) at x)

      pub root_few : t ≤ 5 * g.n + edges g
      root_few = omega (arith, x.work, root_begun.1.bound)

-- ALL ROOTS
-- those below r are seen after t steps
pub record Rooting (g : Graph) (b : ℕ) (l w : List ℕ) (r : ℕ) (l' w' : List ℕ) (t : ℕ) : Type 0 where
  pub next : Searching g b resting l' w'
  pub kept : Kept g.n b l w l' w'
  pub over : (v : ℕ) → v < r → hue_of l' v ≡ g.n → ⊥
  pub work : t + left_of g.n b resting l' w' ≡ r + left_of g.n b resting l w

pub roots_none : {g : Graph} {b : ℕ} {l w : List ℕ} → RootsAsk g b l w → Rooting g b l w 0 l w 0
roots_none {g} {b} {l} {w} x = record { next = x; kept = kept_none g.n b l w; over = λ v m. absurd (omega arith); work = omega arith }

module _ {g : Graph} {b r t : ℕ} {l w l₁ w₁ : List ℕ} (z : Rooting g b l w r l₁ w₁ t) where
  pub roots_ask : r < g.n → RootAsk g b r l₁ w₁
  roots_ask m = record { known = z.next; vertex = m }

  pub roots_step : {l₂ w₂ : List ℕ} {k : ℕ} → r < g.n → Rooted g b r l₁ w₁ l₂ w₂ k → Rooting g b l w (r + 1) l₂ w₂ (t + k)
  roots_step m x =
      record {
        next = x.next;
        kept = kept_more z.kept x.kept;
        over = λ v q e. by_cases (ℕ_discrete v r) (λ d. x.over (rw d at e)) (λ o. z.over v (omega arith) (x.kept.seen v (omega arith) e));
        work = omega (arith, z.work, x.work);
      }

  pub roots_few : RootsAsk g b l w → t ≤ r + (5 * g.n + edges g)
  roots_few a = omega (arith, z.work, a.bound)

pub roots_end : {g : Graph} {b t : ℕ} {l w l' w' : List ℕ} → RootsAsk g b l w → Rooting g b l w g.n l' w' t → Searched g b l w l' w' t
unfolding tally
roots_end {g} {b} {t} {l} {w} {l'} {w'} a z =
    record {
      frame = z.kept.frame;
      long = z.kept.long ∙ a.column;
      labelled = λ v m. z.next.between.done v m (by_cases (dec_lt (hue_of l' v) g.n) (λ q. q) (λ q. absurd (by_cases (dec_lt g.n (hue_of l' v))
          (λ h. let (i, j, e) = z.next.between.whose v m h in omega arith)
          (λ h. z.over v m (omega arith)))));
      work = omega (arith, z.work, tally_none (cost g.n (off_of w') (hue_of l')) g.n (λ v m. cost_seen g.n (off_of w') (hue_of l') v (z.over v m)));
    }

-- FROM THE TABLE ON
-- nothing is seen: all vertices together cost five each, and their edges
cost_all : (n : ℕ) (off col : ℕ → ℕ) (k : ℕ) → ((v : ℕ) → v < k → off v ≤ off (suc v)) → ((v : ℕ) → v < k → col v ≡ n) → tally (cost n off col) k + off 0 ≡ 5 * k + off k
unfolding tally
cost_all n off col zero f e = omega arith
cost_all n off col (suc k) f e =
    omega (arith, cost_all n off col k (λ v l. f v (omega arith)) (λ v l. e v (omega arith)), f k (omega arith), cost_unseen n off col k (e k (omega arith)))

pub find_ask : {g : Graph} {kinds l w : List ℕ} → FindAsk g kinds l w → OneAsk g kinds w
find_ask a = record { kinded = a.kinded; column = valid_column a.valid a.small a.few; even = a.valid.same; room = omega (arith, a.room) }

module _ {g : Graph} {kinds l w w₁ : List ℕ} (l₁ : List ℕ) (a : FindAsk g kinds l w) (x : One g w w₁) (long : length l₁ ≡ length l) (each : (v : ℕ) → v < length l → hue_of l₁ v ≡ g.n) where
  blank : (v : ℕ) → v < g.n → hue_of l₁ v ≡ g.n
  blank v m = each v (omega (arith, a.column))

  setting₁ : Setting g (off_of w₁) (other_of g.n w₁)
  setting₁ =
      record {
        valid = a.valid;
        index =
            adjacent_same g (λ v. get_or w₁ (0 + v) 0) (λ i. get_or w₁ (0 + g.n + 1 + i) 0) (off_of w₁) (other_of g.n w₁)
            (λ v m. ap (λ (j : ℕ). get_or w₁ j 0) (omega arith)) (λ i m. ap (λ (j : ℕ). get_or w₁ j 0) (omega arith)) x.index;
      }

  find_left : left_of g.n (g.n + 1 + edges g) resting l₁ w₁ ≡ 5 * g.n + first g g.n
  unfolding tally start
  find_left =
      omega (
        arith,
        cost_all g.n (off_of w₁) (hue_of l₁) g.n (offs_rise setting₁) blank,
        setting₁.index.offs 0 (omega arith),
        setting₁.index.offs g.n (omega arith),
      )

  pub find_begun : RootsAsk g (g.n + 1 + edges g) l₁ w₁
  unfolding tally
  find_begun =
      record {
        setting = setting₁;
        small = a.small;
        few = a.few;
        behind = omega arith;
        room = omega (arith, a.room, x.long);
        column = long ∙ a.column;
        ends = λ m. absurd (omega arith);
        between =
            record {
              done = λ v m h. absurd (omega (arith, blank v m));
              shut = λ e u v y h. absurd (omega (arith, blank u (edge_from_low a.valid y)));
              vertex = λ i m. absurd (omega arith);
              place = λ i m. absurd (omega arith);
              whose = λ v m h. absurd (omega (arith, blank v m));
              bottom = λ m. absurd (omega arith);
              rise = λ i j m h. absurd (omega arith);
              low = λ j m. absurd (omega arith);
              climb = λ i j m h. absurd (omega arith);
              inside = λ q m. absurd (omega arith);
              fronts = λ j m. absurd (omega arith);
              begun = λ q m. absurd (omega arith);
              until = λ q m. absurd (omega arith);
              looked = λ q c m. absurd (omega arith);
              ended = λ v m h. absurd (omega (arith, blank v m));
              on = λ u v m h o. absurd (omega (arith, blank u m));
              back = λ u v m h o. absurd (omega (arith, blank u m));
            };
        bound =
            omega (
              arith,
              find_left,
              start_all g.counted g.src (edges g) g.n,
            );
      }

  pub find_end : {l₂ w₂ : List ℕ} {t : ℕ} → Searched g (g.n + 1 + edges g) l₁ w₁ l₂ w₂ t → Found g l₂ w w₂ t
  find_end s =
      record {
        column = s.long;
        labelled = s.labelled;
        long = s.frame.long ∙ x.long;
        rest = λ j m. s.frame.high j (omega arith) ∙ x.rest j (omega (arith, start_all g.counted g.src (edges g) g.n));
        work = s.work ∙ omega (arith, find_left);
      }
