-- One step of the search, in memory: a vertex is entered, or the path's last is left.
use Prim.Native.Nat.{ℕ, suc, ◌+◌, ◌*◌, ◌-◌, ◌≤◌, ◌<◌}
use native.Mathlib.Omega.{arith}
use native.Mathlib.Numerals.{add-one}
use native.Mathlib.Decide.{ℕ_discrete, dec_lt}
use mathlib.Core.Path.{◌≡◌, refl, sym, ap, ◌∙◌}
use mathlib.Core.Logic.{inl, inr, ⊎_elim, by_cases}
use mathlib.Core.List.{List}
use lib.ListN.{length, get_or, length-set}
use Rattle.graph.specs.Graph.{Graph, Reach, all, edges}
use Rattle.graph.proofs.Chains.{reach_edge, reach_join}
use Rattle.memory.specs.Memory.{Framed}
use Rattle.memory.proofs.Memory.{framed_none}
use Rattle.moves.specs.declared.Stand.{Stand}
use Rattle.linear.specs.Path.{Setting, Ahead, Between}
use Rattle.moves.specs.Moves.{hue_of, off_of, other_of, stack_of, front_of, path_of, cursor_of, Lowest, Painted, CloseAsk, Closed, EnterAsk, entered_colours, entered, entered_stand, BackAsk, Backed, ScanAsk, Scanned}
use Rattle.linear.specs.Search.{stand, onto, path_at, cursor_at, left_of, Searching, StepAsk, Stepped}
use Rattle.linear.proofs.Moved.{place_low, edge_here, other_low, Agree, moved}
use Rattle.linear.proofs.Step.{hue_low, all_to_top, fronts_few, path_few, stack_few, stack_room, joined, advanced, finished, pushed}
use Rattle.linear.proofs.Closing.{closed}
use Rattle.linear.proofs.Keeping.{onto_here, onto_other, offs_same, others_same, setting_same, searching}
use Rattle.linear.proofs.Entering.{in_frame, stack_new, stack_old, front_new, front_old, path_new, cursor_new, path_old, cursor_old, hue_new, hue_old}
use Rattle.linear.proofs.Left.{left_back, left_entered}

-- what stays where the path's last u, with its cursor at d, is left: t vertices and i segments, with the colours l'
pub record Shrunk (g : Graph) (b s f p u d : ℕ) (l w l' : List ℕ) (t i : ℕ) : Type 0 where
  pub between : Between g (off_of w) (other_of g.n w) t i (p - 1) (hue_of l') (stack_of b w) (front_of g.n b w) (onto (p - 1) u (path_of g.n b w)) (onto (p - 1) d (cursor_of g.n b w))
  pub long : length l' ≡ length l
  pub seen : (v : ℕ) → v < g.n → hue_of l' v ≡ g.n → hue_of l v ≡ g.n
  pub unseen : (v : ℕ) → v < g.n → hue_of l v ≡ g.n → hue_of l' v ≡ g.n
  pub stack : t ≤ s
  pub fronts : i ≤ f

-- WHATEVER STEPS LED TO x
module _ {g : Graph} {b : ℕ} {x : Stand} {l w : List ℕ} where
  pub searching_stand : Searching g b x l w → Searching g b (stand x.stack x.fronts x.path x.top x.cursor x.end) l w
  searching_stand y = searching y (framed_none b (b + 4 * g.n) w) (stand x.stack x.fronts x.path x.top x.cursor x.end) l refl y.ends y.between (omega arith)

  pub step_of : StepAsk g b x l w → StepAsk g b (stand x.stack x.fronts x.path x.top x.cursor x.end) l w
  step_of a = record { known = searching_stand a.known; some = a.some }

  pub stepped_of : {l' w' : List ℕ} {r : Stand} → Stepped g b (stand x.stack x.fronts x.path x.top x.cursor x.end) l w l' w' r → Stepped g b x l w l' w' r
  stepped_of z = record { next = z.next; kept = z.kept; work = z.work; some = z.some }

-- AT THE PATH'S LAST u
module _ {g : Graph} {b s k p u c h : ℕ} {l w : List ℕ} (a : StepAsk g b (stand s k p u c h) l w) where
  abbrev z : Setting g (off_of w) (other_of g.n w)
  z = a.known.setting

  abbrev pa : ℕ → ℕ
  pa = path_at g.n b (stand s k p u c h) w

  abbrev cu : ℕ → ℕ
  cu = cursor_at g.n b (stand s k p u c h) w

  abbrev x₀ : Between g (off_of w) (other_of g.n w) s k p (hue_of l) (stack_of b w) (front_of g.n b w) pa cu
  x₀ = a.known.between

  last : p - 1 < p
  last = omega (arith, a.some)

  top_is : pa (p - 1) ≡ u
  top_is = onto_here (p - 1) u (path_of g.n b w)

  u_low : u < g.n
  u_low = omega (arith, (x₀.inside (p - 1) last).0, top_is)

  u_above : g.n < hue_of l u
  u_above = omega (arith, (x₀.inside (p - 1) last).1, ap (hue_of l) top_is)

  u_below : hue_of l u < g.n + 1 + s
  u_below = hue_low z x₀ u u_low u_above

  end_is : h ≡ off_of w (suc u)
  end_is = a.known.ends a.some

  end_of_top : off_of w (suc (pa (p - 1))) ≡ h
  end_of_top = ap (λ (v : ℕ). off_of w (suc v)) top_is ∙ sym end_is

  cursor_is : cu (p - 1) ≡ c
  cursor_is = onto_here (p - 1) c (cursor_of g.n b w)

  from_start : off_of w u ≤ c
  from_start = omega (arith, x₀.begun (p - 1) last, ap (off_of w) top_is, cursor_is)

  up_to : c ≤ h
  up_to = omega (arith, x₀.until (p - 1) last, end_of_top, cursor_is)

  pub stack_most : s ≤ g.n
  stack_most = stack_few z x₀

  pub fronts_most : k ≤ s
  fronts_most = fronts_few z x₀

  path_most : p ≤ s
  path_most = path_few z x₀

  bottom_is : (0 < k) × (front_of g.n b w 0 ≡ g.n + 1)
  bottom_is = x₀.bottom (omega (arith, a.some, path_most))

  pub end_few : h ≤ edges g
  end_few = by_cases (dec_lt 0 h)
      (λ m. let q : h - 1 < edges g = place_low z u (h - 1) u_low (omega (arith, end_is)) in omega arith)
      (λ o. omega arith)

  next_low : (i : ℕ) → c ≤ i → i < h → other_of g.n w i < g.n
  next_low i lo hi = other_low z u i u_low (omega (arith, from_start)) (omega (arith, end_is))

  leads : (i : ℕ) → c ≤ i → i < h → Reach g all (pa (p - 1)) (other_of g.n w i)
  leads i lo hi = let (e, y) = edge_here z u i u_low (omega (arith, from_start)) (omega (arith, end_is)) in rw top_is (reach_edge e tt tt y)

  pub scan_ask : ScanAsk g.n b c h k l w
  scan_ask =
      record {
        small = a.known.small;
        column = a.known.column;
        order = up_to;
        few = omega (arith, a.known.behind, end_few);
        room = omega (arith, a.known.room);
        some = bottom_is.0;
        fronts = omega (arith, fronts_most, stack_most);
        bottom = bottom_is.1;
        next = next_low;
      }

  -- the path's last but one
  before_low : 1 < p → path_of g.n b w (p - 2) < g.n
  before_low m = omega (arith, (x₀.inside (p - 2) (omega arith)).0, onto_other (p - 1) u (path_of g.n b w) (p - 2) (λ e. omega arith))

  pub back_ask : BackAsk g.n b p w
  back_ask =
      record {
        small = a.known.small;
        room = a.known.room;
        some = a.some;
        path = omega (arith, path_most, stack_most);
        vertex = before_low;
      }

  -- AFTER THE SCAN, at d with f fronts
  module _ {d f : ℕ} (y : Scanned g.n b c h k l w d f) where
    abbrev at_d : ℕ → ℕ
    at_d = onto (p - 1) d (cursor_of g.n b w)

    at_d_is : at_d (p - 1) ≡ d
    at_d_is = onto_here (p - 1) d (cursor_of g.n b w)

    -- the segments behind a vertex that was met have joined
    x₁ : Between g (off_of w) (other_of g.n w) s f p (hue_of l) (stack_of b w) (front_of g.n b w) pa cu
    x₁ = by_cases (ℕ_discrete f k) (λ e. rw e x₀)
        (λ o. let (i, lo, hi, m, cut) = y.joined (omega (arith, y.less)) in
        let q : i < h = omega (arith, y.most) in
        joined z x₀ (other_of g.n w i) f a.some (next_low i lo q) m (leads i lo q) y.some y.less cut)

    front_last : (j : ℕ) → j < f → front_of g.n b w j ≤ front_of g.n b w (f - 1)
    front_last j m = by_cases (ℕ_discrete j (f - 1)) (λ e. rw e (omega arith)) (λ o. omega (arith, x₁.rise j (f - 1) (omega arith) (omega arith)))

    -- the edges passed lead to no earlier segment
    passed_ahead : (i : ℕ) → c ≤ i → i < d → Ahead g.n f (hue_of l) (front_of g.n b w) (pa (p - 1)) (other_of g.n w i)
    passed_ahead i lo hi = ⊎_elim (λ m. inl m) (λ (m, q). inr (λ j t r. omega (arith, front_last j t))) (y.passed i lo hi)

    -- the cursor has moved on to d
    x₂ : Between g (off_of w) (other_of g.n w) s f p (hue_of l) (stack_of b w) (front_of g.n b w) pa at_d
    x₂ =
        advanced z x₁ at_d (p - 1) last (omega (arith, cursor_is, at_d_is, y.more)) (omega (arith, at_d_is, end_of_top, y.most))
        (λ i m o. onto_other (p - 1) d (cursor_of g.n b w) i o ∙ sym (onto_other (p - 1) c (cursor_of g.n b w) i o))
        (λ i lo hi. passed_ahead i (omega (arith, cursor_is)) (omega (arith, at_d_is)))

    pub close_ask : CloseAsk g.n b u s f l w
    close_ask =
        record {
          column = a.known.column;
          room = omega (arith, a.known.room);
          vertex = u_low;
          above = u_above;
          below = u_below;
          stack = stack_most;
          some = y.some;
          fronts = omega (arith, y.less, fronts_most, stack_most);
          low = x₀.vertex;
        }

    -- GOING BACK from u: t vertices and i segments stay on the stack
    module _ (over : h ≤ d) where
      at_end : d ≡ h
      at_end = omega (arith, y.most)

      over_is : at_d (p - 1) ≡ off_of w (suc (pa (p - 1)))
      over_is = at_d_is ∙ at_end ∙ sym end_of_top

      finished_off : (hue_of l u ≡ front_of g.n b w (f - 1) → ⊥) → Shrunk g b s f p u d l w l s f
      finished_off o =
          record {
            between = finished z x₂ a.some over_is y.some (λ e. o (sym (ap (hue_of l) top_is) ∙ e));
            long = refl;
            seen = λ v m e. e;
            unseen = λ v m e. e;
            stack = omega arith;
            fronts = omega arith;
          }

      -- u begins the last segment, at place t of the stack
      module _ {t r : ℕ} {l' : List ℕ} (first : hue_of l u ≡ front_of g.n b w (f - 1)) (place : t ≡ hue_of l u - (g.n + 1))
          (low : Lowest (b + t) (b + s) w r) (q : Painted (b + t) (b + s) r w l l') where
        abbrev i₀ : ℕ
        i₀ = low.found.0 - b

        is_t : hue_of l u ≡ g.n + 1 + t
        is_t = omega (arith, u_above)

        i_above : t ≤ i₀
        i_above = let (j, lo, hi, e) = low.found in omega arith

        i_below : i₀ < s
        i_below = let (j, lo, hi, e) = low.found in omega arith

        label_is : r ≡ stack_of b w i₀
        label_is = let (j, lo, hi, e) = low.found in e ∙ ap (λ (j : ℕ). get_or w j 0) (omega arith)

        label_low : r < g.n
        label_low = rw label_is (x₀.vertex i₀ i_below)

        painted_are : (v : ℕ) → v < g.n → g.n + 1 + t ≤ hue_of l v → hue_of l' v ≡ r
        painted_are v m o =
            let (i, j, e) = x₀.whose v m (omega arith) in
            sym (ap (hue_of l') e) ∙ q.here (b + i) (omega (arith, x₀.place i j, ap (hue_of l) e)) (omega arith)

        others_are : (v : ℕ) → v < g.n → hue_of l v < g.n + 1 + t → hue_of l' v ≡ hue_of l v
        others_are v m o = q.else v (λ j lo hi e.
            let i : stack_of b w (j - b) ≡ v = ap (λ (j : ℕ). get_or w j 0) (omega arith) ∙ e in
            omega (arith, x₀.place (j - b) (omega arith), ap (hue_of l) i))

        closed_off : Shrunk g b s f p u d l w l' t (f - 1)
        closed_off =
            record {
              between =
                  closed z x₂ t a.some over_is y.some (ap (hue_of l) top_is ∙ first) (ap (hue_of l) top_is ∙ is_t)
                  r i₀ i_above i_below label_is (λ i lo hi. low.least (b + i) (omega arith) (omega arith)) (hue_of l') painted_are others_are;
              long = q.long;
              seen = λ v m e. by_cases (dec_lt (hue_of l v) (g.n + 1 + t)) (λ j. sym (others_are v m j) ∙ e) (λ j. absurd (omega (arith, painted_are v m (omega arith), label_low)));
              unseen = λ v m e. others_are v m (omega arith) ∙ e;
              stack = omega (arith, u_below, is_t);
              fronts = omega arith;
            }

      pub shrunk : {l' : List ℕ} {t i : ℕ} → Closed g.n b u s f w l l' t i → Shrunk g b s f p u d l w l' t i
      shrunk (inl (o, e, i, j)) = rw (e, i, j) (finished_off o)
      shrunk (inr (e, i, j, (x, low, q))) = rw j (closed_off e i low q)

      -- the path goes on one place before
      module _ {t i : ℕ} {l' : List ℕ} (x : Shrunk g b s f p u d l w l' t i) where
        module _ (q o e j steps : ℕ) (is : q ≡ p - 1) (ends : 0 < q → j ≡ off_of w (suc o))
            (pas : (v : ℕ) → v < p - 1 → onto (q - 1) o (path_of g.n b w) v ≡ path_of g.n b w v)
            (cus : (v : ℕ) → v < p - 1 → onto (q - 1) e (cursor_of g.n b w) v ≡ cursor_of g.n b w v) where
          abbrev back_stand : Stand
          back_stand = record { stack = t; fronts = i; path = q; top = o; cursor = e; end = j; steps = steps }

          back_paths : (v : ℕ) → v < p - 1 → path_at g.n b back_stand w v ≡ pa v
          back_paths v m = pas v m ∙ sym (onto_other (p - 1) u (path_of g.n b w) v (λ e. omega arith))

          back_agree : Agree g t i (p - 1)
              (off_of w) (other_of g.n w) (hue_of l') (stack_of b w) (front_of g.n b w) pa at_d
              (off_of w) (other_of g.n w) (hue_of l') (stack_of b w) (front_of g.n b w) (path_at g.n b back_stand w) (cursor_at g.n b back_stand w)
          back_agree =
              record {
                offs = λ v m. refl;
                others = λ v m. refl;
                cols = λ v m. refl;
                sts = λ v m. refl;
                frs = λ v m. refl;
                pas = back_paths;
                cus = λ v m. cus v m ∙ sym (onto_other (p - 1) d (cursor_of g.n b w) v (λ e. omega arith));
              }

          back_work : 1 + (d - c) + (k - f) + 2 * (s - t) + (f - i) + left_of g.n b back_stand l' w ≡ left_of g.n b (stand s k p u c h) l w
          back_work =
              left_back {off = off_of w} {off' = off_of w} {pa = pa} {pa' = path_at g.n b back_stand w} {cu = cu} {cu' = cursor_at g.n b back_stand w}
              c h a.some cursor_is end_of_top (λ v m. refl) (λ v m. (x₀.inside v m).0) back_paths
              (λ v m. cus v m ∙ sym (onto_other (p - 1) c (cursor_of g.n b w) v (λ e. omega arith)))
              s k t f i d q x.seen x.unseen x.stack x.fronts y.less y.more at_end is

          backed : steps ≡ 1 + (d - c) + (k - f) + 2 * (s - t) + (f - i) → Stepped g b (stand s k p u c h) l w l' w back_stand
          backed exact =
              record {
                next = searching a.known (framed_none b (b + 4 * g.n) w) back_stand l' x.long ends (rw (sym is) at (moved z back_agree x.between)) (omega (arith, back_work));
                kept = record { frame = framed_none b (b + 4 * g.n) w; long = x.long; seen = x.seen };
                work = omega (arith, back_work);
                some = omega arith;
              }

        at_place : (f : ℕ → ℕ) (v : ℕ) → onto (p - 1 - 1) (f (p - 2)) f v ≡ f v
        at_place f v = by_cases (ℕ_discrete v (p - 1 - 1))
            (λ e. let i : v ≡ p - 2 = omega arith in ap (onto (p - 1 - 1) (f (p - 2)) f) e ∙ onto_here (p - 1 - 1) (f (p - 2)) f ∙ sym (ap f i))
            (λ o. onto_other (p - 1 - 1) (f (p - 2)) f v o)

        pub step_back : {j : ℕ} {r : Stand} → Backed g.n b t i p j w r → j ≡ 1 + (d - c) + (k - f) + 2 * (s - t) + (f - i)
            → Stepped g b (stand s k p u c h) l w l' w r
        step_back {j} (inl (e, q)) exact =
            rw q (backed 0 0 0 0 j (omega arith) (λ m. absurd (omega arith)) (λ v m. absurd (omega arith)) (λ v m. absurd (omega arith)) exact)
        step_back {j} (inr (m, q)) exact =
            rw q (backed (p - 1) (path_of g.n b w (p - 2)) (cursor_of g.n b w (p - 2)) (off_of w (path_of g.n b w (p - 2) + 1)) j refl
            (λ o. rw add-one refl) (λ v o. at_place (path_of g.n b w) v) (λ v o. at_place (cursor_of g.n b w) v) exact)

    -- ENTERING the vertex at d
    module _ (found : d < h) where
      abbrev v : ℕ
      v = other_of g.n w d

      unseen : hue_of l v ≡ g.n
      unseen = y.unseen found

      v_low : v < g.n
      v_low = next_low d y.more found

      pub enter_ask : EnterAsk g.n b u d s f p l w
      enter_ask =
          let m = stack_room z x₀ v v_low unseen in
          record {
            small = a.known.small;
            few = omega (arith, a.known.behind, end_few);
            edges = omega (arith, a.known.few, end_few);
            column = a.known.column;
            room = a.known.room;
            vertex = u_low;
            next = v_low;
            stack = m;
            fronts = omega (arith, y.less, fronts_most);
            some = a.some;
            path = omega (arith, path_most);
          }

      abbrev l' : List ℕ
      l' = entered_colours g.n d s w l

      abbrev w' : List ℕ
      w' = entered g.n b u d s f p w

      abbrev r : Stand
      r = entered_stand g.n d s f p (1 + (d - c) + (k - f) + 1) w

      framed : Framed b (b + 4 * g.n) w w'
      framed = in_frame enter_ask

      z' : Setting g (off_of w') (other_of g.n w')
      z' = setting_same a.known framed

      abbrev pa' : ℕ → ℕ
      pa' = path_at g.n b r w'

      abbrev cu' : ℕ → ℕ
      cu' = cursor_at g.n b r w'

      top_new : pa' p ≡ v
      top_new = let e : p ≡ p + 1 - 1 = omega arith in ap pa' e ∙ onto_here (p + 1 - 1) v (path_of g.n b w')

      start_new : cu' p ≡ off_of w v
      start_new = let e : p ≡ p + 1 - 1 = omega arith in ap cu' e ∙ onto_here (p + 1 - 1) (off_of w v) (cursor_of g.n b w')

      stored_path : (i : ℕ) → i < p → pa' i ≡ path_of g.n b w' i
      stored_path i m = onto_other (p + 1 - 1) v (path_of g.n b w') i (λ e. omega arith)

      stored_cursor : (i : ℕ) → i < p → cu' i ≡ cursor_of g.n b w' i
      stored_cursor i m = onto_other (p + 1 - 1) (off_of w v) (cursor_of g.n b w') i (λ e. omega arith)

      top_kept : pa' (p - 1) ≡ u
      top_kept = stored_path (p - 1) last ∙ path_new enter_ask

      cursor_kept : cu' (p - 1) ≡ d + 1
      cursor_kept = stored_cursor (p - 1) last ∙ cursor_new enter_ask

      before_path : (i : ℕ) → i < p - 1 → pa' i ≡ pa i
      before_path i m = stored_path i (omega arith) ∙ path_old enter_ask i m ∙ sym (onto_other (p - 1) u (path_of g.n b w) i (λ e. omega arith))

      before_cursor : (i j : ℕ) → i < p - 1 → cu' i ≡ onto (p - 1) j (cursor_of g.n b w) i
      before_cursor i j m = stored_cursor i (omega arith) ∙ cursor_old enter_ask i m ∙ sym (onto_other (p - 1) j (cursor_of g.n b w) i (λ e. omega arith))

      paths : (i : ℕ) → i < p → pa' i ≡ pa i
      paths i m = by_cases (ℕ_discrete i (p - 1)) (λ e. rw e (top_kept ∙ sym top_is)) (λ o. before_path i (omega arith))

      -- v is pushed while u's cursor is still at d
      abbrev cu₁ : ℕ → ℕ
      cu₁ = onto p (off_of w' v) at_d

      cu₁_old : (i : ℕ) → i < p → cu₁ i ≡ at_d i
      cu₁_old i m = onto_other p (off_of w' v) at_d i (λ e. omega arith)

      cu₁_is : cu₁ (p - 1) ≡ d
      cu₁_is = cu₁_old (p - 1) last ∙ at_d_is

      x₃ : Between g (off_of w') (other_of g.n w') s f p (hue_of l) (stack_of b w') (front_of g.n b w') pa' cu₁
      x₃ = moved z (record {
        offs = offs_same a.known framed;
        others = others_same a.known framed;
        cols = λ i m. refl;
        sts = stack_old enter_ask;
        frs = front_old enter_ask;
        pas = paths;
        cus = cu₁_old;
      }) x₂

      x₄ : Between g (off_of w') (other_of g.n w') (s + 1) (f + 1) (p + 1) (hue_of l') (stack_of b w') (front_of g.n b w') pa' cu₁
      x₄ =
          pushed z' x₃ v v_low unseen (stack_new enter_ask) (front_new enter_ask) top_new (onto_here p (off_of w' v) at_d)
          (hue_of l') (hue_new enter_ask) (λ i m o. hue_old enter_ask i o) (λ i m o. reach_join (all_to_top z x₀ a.some i m o) (leads d y.more found))

      u_kept : hue_of l' u ≡ hue_of l u
      u_kept = hue_old enter_ask u (λ e. omega (arith, u_above, unseen, ap (hue_of l) e))

      -- v is behind u, so in no earlier segment
      entered_ahead : (i : ℕ) → d ≤ i → i < d + 1 → Ahead g.n (f + 1) (hue_of l') (front_of g.n b w') (pa' (p - 1)) (other_of g.n w' i)
      entered_ahead i lo hi =
          let e : i ≡ d = omega arith in
          let o : other_of g.n w' i ≡ v = ap (other_of g.n w') e ∙ others_same a.known framed d (omega (arith, end_few)) in
          inr (λ j m q. omega (arith, ap (hue_of l') o, hue_new enter_ask, ap (hue_of l') top_kept, u_kept, u_below))

      end_kept : off_of w' (suc (pa' (p - 1))) ≡ h
      end_kept = ap (λ (i : ℕ). off_of w' (suc i)) top_kept ∙ offs_same a.known framed (suc u) u_low ∙ sym end_is

      cursors : (i : ℕ) → i < p + 1 → (i ≡ p - 1 → ⊥) → cu' i ≡ cu₁ i
      cursors i m o = by_cases (ℕ_discrete i p)
          (λ e. rw e (start_new ∙ sym (offs_same a.known framed v (omega (arith, v_low))) ∙ sym (onto_here p (off_of w' v) at_d)))
          (λ q. before_cursor i d (omega arith) ∙ sym (cu₁_old i (omega arith)))

      x₅ : Between g (off_of w') (other_of g.n w') (s + 1) (f + 1) (p + 1) (hue_of l') (stack_of b w') (front_of g.n b w') pa' cu'
      x₅ =
          advanced z' x₄ cu' (p - 1) (omega arith) (omega (arith, cu₁_is, cursor_kept)) (omega (arith, cursor_kept, end_kept)) cursors
          (λ i lo hi. entered_ahead i (omega (arith, cu₁_is)) (omega (arith, cursor_kept)))

      seen_kept : (i : ℕ) → i < g.n → hue_of l' i ≡ g.n → hue_of l i ≡ g.n
      seen_kept i m e = sym (hue_old enter_ask i (λ o. omega (arith, hue_new enter_ask, ap (hue_of l') o))) ∙ e

      enter_work : 1 + (d - c) + (k - f) + 1 + left_of g.n b r l' w' ≡ left_of g.n b (stand s k p u c h) l w
      enter_work =
          left_entered {off = off_of w} {off' = off_of w'} {pa = pa} {pa' = pa'} {cu = cu} {cu' = cu'}
          c h a.some cursor_is end_of_top (offs_same a.known framed) (λ i m. (x₀.inside i m).0) before_path (λ i m. before_cursor i c m)
          s k v f d v_low unseen (λ e. omega (arith, hue_new enter_ask)) (λ i m o. hue_old enter_ask i o) y.less y.more found end_kept cursor_kept top_new start_new

      end_new : off_of w (v + 1) ≡ off_of w' (suc v)
      end_new = ap (off_of w) (add-one v) ∙ sym (offs_same a.known framed (suc v) v_low)

      stepped : (j : ℕ) → j ≡ 1 + (d - c) + (k - f) + 1 → Stepped g b (stand s k p u c h) l w l' w' (entered_stand g.n d s f p j w)
      stepped j exact =
          record {
            next = searching a.known framed (entered_stand g.n d s f p j w) l' (length-set l v (g.n + 1 + s)) (λ m. end_new) x₅ (omega (arith, enter_work));
            kept = record { frame = framed; long = length-set l v (g.n + 1 + s); seen = seen_kept };
            work = omega (arith, enter_work);
            some = omega arith;
          }

      pub step_entered : {l₁ w₁ : List ℕ} {x : Stand} {j : ℕ}
          → (l₁ ≡ entered_colours g.n d s w l) × (w₁ ≡ entered g.n b u d s f p w) × (x ≡ entered_stand g.n d s f p j w)
          → j ≡ 1 + (d - c) + (k - f) + 1 → Stepped g b (stand s k p u c h) l w l₁ w₁ x
      step_entered {j = j} (e, i, q) exact = rw (e, i, q) (stepped j exact)
