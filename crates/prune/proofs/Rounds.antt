-- The neighbours of what went are examined; the whole part is passed; the end.
use Prim.Native.Nat.{ℕ, suc, ◌+◌, ◌≤◌, ◌<◌}
use native.Mathlib.Omega.{arith}
use native.Mathlib.Decide.{ℕ_discrete}
use mathlib.Core.Path.{◌≡◌, refl, sym, ap, ◌∙◌}
use mathlib.Core.Logic.{inl, inr, ⊎_elim}
use mathlib.Core.List.{List}
use lib.ListN.{get_or}
use lib.Dec.{eqb}
use Rattle.graph.proofs.Counts.{many_le}
use Rattle.graph.specs.Graph.{Graph, Part, all, rev, edges}
use Rattle.index.specs.Index.{first}
use Rattle.memory.specs.Decomposer.{col, que, ord, own, nxt, chains_at, order_at}
use Rattle.paint.specs.Paint.{other, Laid}
use Rattle.prune.specs.Trim.{TrimAsk, rev_at, into_at, out_at}
use Rattle.prune.specs.Cursor.{ahead, Stands}
use Rattle.prune.specs.Prune.{Pruning, Pruned, Fresh, Sound, Off, Here, Standing, AllStanding, ExamineAsk, Examined, AroundAsk, Around, NearAsk, Near, BesideAsk, Beside}
use Rattle.index.proofs.Counts.{start_mono}
use Rattle.prune.proofs.Walks.{last_le, other_low, ends_at, clear_first, rests_in, rests_wider}
use Rattle.prune.proofs.Along.{Along, along_less}
use Rattle.prune.proofs.Steps.{shrink, fresh_off, pruned_more, out_moved, into_moved, sound_kept}

-- THE NEIGHBOURS AT THE PLACES OF AN INDEX
module _ {g : Graph} {eb b i₀ t q k₀ : ℕ} {w₀ : List ℕ} (a : AroundAsk g eb b i₀ t q k₀ w₀)
    {i : ℕ} {w : List ℕ} {k : ℕ} (z : Around g eb b i₀ i q k₀ w₀ w k) (l : i₀ ≤ i) (h : i < t) where
  same_other : other w eb i ≡ other w₀ eb i
  same_other = z.pruned.aside.low (eb + i) (omega (arith, a.below))

  pub around_low : other w eb i < g.n
  around_low = omega (arith, same_other, a.ends i l h)

  around_sound : Sound g b q w
  around_sound = sound_kept a.state z.pruned a.sound

  pub around_ask : ExamineAsk g b (other w eb i) (out_at g b) (into_at g b) q k w
  around_ask = record {
    state = z.pruned.state;
    low = around_low;
    starts = λ p. record { high = omega arith; below = omega (arith, around_low); out = around_sound.out (other w eb i) around_low p; into = around_sound.into (other w eb i) around_low p };
  }

  module _ {w' : List ℕ} {k' : ℕ} (e : Examined g b (other w eb i) q k w w' k') where
    abbrev Two : ℕ → Type 0
    Two x = Fresh g 0 (out_at g b) b q w₀ w' x × Fresh (rev g) (rev_at g) (into_at g b) b q w₀ w' x

    old : (x : ℕ) → x < g.n → col b w' x ≡ q → Fresh g 0 (out_at g b) b q w₀ w x × Fresh (rev g) (rev_at g) (into_at g b) b q w₀ w x → Two x
    old x m p (f, d) =
        let s = z.pruned.state in
        let less = shrink z.pruned in
        (out_moved s e.pruned m p (λ u h i. i) less f, into_moved s e.pruned m p (λ u h i. i) less d)

    less : (u : ℕ) → u < g.n → col b w' u ≡ q → col b w₀ u ≡ q
    less u m p = shrink z.pruned u m (shrink e.pruned u m p)

    new : (x : ℕ) → x < g.n → Stands g 0 (out_at g b) b q w' x × Stands (rev g) (rev_at g) (into_at g b) b q w' x → Two x
    new x m (f, d) = let s = e.pruned.state.walking in (rests_wider f s.out m less, rests_wider d s.into m less)

    pub around_step : Around g eb b i₀ (i + 1) q k₀ w₀ w' k'
    around_step = record {
      pruned = pruned_more z.pruned e.pruned;
      fresh = λ j m n p. elim (ℕ_discrete j i) as (λ _. Two (other w₀ eb j)) [
        | yes y ↦ rw y (
            let c : col b w' (other w₀ eb i) ≡ q = rw y at p in
            new (other w₀ eb i) (a.ends i l h) (rw same_other at (e.stands (ap (col b w') same_other ∙ c))))
        | no y ↦
            let x = other w₀ eb j in
            let low : x < g.n = a.ends j m (omega arith) in
            old x low p (z.fresh j m (omega arith) (shrink e.pruned x low p))
      ];
    }

-- in the index of d, which is g or its reverse
beside_ask : {g d : Graph} {ix b q k : ℕ} {w : List ℕ} (u : ℕ) → Laid d ix b w → d.n ≡ g.n → u < d.n → Pruning g b q k w → Sound g b q w
    → AroundAsk g (ix + d.n + 1) b (get_or w (ix + u) 0) (get_or w (ix + u + 1) 0) q k w
beside_ask {g} {d} {ix} {b} {q} {k} {w} u x e l s c =
    let f : get_or w (ix + u) 0 ≡ first d u = x.index.offs u (omega arith) in
    let t = ends_at d ix b w x u l in
    record {
      state = s;
      sound = c;
      order = omega (arith, f, t, start_mono d.counted d.src (edges d) u (suc u) (omega arith));
      below = omega (arith, t, last_le d ix b w x u l, x.below);
      ends = λ j m n. omega (arith, other_low d ix b w x u j l (omega (arith, f)) (omega (arith, t)), e);
    }

-- u has gone, and its neighbours in both directions were examined
pub beside_first : {g : Graph} {b u q k : ℕ} {w : List ℕ} → BesideAsk g b u q k w → NearAsk g 0 b u q k w
beside_first {u = u} a = (a.low, beside_ask u a.state.walking.out refl a.low a.state a.sound)

module _ {g : Graph} {b u q k : ℕ} {w : List ℕ} (a : BesideAsk g b u q k w)
    {w₁ : List ℕ} {k₁ : ℕ} (y : Near g 0 b u q k w w₁ k₁) where
  sound₁ : Sound g b q w₁
  sound₁ = sound_kept a.state y.pruned a.sound

  pub beside_second : NearAsk g (rev_at g) b u q k₁ w₁
  beside_second = (a.low, beside_ask u y.pruned.state.walking.into refl a.low y.pruned.state sound₁)

  module _ {w₂ : List ℕ} {k₂ : ℕ} (z : Near g (rev_at g) b u q k₁ w₁ w₂ k₂) where
    fore : Laid g 0 b w
    fore = a.state.walking.out

    back : Laid (rev g) (rev_at g) b w₁
    back = y.pruned.state.walking.into

    sound₂ : Sound g b q w₂
    sound₂ = sound_kept y.pruned.state z.pruned sound₁

    targets_fresh : (j : ℕ) → first g u ≤ j → j < first g (suc u) → col b w₂ (other w (0 + g.n + 1) j) ≡ q
        → Fresh (rev g) (rev_at g) (into_at g b) b q w w₂ (other w (0 + g.n + 1) j)
    targets_fresh j m n p =
        let x = other w (0 + g.n + 1) j in
        let low : x < g.n = other_low g 0 b w fore u j a.low m n in
        into_moved y.pruned.state z.pruned low p (λ u h i. i) (shrink y.pruned)
        (y.fresh j (omega (arith, fore.index.offs u (omega (arith, a.low)))) (omega (arith, ends_at g 0 b w fore u a.low)) (shrink z.pruned x low p)).1

    pub beside_all : Beside g b u q k w w₂ k₂
    beside_all = record {
      pruned = pruned_more y.pruned z.pruned;
      out = fresh_off g 0 (out_at g b) b q (rev_at g) w₁ w₂ u (λ p. a.went (shrink y.pruned u a.low p)) z.pruned.state.walking.out sound₂.out back
          (λ j m n p. (z.fresh j (omega (arith, back.index.offs u (omega (arith, a.low)))) (omega (arith, ends_at (rev g) (rev_at g) b w₁ back u a.low)) p).0);
      into = fresh_off (rev g) (rev_at g) (into_at g b) b q 0 w w₂ u a.went z.pruned.state.walking.into sound₂.into fore targets_fresh;
    }

-- THE QUEUE IS DRAINED
module _ {g : Graph} {b q : ℕ} (P : Part) (h : ℕ) {k : ℕ} {w w' : List ℕ} {k' : ℕ} (z : Pruned g b q k w w' k') (s : Pruning g b q k w) (le : h ≤ k) where
  -- what was in the part is in it, or has come into the queue
  remains : (u : ℕ) → u < g.n → col b w u ≡ q → Here g.n b q h k' w' u
  remains u l c = ⊎_elim (λ e. inl (e ∙ c)) (λ (_, _, (i, m, n, e)). inr (i, omega arith, n, e)) (z.each u l)

  here : (u : ℕ) → u < g.n → Here g.n b q h k w u → Here g.n b q h k' w' u
  here u l t = ⊎_elim (λ c. remains u l c) (λ (i, m, n, e). inr (i, m, omega (arith, z.more), z.front i n ∙ e)) t

  pub all_kept : AllStanding g b q P h k w → AllStanding g b q P h k' w'
  all_kept f v m l p = let (o, i) = f v m l (shrink z v l p) in (out_moved s z l p here remains o, into_moved s z l p here remains i)

off_standing : {g : Graph} {ix cb b q h k : ℕ} {w : List ℕ} {u v : ℕ} → v < g.n → col b w v ≡ q → que g.n b w h ≡ u → Off g ix cb b q u w
    → Standing g ix cb b q h k w v → Standing g ix cb b q (h + 1) k w v
off_standing {g} {ix} {cb} {b} {q} {h} {k} {w} {u} {v} l p e o s = rests_in s (λ t. ⊎_elim (λ c. inl c)
    (λ (i, m, n, c). elim (ℕ_discrete i h) as (λ _. Here g.n b q (h + 1) k w (ahead g ix cb w v)) [
      | yes y ↦ absurd (o v l p s.before (sym c ∙ ap (que g.n b w) y ∙ e))
      | no y ↦ inr (i, omega arith, n, c)
    ])
    t)

pub drain_beside : {g : Graph} {b q k : ℕ} {w : List ℕ} (h : ℕ) → Pruning g b q k w → AllStanding g b q all h k w → h < k → BesideAsk g b (que g.n b w h) q k w
drain_beside h s t l = let (m, f) = s.gone h l in
    record { state = s; sound = record { out = λ v n p. (t v tt n p).0.clear; into = λ v n p. (t v tt n p).1.clear }; low = m; went = f }

pub drain_step : {g : Graph} {b q k : ℕ} {w w' : List ℕ} {k' : ℕ} (h : ℕ) → Pruning g b q k w → h < k → Beside g b (que g.n b w h) q k w w' k'
    → AllStanding g b q all h k w → AllStanding g b q all (h + 1) k' w'
drain_step {g} {b} {q} {k} {w} {w'} {k'} h s l z f v m n p =
    let (o, i) = all_kept all h z.pruned s (omega arith) f v m n p in
    let e = z.pruned.front h l in
    (off_standing n p e z.out o, off_standing n p e z.into i)

pub drain_end : {g : Graph} {b q k : ℕ} {w : List ℕ} (h : ℕ) → k ≤ h → AllStanding g b q all h k w → (v : ℕ) → v < g.n → col b w v ≡ q
    → Stands g 0 (out_at g b) b q w v × Stands (rev g) (rev_at g) (into_at g b) b q w v
drain_end {g} {b} {q} {k} {w} h l f v m p = let (o, i) = f v tt m p in (rests_in o inside, rests_in i inside)
  where
    inside : {u : ℕ} → Here g.n b q h k w u → col b w u ≡ q
    inside t = ⊎_elim (λ c. c) (λ (i, m, n, c). absurd (omega arith)) t

-- THE PART IS PASSED
-- the vertices at the places below i
abbrev pub Before : ℕ → ℕ → List ℕ → ℕ → Part
Before n b w i v = (j : ℕ) × (j < i) × (j < n) × (ord n b w j ≡ v)

module _ {g : Graph} {b h q : ℕ} {w₀ : List ℕ} (a : TrimAsk g b h q w₀) where
  pub pass_state : Pruning g b q 0 w₀
  pass_state = record {
    walking = record { out = a.fwd; into = a.bwd; small = a.small; long = omega (arith, a.long); part = a.part };
    gone = λ i l. absurd (omega arith);
    room = omega (arith, many_le (λ u. eqb (col b w₀ u) q) g.n);
  }

  pub pass_none : AllStanding g b q (Before g.n b w₀ h) 0 0 w₀
  pass_none v (j, m, n, e) l p = absurd (a.chain.head.none j m (ap (col b w₀) e ∙ p))

  pub pass_end : {k i : ℕ} {w : List ℕ} → g.n ≤ i → AllStanding g b q (Before g.n b w₀ i) 0 k w → AllStanding g b q all 0 k w
  pass_end m f v _ l p = let (j, n, e) = a.chain.placed.all v l in f v (j, omega arith, n, e) l p

  module _ {i : ℕ} {w : List ℕ} {k : ℕ} (c : Along g.n b q w₀ i) (z : Pruned g b q 0 w₀ w k) (l : i < g.n) where
    pub pass_next : get_or w (chains_at g.n b + i) 0 ≡ nxt g.n b w₀ i
    pass_next = z.aside.mid (chains_at g.n b + i) (omega arith) (omega arith)

    pub pass_place : get_or w (order_at g.n b + i) 0 ≡ ord g.n b w₀ i
    pass_place = z.aside.high (order_at g.n b + i) (omega arith)

    pub pass_low : get_or w (order_at g.n b + i) 0 < g.n
    pass_low = omega (arith, pass_place, a.chain.placed.low i l)

    pub pass_examine : ExamineAsk g b (get_or w (order_at g.n b + i) 0) 0 (rev_at g) q k w
    pass_examine = record {
      state = z.state;
      low = pass_low;
      starts = λ _. record {
        high = omega arith;
        below = omega (arith, a.bwd.below);
        out = clear_first g 0 b q w z.state.walking.out (get_or w (order_at g.n b + i) 0) pass_low;
        into = clear_first (rev g) (rev_at g) b q w z.state.walking.into (get_or w (order_at g.n b + i) 0) pass_low;
      };
    }

    pub pass_step : {w' : List ℕ} {k' : ℕ} → Examined g b (get_or w (order_at g.n b + i) 0) q k w w' k'
        → AllStanding g b q (Before g.n b w₀ i) 0 k w → AllStanding g b q (Before g.n b w₀ (nxt g.n b w₀ i)) 0 k' w'
    pass_step {w'} {k'} e f u (j, m, t, d) n p =
        elim (ℕ_discrete u (get_or w (order_at g.n b + i) 0)) as (λ _. Standing g 0 (out_at g b) b q 0 k' w' u × Standing (rev g) (rev_at g) (into_at g b) b q 0 k' w' u) [
          | yes y ↦ (let (o, s) = rw (sym y) at (e.stands (rw y at p)) in
              (rests_in o inl, rests_in s inl))
          | no y ↦ (let was : own g.n b w₀ j ≡ q = ap (col b w₀) d ∙ shrink z u n (shrink e.pruned u n p) in
              all_kept (Before g.n b w₀ i) 0 e.pruned z.state (omega arith) f u
              (j, along_less g.n b q h i j w₀ a.chain c l m was (λ s. y (sym d ∙ ap (ord g.n b w₀) s ∙ sym pass_place)), t, d) n p)
        ]
