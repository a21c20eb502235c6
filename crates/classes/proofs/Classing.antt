-- The search of the classes, one after the other.
use Prim.Native.Nat.{ℕ, ◌+◌, ◌-◌, ◌≤◌, ◌<◌}
use native.Mathlib.Omega.{arith}
use native.Mathlib.Decide.{ℕ_discrete}
use mathlib.Core.Path.{◌≡◌, refl, sym, ap, subst, ◌∙◌}
use mathlib.Core.Logic.{◌⊎◌, inl, inr, ⊎_elim, by_cases}
use mathlib.Core.Bool.{Bool, true, false, not}
use mathlib.Core.List.{List, []}
use lib.ListN.{length, get_or, set, take, drop, length-drop}
use lib.Seq.{get_or-set_same, get_or-set_other, get_or-take, get_or-drop, length-take-le}
use mir.Syntax.{w32}
use mir.Val.{Fits}
use borrow.Author.Tests.{eq-eqb, le-leb, not-true, not-false}
use Rattle.graph.specs.Graph.{Graph, Chain}
use Rattle.graph.specs.Arrows.{Arrows, on}
use Rattle.graph.specs.Parts.{Fwd, only}
use Rattle.graph.specs.Checker.{at, check1}
use Rattle.memory.proofs.Memory.{framed_none, framed_more, set_framed}
use Rattle.graph.proofs.Chains.{chain_wider, chain_last}
use Rattle.paint.specs.Distances.{Nearest, Has, MeasureAsk}
use Rattle.paint.specs.Distances as paint-distances
use Rattle.paint.proofs.Spreading.{laid_kept, low_chain}
use Rattle.memory.specs.Memory.{region, Framed}
use Rattle.classes.specs.Classes.{class, OwnLabels, Near}
use Rattle.checker.specs.Contract.{label_and_rank}
use Rattle.checker.proofs.Laws.{own_says}
use Rattle.std.specs.Bool.{MatchBool}
use Rattle.std.specs.List.{range_with_len, AllWithin, HoldsAt}
use Rattle.std.proofs.lemmas.List.FromFn.{get_or-range_with_len, length-range_with_len}
use Rattle.classes.specs.Search.{Owned, ColourAsk, Coloured, Placed, Sorted, DistancesAsk, ClassAsk, Classed, AllFound, Measured}

pub clash : (r : Bool) → r ≡ true → r ≡ false → ⊥
clash r p q = let z : ◌≡◌ {A = ℕ} 0 1 = cc in omega arith

-- an answer by cases, where the code has asked whether it is false
module _ {A B : Type 0} {r : Bool} where
  pub when : ((r ≡ true) × A) ⊎ ((r ≡ false) × B) → not r ≡ false → A
  when (inl (_, a)) q = a
  when (inr (p, _)) q = absurd (clash r (not-false r q) p)

  pub unless : ((r ≡ true) × A) ⊎ ((r ≡ false) × B) → not r ≡ true → B
  unless (inl (p, _)) q = absurd (clash r p (not-true r q))
  unless (inr (_, b)) q = b

-- what a test of each vertex in turn says of check 1
abbrev pub Passes : List ℕ → Bool → ℕ → Type 0
Passes lab r v = r ≡ check1 (label_and_rank lab []) v

pub own_no : (lab : List ℕ) {v n : ℕ} → v < n → Passes lab false v → OwnLabels n lab → ⊥
unfolding check1
own_no lab {v} l fails o = let (p, z) = o v l in clash (check1 (label_and_rank lab []) v) (rw (le-leb _ _ p, eq-eqb _ _ z)) (sym fails)

place : (n k : ℕ) → k < n → get_or (range_with_len 0 n) k 0 ≡ k
place n k l = get_or-range_with_len 0 n k 0 l ∙ omega arith

pub own_told : (lab : List ℕ) (n : ℕ) (r : Bool)
    → MatchBool r (AllWithin (Passes lab true) (range_with_len 0 n) 0 (length (range_with_len 0 n))) ((k : ℕ) × (k < length (range_with_len 0 n)) × HoldsAt (Passes lab false) (range_with_len 0 n) k)
    → Owned n lab r
own_told lab n true all = inl (refl, λ v l. own_says (label_and_rank lab []) v (sym (rw (place n v l) at (all v 0 (omega arith) (rw (length-range_with_len 0 n) l)))))
own_told lab n false (k, l, fails) = let m : k < n = rw (length-range_with_len 0 n) at l in inr (refl, own_no lab m (rw (place n k m) at (fails 0)))

-- what a test of each distance in turn says
module _ (n b : ℕ) (w xs : List ℕ) (e : xs ≡ take (b + n - b) (drop b w)) (room : b + n ≤ length w) where
  long : length xs ≡ n
  long = omega (arith, ap length e, length-take-le (b + n - b) (drop b w) (omega (arith, length-drop b w)))

  lies : (k : ℕ) → k < n → get_or xs k 0 ≡ region b w k
  lies k l = ap (λ (xs : List ℕ). get_or xs k 0) e ∙ get_or-take (b + n - b) (drop b w) k 0 (omega arith) ∙ get_or-drop b w k 0

  pub found_told : (r : Bool) → MatchBool r (AllWithin (λ y. y ≤ n) xs 0 (length xs)) ((k : ℕ) × (k < length xs) × HoldsAt (λ y. n < y) xs k) → AllFound n b w r
  found_told true all = inl (refl, λ v l. rw (lies v l) at (all v 0 (omega arith) (omega (arith, long))))
  found_told false (k, l, far) = let m : k < n = omega (arith, long) in inr (refl, (k, m, rw (lies k m) at (far 0)))

module _ {n : ℕ} {lab : List ℕ} {b : ℕ} {w₀ : List ℕ} (a : ColourAsk n lab b w₀) where
  pub colour_none : Coloured n lab b 0 w₀ w₀
  colour_none = record { framed = framed_none b (b + n) w₀; each = λ v l. absurd (omega arith) }

  pub colour_fits : {v : ℕ} → v < n → Fits w32 (n + 1 + at lab v)
  colour_fits {v} l = record { fits = omega (arith, a.small, (a.own v l).0) }

  pub colour_step : {v : ℕ} {w : List ℕ} → Coloured n lab b v w₀ w → v < n → Coloured n lab b (v + 1) w₀ (set w (b + v) (n + 1 + at lab v))
  colour_step {v} {w} x l =
      record {
        framed = framed_more x.framed (set_framed w b (b + n) (b + v) (n + 1 + at lab v) (omega arith) (omega arith));
        each = λ u m. by_cases (ℕ_discrete u v)
            (λ q. rw q (get_or-set_same w (b + v) (n + 1 + at lab v) 0 (omega (arith, a.fits, x.framed.long))))
            (λ o. get_or-set_other w (b + v) (b + u) (n + 1 + at lab v) 0 (λ q. o (omega arith)) ∙ x.each u (omega arith));
      }

-- what holds of the call holds after a change of colours
pub ask_kept : {g : Graph} {lab : List ℕ} {ix b : ℕ} {w w' : List ℕ} → DistancesAsk g lab ix b w → ((j : ℕ) → j < b → get_or w' j 0 ≡ get_or w j 0) → length w' ≡ length w → DistancesAsk g lab ix b w'
ask_kept a low long = record { laid = laid_kept low a.laid; small = a.small; size = a.size; own = a.own; fits = omega (arith, a.fits) }

-- and so with the classes below l searched
pub class_ask : {g : Graph} {lab : List ℕ} {ix b l : ℕ} {w₀ w : List ℕ} → ClassAsk g lab ix b 0 w₀ → l ≤ g.n → Framed b (b + g.n + g.n) w₀ w → Sorted g lab b l w → ClassAsk g lab ix b l w
class_ask a o k s = record { ask = ask_kept a.ask k.low k.long; low = o; sorted = s }

module _ {g : Graph} {lab : List ℕ} {ix b l : ℕ} {w : List ℕ} (a : ClassAsk g lab ix b l w) (low : l < g.n) where
  -- l is no label: no vertex has it
  pub class_skip : (at lab l ≡ l → ⊥) → Classed g lab b (l + 1) w w
  class_skip o = record { kept = framed_none b (b + g.n + g.n) w; sorted = λ v m. go v m (a.sorted v m) }
    where
      go : (v : ℕ) → v < g.n → ((at lab v < l) × Placed g lab (region b w v) v) ⊎ ((l ≤ at lab v) × (region b w v ≡ g.n + 1 + at lab v))
          → ((at lab v < l + 1) × Placed g lab (region b w v) v) ⊎ ((l + 1 ≤ at lab v) × (region b w v ≡ g.n + 1 + at lab v))
      go v m (inl (p, q)) = inl (omega arith, q)
      go v m (inr (p, q)) = by_cases (ℕ_discrete (at lab v) l) (λ z. absurd (o (rw z at (a.ask.own v m).1))) (λ z. inr (omega arith, q))

  pub measure_ask : MeasureAsk g (g.n + 1 + l) ix b l w
  measure_ask = record { laid = a.ask.laid; small = a.ask.small; fits = a.ask.fits; far = omega arith; start = low }

  -- just the class has its colour
  has_class : (v : ℕ) → v < g.n → Has (g.n + 1 + l) b w v → class lab l v
  has_class v m q = go (a.sorted v m)
    where
      go : ((at lab v < l) × Placed g lab (region b w v) v) ⊎ ((l ≤ at lab v) × (region b w v ≡ g.n + 1 + at lab v)) → at lab v ≡ l
      go (inl (p, inl (y, _))) = absurd (omega arith)
      go (inl (p, inr (y, _))) = omega arith
      go (inr (p, y)) = omega arith

  class_has : (v : ℕ) → v < g.n → class lab l v → Has (g.n + 1 + l) b w v
  class_has v m q = go (a.sorted v m)
    where
      go : ((at lab v < l) × Placed g lab (region b w v) v) ⊎ ((l ≤ at lab v) × (region b w v ≡ g.n + 1 + at lab v)) → get_or w (b + v) 0 ≡ g.n + 1 + l
      go (inl (p, _)) = absurd (omega arith)
      go (inr (p, y)) = omega arith

  chain_in : {h v : ℕ} → Chain g (Has (g.n + 1 + l) b w) h l v → Chain g (class lab l) h l v
  chain_in c = chain_wider (λ u t. has_class u t.0 t.1) (low_chain a.ask.laid.valid low c)

  chain_out : {h v : ℕ} → Chain g (class lab l) h l v → Chain g (Has (g.n + 1 + l) b w) h l v
  chain_out c = chain_wider (λ u t. class_has u t.0 t.1) (low_chain a.ask.laid.valid low c)

  module _ {w' : List ℕ} {k : ℕ} (x : paint-distances.Measured g b (Has (g.n + 1 + l) b w) (only l) w w' k) where
    few_low : (v : ℕ) → v < g.n → Fwd g (Has (g.n + 1 + l) b w) (only l) v → region b w' v < g.n
    few_low v m f = let (i, j, q, y) = x.listed v m f in omega (arith, x.few)

    placed : (v : ℕ) → v < g.n → at lab v ≡ l → Placed g lab (region b w' v) v
    placed v m q = go (x.each v m)
      where
        go : Nearest g (Has (g.n + 1 + l) b w) (only l) v (region b w' v) ⊎ ((Fwd g (Has (g.n + 1 + l) b w) (only l) v → ⊥) × (region b w' v ≡ region b w v)) → Placed g lab (region b w' v) v
        go (inl z) = near z z.chain
          where
            near : Nearest g (Has (g.n + 1 + l) b w) (only l) v (region b w' v) → (y : ℕ) × (l ≡ y) × Chain g (Has (g.n + 1 + l) b w) (region b w' v) y v → Placed g lab (region b w' v) v
            near z (y, e, c) =
                let c' : Chain g (Has (g.n + 1 + l) b w) (region b w' v) l v = subst (λ (z : ℕ). Chain g (Has (g.n + 1 + l) b w) (region b w' v) z v) (sym e) c in
                inl (
                  few_low v m (l, refl, (region b w' v, c')),
                  record {
                    chain = rw q (chain_in c');
                    shortest = λ h t. z.shortest l h refl (chain_out (rw q at t));
                  },
                )
        go (inr (o, z)) = inr (rw q (z ∙ class_has v m q), λ h t. o (l, refl, (h, chain_out (rw q at t))))

    kept_colour : (v : ℕ) → v < g.n → (at lab v ≡ l → ⊥) → region b w' v ≡ region b w v
    kept_colour v m o = go (x.each v m)
      where
        go : Nearest g (Has (g.n + 1 + l) b w) (only l) v (region b w' v) ⊎ ((Fwd g (Has (g.n + 1 + l) b w) (only l) v → ⊥) × (region b w' v ≡ region b w v)) → region b w' v ≡ region b w v
        go (inl z) = let (y, e, c) = z.chain in absurd (o (has_class v m (chain_last c)))
        go (inr (_, z)) = z

    pub class_search : Classed g lab b (l + 1) w w'
    class_search = record { kept = x.kept; sorted = λ v m. by_cases (ℕ_discrete (at lab v) l) (λ q. inl (omega arith, placed v m q)) (λ o. rw (kept_colour v m o) (go v o (a.sorted v m))) }
      where
        go : (v : ℕ) → (at lab v ≡ l → ⊥) → ((at lab v < l) × Placed g lab (region b w v) v) ⊎ ((l ≤ at lab v) × (region b w v ≡ g.n + 1 + at lab v))
            → ((at lab v < l + 1) × Placed g lab (region b w v) v) ⊎ ((l + 1 ≤ at lab v) × (region b w v ≡ g.n + 1 + at lab v))
        go v o (inl (p, q)) = inl (omega arith, q)
        go v o (inr (p, q)) = inr (omega arith, q)

pub colour_ask : {n : ℕ} {y : Arrows} {lab : List ℕ} {ix b : ℕ} {w : List ℕ} → DistancesAsk (on n y) lab ix b w → ColourAsk n lab b w
colour_ask a = record { small = a.small; size = a.size; own = a.own; fits = omega (arith, a.fits) }

module _ {g : Graph} {lab : List ℕ} {ix b : ℕ} {w w₁ : List ℕ} (a : DistancesAsk g lab ix b w) (x : Coloured g.n lab b g.n w w₁) where
  pub classes_ask : ClassAsk g lab ix b 0 w₁
  classes_ask = record { ask = ask_kept a x.framed.low x.framed.long; low = omega arith; sorted = λ v m. inr (omega arith, x.each v m) }

  pub distances_end : {w' : List ℕ} {r : Bool} → Classed g lab b g.n w₁ w' → AllFound g.n b w' r → Measured g lab b w w' r
  distances_end {w'} c f =
      record {
        kept =
            record {
              low = λ j l. c.kept.low j l ∙ x.framed.low j l;
              high = λ j l. c.kept.high j l ∙ x.framed.high j (omega arith);
              long = c.kept.long ∙ x.framed.long;
            };
        either =
            ⊎_elim
            (λ (q, all). inl (q, (λ v m. (near v (all v m) (here v m)).1, λ v m. (near v (all v m) (here v m)).0)))
            (λ (q, (v, m, h)). inr (q, (v, m, far v h (here v m))))
            f;
      }
    where
      here : (v : ℕ) → v < g.n → Placed g lab (region b w' v) v
      here v m = pick (c.sorted v m)
        where
          pick : ((at lab v < g.n) × Placed g lab (region b w' v) v) ⊎ ((g.n ≤ at lab v) × (region b w' v ≡ g.n + 1 + at lab v)) → Placed g lab (region b w' v) v
          pick (inl (_, p)) = p
          pick (inr (p, _)) = absurd (omega (arith, (a.own v m).0))

      near : (v : ℕ) → region b w' v ≤ g.n → Placed g lab (region b w' v) v → (region b w' v < g.n) × Near g lab v (region b w' v)
      near v h (inl p) = p
      near v h (inr (p, _)) = absurd (omega arith)

      far : (v : ℕ) → g.n < region b w' v → Placed g lab (region b w' v) v → (h : ℕ) → Chain g (class lab (at lab v)) h (at lab v) v → ⊥
      far v h (inl (p, _)) = absurd (omega arith)
      far v h (inr (_, p)) = p
