-- The loops that look: fronts taken off from behind, edges passed one after the other.
use Prim.Native.Nat.{ℕ, ◌+◌, ◌-◌, ◌≤◌, ◌<◌}
use native.Mathlib.Omega.{arith}
use native.Mathlib.Decide.{ℕ_discrete, dec_lt}
use mathlib.Core.Path.{◌≡◌}
use mathlib.Core.Logic.{◌⊎◌, inl, inr, by_cases}
use mathlib.Core.List.{List}
use lib.ListN.{length, get_or}
use Rattle.moves.proofs.Parts.{part, part_long, part_at}
use Rattle.moves.specs.Moves.{hue_of, other_of, front_of, CutAsk, Cut, BoundAsk, Bound, ScanAsk, Scanned}

-- TAKING OFF
-- k of the fronts are left, and those taken off are greater than y
pub record Cutting (y : ℕ) (fronts : List ℕ) (k : ℕ) : Type 0 where
  pub some : 0 < k
  pub most : k ≤ length fronts
  pub past : (j : ℕ) → k ≤ j → j < length fronts → y < get_or fronts j 0

module _ {y : ℕ} {fronts : List ℕ} (ask : CutAsk y fronts) where
  pub cut_none : Cutting y fronts (length fronts)
  cut_none = record { some = ask.some; most = omega arith; past = λ j p q. absurd (omega arith) }

  -- the first is not greater, so it is never taken off
  pub cut_step : {k : ℕ} → Cutting y fronts k → y < get_or fronts (k - 1) 0 → Cutting y fronts (k - 1)
  cut_step {k} x h = record {
    some = by_cases (ℕ_discrete k 1) (λ e. let z : y < get_or fronts 0 0 = rw e at h in absurd (omega (arith, ask.first))) (λ o. omega (arith, x.some));
    most = omega (arith, x.most);
    past = λ j p q. by_cases (ℕ_discrete j (k - 1)) (λ e. rw e h) (λ o. x.past j (omega arith) q);
  }

pub cut_end : {y : ℕ} {fronts : List ℕ} {k : ℕ} → Cutting y fronts k → get_or fronts (k - 1) 0 ≤ y → Cut y fronts k
cut_end x o = record { some = x.some; most = x.most; last = o; past = x.past }

-- a colour that is seen and not done is one of the stack
pub cut_of : {n y : ℕ} {fronts : List ℕ} → BoundAsk n y fronts → n ≤ y → CutAsk y fronts
cut_of a h = record { some = a.some; first = a.first (by_cases (ℕ_discrete _ _) (λ e. absurd (a.seen e)) (λ o. omega arith)) }

-- the same where the k fronts stand in the memory from a on
record Taken (a k y : ℕ) (w : List ℕ) (r : ℕ) : Type 0 where
  some : 0 < r
  most : r ≤ k
  last : get_or w (a + (r - 1)) 0 ≤ y
  past : (j : ℕ) → r ≤ j → j < k → y < get_or w (a + j) 0

taken : {a k y : ℕ} {w : List ℕ} {r : ℕ} → a + k ≤ length w → Cut y (part w a (a + k)) r → Taken a k y w r
taken {a} {k} {w = w} {r = r} room u =
    let long = part_long w a (a + k) room in
    let same = part_at w a (a + k) room in
    record {
      some = u.some;
      most = omega (arith, long, u.most);
      last = omega (arith, u.last, same (r - 1) (omega (arith, long, u.some, u.most)));
      past = λ j p q. omega (arith, u.past j p (omega (arith, long)), same j (omega arith));
    }

-- the last that is left is at most the last that was
cut_falls : {a k y : ℕ} {w : List ℕ} {r : ℕ} → 0 < k → Taken a k y w r → get_or w (a + (r - 1)) 0 ≤ get_or w (a + (k - 1)) 0
cut_falls {a} {k} {y} {w} {r} h u = by_cases (ℕ_discrete r k) (λ e. rw e (omega arith)) (λ o. omega (arith, u.last, u.past (k - 1) (omega (arith, u.most)) (omega arith)))

-- PASSING EDGES
-- a scan that ends at its end c has passed all before c
module _ {n b c₀ h k₀ : ℕ} {l w : List ℕ} (a : ScanAsk n b c₀ h k₀ l w) where
  pub scan_none : Scanned n b c₀ c₀ k₀ l w c₀ k₀
  scan_none = record {
    more = omega arith;
    most = omega arith;
    some = a.some;
    less = omega arith;
    passed = λ i p q. absurd (omega arith);
    joined = λ q. absurd (omega arith);
    unseen = λ q. absurd (omega arith);
  }

  -- the first front is the smallest colour of the stack, so it stays
  fronts_fit : {k : ℕ} → k ≤ k₀ → b + n + k ≤ length w
  fronts_fit m = omega (arith, a.fronts, a.room)

  pub bound_ask : {c k : ℕ} → Scanned n b c₀ c k₀ l w c k → (hue_of l (other_of n w c) ≡ n → ⊥) → BoundAsk n (hue_of l (other_of n w c)) (part w (b + n) (b + n + k))
  bound_ask {k = k} x o =
      let room = fronts_fit x.less in
      record {
        some = omega (arith, part_long w (b + n) (b + n + k) room, x.some);
        first = λ m. omega (arith, a.bottom, part_at w (b + n) (b + n + k) room 0 (omega (arith, x.some)));
        seen = o;
      }

module _ {n b c₀ k₀ : ℕ} {l w : List ℕ} {c k : ℕ} (x : Scanned n b c₀ c k₀ l w c k) where
  -- the edge at c leads to a done vertex
  passed_done : hue_of l (other_of n w c) < n → Scanned n b c₀ (c + 1) k₀ l w (c + 1) k
  passed_done m = record {
    more = omega (arith, x.more);
    most = omega arith;
    some = x.some;
    less = x.less;
    passed = λ i p q. by_cases (ℕ_discrete i c) (λ e. rw e (inl m)) (λ o. x.passed i p (omega arith));
    joined = λ q. let (i, p, r, m, f) = x.joined q in (i, p, omega arith, m, f);
    unseen = λ q. absurd (omega arith);
  }

  -- it leads to one of the stack: those taken off here are behind it, and those taken off before are behind these
  module _ {r : ℕ} (m : n < hue_of l (other_of n w c)) (u : Taken (b + n) k (hue_of l (other_of n w c)) w r) where
    -- what was passed stays at or behind the last front
    still : (v : ℕ) → (v < n) ⊎ ((n < v) × (front_of n b w (k - 1) ≤ v)) → (v < n) ⊎ ((n < v) × (front_of n b w (r - 1) ≤ v))
    still v (inl d) = inl d
    still v (inr (d, f)) = inr (d, omega (arith, cut_falls x.some u))

    -- v, at or behind the last front, was below front j: who takes the last front off is so too
    behind : (j v : ℕ) → r < k → n < v → (v < n) ⊎ ((n < v) × (front_of n b w (k - 1) ≤ v)) → v < front_of n b w j → hue_of l (other_of n w c) < front_of n b w j
    behind j v q d (inl e) f = absurd (omega arith)
    behind j v q d (inr (e, g)) f = omega (arith, u.past (k - 1) (omega arith) (omega arith))

    all_behind : r < k → (j : ℕ) → r ≤ j → j < k₀ → hue_of l (other_of n w c) < front_of n b w j
    all_behind q j p h = elim (dec_lt j k) as (λ _. hue_of l (other_of n w c) < front_of n b w j) [
      | yes f ↦ u.past j p f
      | no f ↦ (let (i, s, t, d, g) = x.joined (omega arith) in behind j (hue_of l (other_of n w i)) q d (x.passed i s t) (g j (omega arith) h))
    ]

    passed_stack : Scanned n b c₀ (c + 1) k₀ l w (c + 1) r
    passed_stack = record {
      more = omega (arith, x.more);
      most = omega arith;
      some = u.some;
      less = omega (arith, u.most, x.less);
      passed = λ i p q. by_cases (ℕ_discrete i c) (λ e. rw e (inr (m, u.last))) (λ o. still (hue_of l (other_of n w i)) (x.passed i p (omega arith)));
      joined = λ q. by_cases (ℕ_discrete r k)
          (λ e. let (i, p, t, d, f) = x.joined (omega arith) in (i, p, omega arith, d, λ j s. f j (omega arith)))
          (λ o. (c, x.more, omega arith, m, all_behind (omega (arith, u.most))));
      unseen = λ q. absurd (omega arith);
    }

  pub scan_step : {r h : ℕ} → ScanAsk n b c₀ h k₀ l w → Bound n (hue_of l (other_of n w c)) (part w (b + n) (b + n + k)) r → Scanned n b c₀ (c + 1) k₀ l w (c + 1) r
  scan_step {r} a (inl (m, e)) = let s : r ≡ k = omega (arith, e, part_long w (b + n) (b + n + k) (fronts_fit a x.less)) in rw s (passed_done m)
  scan_step a (inr (m, u)) = passed_stack m (taken (fronts_fit a x.less) u)

  -- at the end, or at a vertex that is not seen
  pub scan_end : {h : ℕ} → c ≤ h → (c < h → hue_of l (other_of n w c) ≡ n) → Scanned n b c₀ h k₀ l w c k
  scan_end o f = record { more = x.more; most = o; some = x.some; less = x.less; passed = x.passed; joined = x.joined; unseen = f }
