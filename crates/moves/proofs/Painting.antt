-- A segment is closed: the smallest of those who stand in it, and their colour.
use Prim.Native.Nat.{ℕ, ◌+◌, ◌-◌, ◌≤◌, ◌<◌}
use native.Mathlib.Omega.{arith}
use native.Mathlib.Decide.{ℕ_discrete}
use mathlib.Core.Path.{◌≡◌, refl, sym, ap, ◌∙◌}
use mathlib.Core.Logic.{by_cases}
use mathlib.Core.List.{List}
use lib.ListN.{length, get_or, set, length-set}
use lib.Seq.{get_or-set_same, get_or-set_other}
use Rattle.moves.proofs.Parts.{part, part_long, part_at, part_of}
use Rattle.moves.specs.Moves.{hue_of, Lowest, PaintAsk, Painted, CloseAsk}

-- those from a up to i have the colour x
pub paint_none : (a x : ℕ) (w l : List ℕ) → Painted a a x w l l
paint_none a x w l = record { long = refl; here = λ j p q. absurd (omega arith); else = λ v o. refl }

module _ {a e x : ℕ} {l₀ w : List ℕ} (ask : PaintAsk a e l₀ w) (i : ℕ) (l : List ℕ) (order : a ≤ i) (low : i < e) (z : Painted a i x w l₀ l) where
  pub paint_fits : get_or w i 0 < length l
  paint_fits = omega (arith, z.long, ask.vertex i order low)

  pub paint_step : Painted a (i + 1) x w l₀ (set l (get_or w i 0) x)
  paint_step =
      let u = get_or w i 0 in
      record {
        long = length-set l u x ∙ z.long;
        -- one who stands there twice is painted twice
        here = λ j p q. by_cases (ℕ_discrete (get_or w j 0) u)
            (λ e. rw e (get_or-set_same l u x 0 paint_fits))
            (λ o. get_or-set_other l u (get_or w j 0) x 0 o ∙ z.here j p (by_cases (ℕ_discrete j i) (λ e. absurd (o (ap (λ (j : ℕ). get_or w j 0) e))) (λ o. omega arith)));
        else = λ v o. get_or-set_other l u v x 0 (λ e. o i order (omega arith) (sym e)) ∙ z.else v (λ j p q. o j p (omega arith));
      }

-- what is said of a part by itself is said of it in the memory
module _ {w : List ℕ} {a e : ℕ} (order : a ≤ e) (fits : e ≤ length w) where
  pub paint_part : {l : List ℕ} → PaintAsk a e l w → PaintAsk 0 (length (part w a e)) l (part w a e)
  paint_part ask = record {
    order = omega arith;
    room = omega arith;
    vertex = λ j p q. let h : j < e - a = omega (arith, part_long w a e fits) in rw (part_at w a e fits j h) (ask.vertex (a + j) (omega arith) (omega arith));
  }

  pub lowest_part : {r : ℕ} → Lowest 0 (length (part w a e)) (part w a e) r → Lowest a e w r
  lowest_part {r} z = record {
    found = let (j, _, q, s) = z.found in (a + j, omega arith, omega (arith, part_long w a e fits), s ∙ part_at w a e fits j (omega (arith, part_long w a e fits)));
    least = λ j p q. let h : r ≤ get_or (part w a e) (j - a) 0 = z.least (j - a) (omega arith) (omega (arith, part_long w a e fits)) in omega (arith, h, part_of w a e fits j p q);
  }

  pub painted_part : {x : ℕ} {l l' : List ℕ} → Painted 0 (length (part w a e)) x (part w a e) l l' → Painted a e x w l l'
  painted_part {x} {l} {l'} z = record {
    long = z.long;
    here = λ j p q. sym (ap (hue_of l') (part_of w a e fits j p q)) ∙ z.here (j - a) (omega arith) (omega (arith, part_long w a e fits));
    else = λ v o. z.else v (λ j p q s. let h : j < e - a = omega (arith, part_long w a e fits) in o (a + j) (omega arith) (omega arith) (sym (part_at w a e fits j h) ∙ s));
  }

module _ {n b u s k : ℕ} {l w : List ℕ} (ask : CloseAsk n b u s k l w) where
  pub close_order : b + (hue_of l u - (n + 1)) ≤ b + s
  close_order = omega (arith, ask.above, ask.below)

  pub close_room : b + s ≤ length w
  close_room = omega (arith, ask.room, ask.stack)

  pub close_some : 0 < length (part w (b + (hue_of l u - (n + 1))) (b + s))
  close_some = omega (arith, part_long w (b + (hue_of l u - (n + 1))) (b + s) close_room, ask.above, ask.below)

-- who stands in the segment is a vertex
pub close_paint : {n b u s k : ℕ} {l w : List ℕ} → CloseAsk n b u s k l w → PaintAsk (b + (hue_of l u - (n + 1))) (b + s) l w
close_paint {n} {b} {l = l} {w = w} ask = record {
  order = omega (arith, ask.above, ask.below);
  room = omega (arith, ask.room, ask.stack);
  vertex = λ j p q.
      let e : b + (j - b) ≡ j = omega arith in
      let h : get_or w j 0 < n = rw e at (ask.low (j - b) (omega arith)) in
      omega (arith, h, ask.column);
}
