-- Lent memory: what is said of every place fixes the whole; the frame, and stores into it.
use Prim.Native.Nat.{ℕ, ◌+◌, ◌≤◌, ◌<◌}
use native.Mathlib.Omega.{arith}
use native.Mathlib.Decide.{ℕ_discrete, dec_lt}
use mathlib.Core.Path.{◌≡◌, refl, sym, ap, ◌∙◌}
use mathlib.Core.Logic.{by_cases}
use mathlib.Core.List.{List}
use lib.ListN.{length, get_or, set, length-set}
use lib.Seq.{ext_get_or, get_or-set_same, get_or-set_other}
use Rattle.memory.specs.Memory.{Zeroed, Framed, Put, Filled}
use Rattle.memory.specs.Decomposer.{Touched, Inside}

pub zeroed_one : {k : ℕ} {w a b : List ℕ} → Zeroed k w a → Zeroed k w b → a ≡ b
zeroed_one {k} {w} {a} {b} x y = ext_get_or 0 a b (x.long ∙ sym y.long) (λ j l. elim (dec_lt j k) as (λ _. get_or a j 0 ≡ get_or b j 0) [
  | yes h ↦ x.front j h ∙ sym (y.front j h)
  | no h ↦ x.rest j (omega arith) ∙ sym (y.rest j (omega arith))
])

-- what was written below k before the zeroing does not count
pub zeroed_after : {k : ℕ} {w w₁ w₂ : List ℕ} → length w₁ ≡ length w → ((j : ℕ) → k ≤ j → get_or w₁ j 0 ≡ get_or w j 0) → Zeroed k w₁ w₂ → Zeroed k w w₂
zeroed_after l f z = record { long = z.long ∙ l; front = z.front; rest = λ j h. z.rest j h ∙ f j h }

pub framed_none : (a e : ℕ) (w : List ℕ) → Framed a e w w
framed_none a e w = record { long = refl; low = λ j h. refl; high = λ j h. refl }

pub framed_more : {a e : ℕ} {w w₁ w₂ : List ℕ} → Framed a e w w₁ → Framed a e w₁ w₂ → Framed a e w w₂
framed_more f g = record { long = g.long ∙ f.long; low = λ j h. g.low j h ∙ f.low j h; high = λ j h. g.high j h ∙ f.high j h }

pub framed_wider : {a e a' e' : ℕ} {w w' : List ℕ} → a' ≤ a → e ≤ e' → Framed a e w w' → Framed a' e' w w'
framed_wider p q f = record { long = f.long; low = λ j m. f.low j (omega arith); high = λ j m. f.high j (omega arith) }

-- the decomposer's frame
pub touched_none : (n b e : ℕ) (w : List ℕ) → Touched n b e w w
touched_none n b e w = record { low = λ j h. refl; mid = λ j h l. refl; high = λ j h. refl; long = refl }

pub touched_more : {n b e : ℕ} {w w₁ w₂ : List ℕ} → Touched n b e w w₁ → Touched n b e w₁ w₂ → Touched n b e w w₂
touched_more x y = record { low = λ j h. y.low j h ∙ x.low j h; mid = λ j h l. y.mid j h l ∙ x.mid j h l; high = λ j h. y.high j h ∙ x.high j h; long = y.long ∙ x.long }

-- colours and the queue are inside
pub framed_inside : {n b : ℕ} {w w' : List ℕ} → Framed b (b + n + n) w w' → Inside n b w w'
framed_inside k = record { low = k.low; mid = λ j h l. k.high j (omega arith); high = λ j h. k.high j (omega arith); long = k.long }

-- one store
pub set_framed : (w : List ℕ) (a e p x : ℕ) → a ≤ p → p < e → Framed a e w (set w p x)
set_framed w a e p x l h =
    record {
      long = length-set w p x;
      low = λ j m. get_or-set_other w p j x 0 (λ q. omega arith);
      high = λ j m. get_or-set_other w p j x 0 (λ q. omega arith);
    }

pub put_step : {a i : ℕ} {f : ℕ → ℕ} {w₀ w : List ℕ} (x : ℕ) → x ≡ f i → a + i < length w → Put a i f w₀ w → Put a (i + 1) f w₀ (set w (a + i) x)
put_step {a} {i} {f} {w₀} {w} x e l p =
    record {
      framed = framed_more (framed_wider (omega arith) (omega arith) p.framed) (set_framed w a (a + (i + 1)) (a + i) x (omega arith) (omega arith));
      each = λ j k. by_cases (ℕ_discrete j i)
          (λ q. rw q (get_or-set_same w (a + i) x 0 l ∙ e))
          (λ o. get_or-set_other w (a + i) (a + j) x 0 (λ q. o (omega arith)) ∙ p.each j (omega arith));
    }

-- zeros from 0 on
pub filled_zeroed : {k : ℕ} {w w' : List ℕ} → Filled 0 k 0 w w' → Zeroed k w w'
filled_zeroed {k} {w} {w'} p =
    record {
      long = p.framed.long;
      front = λ j l. ap (λ (x : ℕ). get_or w' x 0) (omega arith) ∙ p.each j l;
      rest = λ j l. p.framed.high j (omega arith);
    }
