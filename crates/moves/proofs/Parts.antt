-- A part of the memory, lent by itself: what stands in it.
use Prim.Native.Nat.{ℕ, ◌+◌, ◌-◌, ◌≤◌, ◌<◌}
use native.Mathlib.Omega.{arith}
use mathlib.Core.Path.{◌≡◌, ap, ◌∙◌}
use mathlib.Core.List.{List}
use lib.ListN.{length, get_or, take, drop, length-take, length-drop}
use lib.Seq.{get_or-take, get_or-drop}

-- w from a up to e
abbrev pub part : List ℕ → ℕ → ℕ → List ℕ
part w a e = take (e - a) (drop a w)

module _ (w : List ℕ) (a e : ℕ) (fits : e ≤ length w) where
  pub part_long : length (part w a e) ≡ e - a
  part_long = omega (arith, length-take (e - a) (drop a w), length-drop a w)

  pub part_at : (j : ℕ) → j < e - a → get_or (part w a e) j 0 ≡ get_or w (a + j) 0
  part_at j h = get_or-take (e - a) (drop a w) j 0 h ∙ get_or-drop a w j 0

  -- the same from the memory's side
  pub part_of : (j : ℕ) → a ≤ j → j < e → get_or (part w a e) (j - a) 0 ≡ get_or w j 0
  part_of j p q = part_at (j - a) (omega arith) ∙ ap (λ (i : ℕ). get_or w i 0) (omega arith)
