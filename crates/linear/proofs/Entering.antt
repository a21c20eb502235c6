-- What stands where in memory after a vertex is entered.
use Prim.Native.Nat.{ℕ, ◌+◌, ◌*◌, ◌-◌, ◌≤◌, ◌<◌}
use native.Mathlib.Omega.{arith}
use mathlib.Core.Path.{◌≡◌, ◌∙◌}
use mathlib.Core.Logic.{◌⊎◌, inl, inr, ⊎_elim}
use mathlib.Core.List.{List}
use lib.ListN.{length, get_or, set, length-set}
use lib.Seq.{get_or-set_same, get_or-set_other}
use Rattle.memory.specs.Memory.{Framed}
use Rattle.memory.proofs.Memory.{framed_more, set_framed}
use Rattle.moves.specs.Moves.{hue_of, other_of, stack_of, front_of, path_of, cursor_of, EnterAsk, entered_colours, entered}

module _ {n b u d s k p : ℕ} {l w : List ℕ} (q : EnterAsk n b u d s k p l w) where
  abbrev w₁ : List ℕ
  w₁ = set w (b + s) (other_of n w d)

  abbrev w₂ : List ℕ
  w₂ = set w₁ (b + n + k) (n + 1 + s)

  abbrev w₃ : List ℕ
  w₃ = set w₂ (b + 2 * n + 2 * (p - 1)) u

  abbrev w₄ : List ℕ
  w₄ = entered n b u d s k p w

  long₁ : length w₁ ≡ length w
  long₁ = length-set w (b + s) (other_of n w d)

  long₂ : length w₂ ≡ length w
  long₂ = length-set w₁ (b + n + k) (n + 1 + s) ∙ long₁

  long₃ : length w₃ ≡ length w
  long₃ = length-set w₂ (b + 2 * n + 2 * (p - 1)) u ∙ long₂

  pub in_frame : Framed b (b + 4 * n) w w₄
  in_frame =
      framed_more (framed_more (framed_more
      (set_framed w b (b + 4 * n) (b + s) (other_of n w d) (omega arith) (omega (arith, q.stack)))
      (set_framed w₁ b (b + 4 * n) (b + n + k) (n + 1 + s) (omega arith) (omega (arith, q.fronts))))
      (set_framed w₂ b (b + 4 * n) (b + 2 * n + 2 * (p - 1)) u (omega arith) (omega (arith, q.path, q.some))))
      (set_framed w₃ b (b + 4 * n) (b + 2 * n + 2 * (p - 1) + 1) (d + 1) (omega arith) (omega (arith, q.path, q.some)))

  -- beside the path's two places
  off_path : (j : ℕ) → (j < b + 2 * n) ⊎ (j < b + 2 * n + 2 * (p - 1)) → get_or w₄ j 0 ≡ get_or w₂ j 0
  off_path j h =
      let m : j < b + 2 * n + 2 * (p - 1) = ⊎_elim (λ l. omega arith) (λ l. l) h in
      get_or-set_other w₃ (b + 2 * n + 2 * (p - 1) + 1) j (d + 1) 0 (λ e. omega arith) ∙ get_or-set_other w₂ (b + 2 * n + 2 * (p - 1)) j u 0 (λ e. omega arith)

  pub stack_new : stack_of b w₄ s ≡ other_of n w d
  stack_new =
      off_path (b + s) (inl (omega (arith, q.stack)))
      ∙ get_or-set_other w₁ (b + n + k) (b + s) (n + 1 + s) 0 (λ e. omega (arith, q.stack))
      ∙ get_or-set_same w (b + s) (other_of n w d) 0 (omega (arith, q.stack, q.room))

  pub stack_old : (i : ℕ) → i < s → stack_of b w₄ i ≡ stack_of b w i
  stack_old i m =
      off_path (b + i) (inl (omega (arith, q.stack)))
      ∙ get_or-set_other w₁ (b + n + k) (b + i) (n + 1 + s) 0 (λ e. omega (arith, q.stack))
      ∙ get_or-set_other w (b + s) (b + i) (other_of n w d) 0 (λ e. omega arith)

  pub front_new : front_of n b w₄ k ≡ n + 1 + s
  front_new =
      off_path (b + n + k) (inl (omega (arith, q.fronts)))
      ∙ get_or-set_same w₁ (b + n + k) (n + 1 + s) 0 (omega (arith, q.fronts, q.room, long₁))

  pub front_old : (j : ℕ) → j < k → front_of n b w₄ j ≡ front_of n b w j
  front_old j m =
      off_path (b + n + j) (inl (omega (arith, q.fronts)))
      ∙ get_or-set_other w₁ (b + n + k) (b + n + j) (n + 1 + s) 0 (λ e. omega arith)
      ∙ get_or-set_other w (b + s) (b + n + j) (other_of n w d) 0 (λ e. omega (arith, q.stack))

  pub path_new : path_of n b w₄ (p - 1) ≡ u
  path_new =
      get_or-set_other w₃ (b + 2 * n + 2 * (p - 1) + 1) (b + 2 * n + 2 * (p - 1)) (d + 1) 0 (λ e. omega arith)
      ∙ get_or-set_same w₂ (b + 2 * n + 2 * (p - 1)) u 0 (omega (arith, q.path, q.some, q.room, long₂))

  pub cursor_new : cursor_of n b w₄ (p - 1) ≡ d + 1
  cursor_new = get_or-set_same w₃ (b + 2 * n + 2 * (p - 1) + 1) (d + 1) 0 (omega (arith, q.path, q.some, q.room, long₃))

  -- where the path stands before its last
  old_path : (j : ℕ) → b + 2 * n ≤ j → j < b + 2 * n + 2 * (p - 1) → get_or w₄ j 0 ≡ get_or w j 0
  old_path j lo hi =
      off_path j (inr hi)
      ∙ get_or-set_other w₁ (b + n + k) j (n + 1 + s) 0 (λ e. omega (arith, q.fronts))
      ∙ get_or-set_other w (b + s) j (other_of n w d) 0 (λ e. omega (arith, q.stack))

  pub path_old : (i : ℕ) → i < p - 1 → path_of n b w₄ i ≡ path_of n b w i
  path_old i m = old_path (b + 2 * n + 2 * i) (omega arith) (omega arith)

  pub cursor_old : (i : ℕ) → i < p - 1 → cursor_of n b w₄ i ≡ cursor_of n b w i
  cursor_old i m = old_path (b + 2 * n + 2 * i + 1) (omega arith) (omega arith)

  pub hue_new : hue_of (entered_colours n d s w l) (other_of n w d) ≡ n + 1 + s
  hue_new = get_or-set_same l (other_of n w d) (n + 1 + s) 0 (omega (arith, q.next, q.column))

  pub hue_old : (v : ℕ) → (v ≡ other_of n w d → ⊥) → hue_of (entered_colours n d s w l) v ≡ hue_of l v
  hue_old v o = get_or-set_other l (other_of n w d) v (n + 1 + s) 0 o
