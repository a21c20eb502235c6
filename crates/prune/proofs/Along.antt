-- The chain of places of a part is gone along.
use Prim.Native.Nat.{ℕ, ◌≤◌, ◌<◌}
use native.Mathlib.Omega.{arith}
use native.Mathlib.Decide.{dec_lt}
use mathlib.Core.Path.{◌≡◌, sym, ◌∙◌}
use mathlib.Core.List.{List}
use Rattle.memory.specs.Decomposer.{own, nxt}
use Rattle.prune.specs.Chain.{Chained}

-- where the chain stands: at a place of the colour q, or at its end
pub record Along (n b q : ℕ) (w : List ℕ) (i : ℕ) : Type 0 where
  pub most : i ≤ n
  pub here : i < n → own n b w i ≡ q

pub along_head : {n b q h : ℕ} {w : List ℕ} → Chained n b q h w → Along n b q w h
along_head c = record { most = c.head.most; here = c.head.here }

pub along_next : {n b q h i : ℕ} {w : List ℕ} → Chained n b q h w → Along n b q w i → i < n → Along n b q w (nxt n b w i)
along_next {i = i} c a l =
    let f = c.next i l (a.here l) in
    record { most = f.most; here = λ h. f.same h ∙ a.here l }

-- the places of the colour q below the next one are those below i, and i
pub along_less : (n b q h i u : ℕ) (w : List ℕ) → Chained n b q h w → Along n b q w i → i < n → u < nxt n b w i → own n b w u ≡ q → (u ≡ i → ⊥) → u < i
along_less n b q h i u w c a l m e o =
    elim (dec_lt u i) as (λ _. u < i) [
      | yes y ↦ y
      | no y ↦ absurd ((c.next i l (a.here l)).none u (omega arith) m (e ∙ sym (a.here l)))
    ]
