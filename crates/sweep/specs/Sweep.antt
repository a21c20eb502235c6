-- A part is swept: pivots are taken among what still has its colour, until nothing of it is left.
use Rattle.std.specs.Prelude.{ℕ, suc, ◌%◌, ◌<◌, ◌≡◌, cond, List, ◌⊎◌, eqb}
use Rattle.graph.specs.Graph.{Graph}
use Rattle.graph.specs.Numbers.{least, many}
use Rattle.graph.specs.Pivot.{draw, draws, member}
use Rattle.graph.specs.Apart.{has}
use Rattle.memory.specs.Decomposer.{col, ord, own, nxt}
use Rattle.split.specs.Chain.{Follows, First}
use Rattle.sweep.specs.Taken.{Ready, Taken}

-- the pivot that a kind chooses from what has the colour q: kind 1 draws it, the others take the first in the order
unfoldable pub chosen : ℕ → ℕ → List ℕ → (q kind state : ℕ) → ℕ
chosen n b w q kind state =
    cond (eqb kind 1) (member n (has (col b w) q) (draw state % many (has (col b w) q) n)) (ord n b w (least n (λ i. eqb (own n b w i) q)))

-- k pivots were taken in the part q, each the one that its kind chooses from what was then left of it; t is the first colour that no part has then.
pub data Sweeps (g : Graph) (slicing b q kind state top : ℕ) (w : List ℕ) : ℕ → ℕ → List ℕ → Type 0 where
  unswept : Sweeps g slicing b q kind state top w 0 top w
  taken : {k t t' : ℕ} {w₁ w₂ : List ℕ} (p : ℕ) → Sweeps g slicing b q kind state top w k t w₁
      → p < g.n → col b w₁ p ≡ q → p ≡ chosen g.n b w₁ q kind (draws k state)
      → Taken g slicing b p q t w₁ w₂ t' → Sweeps g slicing b q kind state top w (suc k) t' w₂

-- The part q was swept: nothing of it is left.
pub record Swept (g : Graph) (slicing b q kind state top : ℕ) (w w' : List ℕ) (top' : ℕ) : Type 0 where
  pub pivots : ℕ
  pub sweeps : Sweeps g slicing b q kind state top w pivots top' w'
  pub gone : (v : ℕ) → v < g.n → col b w' v ≡ q → ⊥

-- The chain from h goes through all places of the part q as it was; what has the colour q now had it then.
pub record Runs (n b h q : ℕ) (w : List ℕ) : Type 0 where
  pub past : ℕ → ℕ
  pub first : First n past h
  pub live : past h ≡ q
  pub next : (i : ℕ) → i < n → past i ≡ q → Follows n past i (nxt n b w i)
  pub still : (i : ℕ) → i < n → own n b w i ≡ q → past i ≡ q

pub record SweepAsk (g : Graph) (slicing b h q top : ℕ) (w : List ℕ) : Type 0 where
  pub ready : Ready g slicing b q top w
  pub runs : Runs g.n b h q w

-- Place i is looked at.
pub record TurnAsk (g : Graph) (slicing b i q top : ℕ) (w : List ℕ) : Type 0 where
  pub ready : Ready g slicing b q top w
  pub low : i < g.n

-- Where it has the colour q, its vertex was the pivot.
abbrev pub Turned : Graph → ℕ → ℕ → ℕ → ℕ → ℕ → List ℕ → List ℕ → ℕ → Type 0
Turned g slicing b i q top w w' top' =
    ((own g.n b w i ≡ q) × Taken g slicing b (ord g.n b w i) q top w w' top') ⊎ ((own g.n b w i ≡ q → ⊥) × (top' ≡ top) × (w' ≡ w))
