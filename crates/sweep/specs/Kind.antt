-- A part is swept by pivots of a kind: kind 1 draws them, the others take them along the chain.
use Rattle.std.specs.Prelude.{ℕ, ◌≤◌, ◌<◌, ◌≡◌, cond, List, length, get_or, eqb}
use Rattle.graph.specs.Graph.{Graph}
use Rattle.graph.specs.Limits.{words_of}
use Rattle.graph.specs.Pivot.{draws}
use Rattle.graph.specs.Sets.{bit}
use Rattle.memory.specs.Decomposer.{col}
use Rattle.sweep.specs.Sweep.{Sweeps, SweepAsk}

-- the front of the words is a set with no vertex
pub record Blank (n : ℕ) (ws : List ℕ) : Type 0 where
  pub words : words_of n ≤ length ws
  pub none : (v : ℕ) → v < n → bit ws v ≡ 0

pub record KindAsk (g : Graph) (slicing b h q top : ℕ) (w ws : List ℕ) : Type 0 where
  pub sweep : SweepAsk g slicing b h q top w
  pub blank : Blank g.n ws

-- The part q was swept: kind 1 has drawn once for each pivot, the others never.
pub record KindSwept (g : Graph) (slicing b q kind state top : ℕ) (w ws w' ws' : List ℕ) (state' k top' : ℕ) : Type 0 where
  pub pivots : ℕ
  pub sweeps : Sweeps g slicing b q kind state top w pivots top' w'
  pub drawn : k ≡ cond (eqb kind 1) pivots 0
  pub advanced : state' ≡ draws k state
  pub gone : (v : ℕ) → v < g.n → col b w' v ≡ q → ⊥
  pub blank : Blank g.n ws'
  pub beyond : (j : ℕ) → words_of g.n ≤ j → get_or ws' j 0 ≡ get_or ws j 0
  pub long : length ws' ≡ length ws
