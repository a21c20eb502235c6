-- The end: the colours are the labels, and the working memory is zeroed.
use Rattle.std.specs.Prelude.{ℕ, ◌+◌, ◌≤◌, ◌≡◌, List, length}
use Rattle.memory.specs.Memory.{ClearAsk, Cleared, Copied}

pub record FinishAsk (n m b : ℕ) (lab num wor : List ℕ) : Type 0 where
  pub label : length lab ≡ n
  pub colours : b + n ≤ length num
  pub memory : ClearAsk n m num wor

pub record Ended (n m b : ℕ) (label num wor label' num' wor' : List ℕ) : Type 0 where
  pub copied : Copied num b label label'
  pub cleared : Cleared n m num num' wor wor'
