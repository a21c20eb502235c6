-- What the steps of the entry promise.
use Rattle.std.specs.Prelude.{ℕ, ◌≤◌, ◌≡◌, List, length}
use Rattle.graph.specs.Refusal.{plain_refusal}

pub record LabelAsk (n : ℕ) (sources targets label : List ℕ) : Type 0 where
  pub passed : plain_refusal n sources targets ≡ 0
  pub vertices : n ≤ 512
  pub edges : length sources ≤ 4096
  pub long : length label ≡ n
