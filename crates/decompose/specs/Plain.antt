-- The decomposer with plain parameters.
use Rattle.std.specs.Prelude.{ℕ, Result, List, [], replicate}
use Rattle.waiting.specs.declared.Part.{Part}
use Rattle.waiting.specs.Records.{none}
use Rattle.pivot.specs.declared.chooser.Chooser.{Chooser}
use Rattle.graph.specs.declared.refusal.Refusal.{Refusal}
use Rattle.decompose.specs.Promise.{call, after, Promise}

-- pivot kind 0 never draws
abbrev pub still : Chooser
still = record { kind = 0; state = 0 }

-- the decomposer's promise, for a chooser and a list of one's own
pub record Plainly (n : ℕ) (src tgt kinds : List ℕ) (mask : ℕ) (lab num wor lab' num' wor' : List ℕ) (a : Result ℕ Refusal) : Type 0 where
  pub chooser : Chooser
  pub waiting : List Part
  pub promise : Promise (call n src tgt kinds mask 0 0 still [] (replicate 512 none) lab num wor) (after chooser waiting lab' num' wor') a
