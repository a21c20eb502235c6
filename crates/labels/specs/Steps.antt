-- What the steps of the writer promise.
use Rattle.std.specs.Prelude.{ℕ, ◌+◌, ◌^◌, ◌≤◌, ◌≡◌, List, length}
use Rattle.std.proofs.lemmas.List.Edits.{sets}
use Rattle.labels.specs.File.{width}

-- a label plus one, or a number of vertices
abbrev pub most_number : ℕ
most_number = 4294967296

pub record Measured (x digits power : ℕ) : Type 0 where
  pub exact : digits ≡ width x
  pub above : power ≡ 10 ^ digits
  pub few : digits ≤ 10

-- the bytes xs stand from `at` on, all else is as it was, and r is the place past them
pub record Written (xs out : List ℕ) (at r : ℕ) (out' : List ℕ) : Type 0 where
  pub place : r ≡ at + length xs
  pub bytes : out' ≡ sets out at xs

pub record Fits (xs out : List ℕ) (at : ℕ) : Type 0 where
  pub room : at + length xs ≤ length out
