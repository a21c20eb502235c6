-- What the readers answer, in terms of the definitions.
use Rattle.std.specs.Prelude.{ℕ, suc, ◌≡◌, List, [], ◌∷◌, length, get_or, take, drop, Option, Some, None}
use Rattle.lines.specs.declared.numbers.Found.{Found}
use Rattle.lines.specs.declared.pieces.Pieces.{Pieces}
use Rattle.lines.specs.Pieces.{split, run}
use Rattle.lines.specs.Numbers.{Content, faulty, numbers}

-- a text that is cut at the first byte stop, or at its end
pub record Cut (stop : ℕ) (text piece rest : List ℕ) : Type 0 where
  pub front : piece ≡ take (run stop text) text
  pub past : rest ≡ drop (suc (run stop text)) text

-- the pieces that are still to come
abbrev pub pieces_of : Pieces → List (List ℕ)
pieces_of p = split p.stop p.rest.now

-- numbers as a `Found`: their count and the first three
abbrev pub found_of : List ℕ → Found
found_of vs = record { count = length vs; numbers = get_or vs 0 0 ∷ get_or vs 1 0 ∷ get_or vs 2 0 ∷ [] }

-- what a line holds as a `Found`, and none where it is faulty
unfoldable pub shown : Content → Option Found
shown faulty = None
shown (numbers vs) = Some (found_of vs)
