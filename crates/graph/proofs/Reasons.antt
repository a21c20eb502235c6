-- Refusals and their numbers: no refusal has the number 0, and no two have one.
use Rattle.std.proofs.Common.{ℕ, ◌≡◌, sym, ap, ◌∙◌, refl, arith, cond, Result, Ok, Err}
use lib.Dec.{eqb}
use Rattle.graph.specs.declared.refusal.Refusal.{Refusal}
use Rattle.graph.specs.declared.refusal.Refusal.TheVariants.{TooManyVertices, UnevenColumns, TooManyEdges, EndOutside, WrongLength, MemoryShort, ListShort, UnknownChoice, VertexOutside, WrongLabels, NoPath, RoomShort, FirstLineFaulty, SizeLineFaulty, EntryFaulty, InputTooLong, UnevenKinds, KindOutside}
use Rattle.graph.specs.Reasons.{number_of, said}
use Rattle.graph.specs.Refusal.{◌or◌}
use Rattle.graph.proofs.Refusals.{or_stop, or_pass}

pub number_some : (r : Refusal) → number_of r ≡ 0 → ⊥
number_some TooManyVertices e = omega arith
number_some UnevenColumns e = omega arith
number_some TooManyEdges e = omega arith
number_some EndOutside e = omega arith
number_some WrongLength e = omega arith
number_some MemoryShort e = omega arith
number_some ListShort e = omega arith
number_some UnknownChoice e = omega arith
number_some VertexOutside e = omega arith
number_some WrongLabels e = omega arith
number_some NoPath e = omega arith
number_some RoomShort e = omega arith
number_some FirstLineFaulty e = omega arith
number_some SizeLineFaulty e = omega arith
number_some EntryFaulty e = omega arith
number_some InputTooLong e = omega arith
number_some UnevenKinds e = omega arith
number_some KindOutside e = omega arith

-- a refusal decides, and where there is none the next tests do
pub or_err : (r : Refusal) (a b : ℕ) → number_of r ≡ a → number_of r ≡ a or b
or_err r a b e = e ∙ sym (or_stop a b (λ z. number_some r (e ∙ z)))

pub or_ok : {k : ℕ} (a b : ℕ) → 0 ≡ a → k ≡ b → k ≡ a or b
or_ok a b z e = e ∙ sym (or_pass a b (sym z))

-- the refusal that has a number, so that no two have one
unfoldable reason_of : ℕ → Refusal
reason_of k =
    cond (eqb k 1) TooManyVertices (cond (eqb k 2) UnevenColumns (cond (eqb k 3) TooManyEdges (cond (eqb k 4) EndOutside (cond (eqb k 5) WrongLength
    (cond (eqb k 6) MemoryShort (cond (eqb k 7) ListShort (cond (eqb k 8) UnknownChoice (cond (eqb k 9) VertexOutside (cond (eqb k 10) WrongLabels
    (cond (eqb k 11) NoPath (cond (eqb k 12) RoomShort (cond (eqb k 13) FirstLineFaulty (cond (eqb k 14) SizeLineFaulty (cond (eqb k 15) EntryFaulty
    (cond (eqb k 16) InputTooLong (cond (eqb k 21) UnevenKinds KindOutside))))))))))))))))

of_number : (r : Refusal) → reason_of (number_of r) ≡ r
unfolding reason_of
of_number TooManyVertices = refl
of_number UnevenColumns = refl
of_number TooManyEdges = refl
of_number EndOutside = refl
of_number WrongLength = refl
of_number MemoryShort = refl
of_number ListShort = refl
of_number UnknownChoice = refl
of_number VertexOutside = refl
of_number WrongLabels = refl
of_number NoPath = refl
of_number RoomShort = refl
of_number FirstLineFaulty = refl
of_number SizeLineFaulty = refl
of_number EntryFaulty = refl
of_number InputTooLong = refl
of_number UnevenKinds = refl
of_number KindOutside = refl

pub number_one : (r s : Refusal) → number_of r ≡ number_of s → r ≡ s
number_one r s e = sym (of_number r) ∙ ap reason_of e ∙ of_number s

-- two answers with the same number are both done, or refuse alike
pub said_one : (a b : Result (Unit {0}) Refusal) → said a ≡ said b → a ≡ b
said_one (Ok x) (Ok y) e = refl
said_one (Ok x) (Err s) e = absurd (number_some s (sym e))
said_one (Err r) (Ok y) e = absurd (number_some r e)
said_one (Err r) (Err s) e = ap Err (number_one r s e)
