-- Two outcomes that meet one promise are equal.
use Rattle.std.proofs.Common.{ℕ, ◌≡◌, sym, ◌∙◌, List}
use Rattle.lines.specs.declared.pieces.Pieces.{Pieces}
use Rattle.lines.specs.Pieces.{split}
use Rattle.lines.specs.Answers.{Cut, pieces_of}

-- of a cut: the piece, and what stands past it
pub cut_one : {stop : ℕ} {text p q r s : List ℕ} → Cut stop text p r → Cut stop text q s → (p ≡ q) × (r ≡ s)
cut_one c d = (c.front ∙ sym d.front, c.past ∙ sym d.past)

-- of pieces: what is still to come, and what ends each
pub pieces_one : (stop : ℕ) (text : List ℕ) (a b : Pieces) → (pieces_of a ≡ split stop text) × (a.stop ≡ stop) → (pieces_of b ≡ split stop text) × (b.stop ≡ stop) → (pieces_of a ≡ pieces_of b) × (a.stop ≡ b.stop)
pieces_one stop text a b p q = (p.0 ∙ sym q.0, p.1 ∙ sym q.1)
