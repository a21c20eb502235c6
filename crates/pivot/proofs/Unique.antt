-- Two choosers of one kind and one state are equal, and a number is read as one kind alone.
use Rattle.std.proofs.Common.{◌≡◌, ◌≤◌, ℕ, refl, sym, ap, ◌∙◌, Result, Ok, Err, arith}
use Rattle.graph.specs.declared.refusal.Refusal.{Refusal}
use Rattle.pivot.specs.declared.chooser.Chooser.{Chooser}
use Rattle.pivot.specs.declared.chooser.Pivots.{Pivots}
use Rattle.pivot.specs.declared.chooser.Pivots.TheVariants.{Lowest, Drawn, Listed}
use Rattle.pivot.specs.Kinds.{kind_of, Reads}

pub chooser_one : {a b : Chooser} → a.kind ≡ b.kind → a.state ≡ b.state → a ≡ b
chooser_one {a} {b} p q = ap (λ (k : ℕ). mk k a.state) p ∙ ap (mk b.kind) q
  where
    mk : ℕ → ℕ → Chooser
    mk k s = record { kind = k; state = s }

pub kind_one : (p r : Pivots) → kind_of p ≡ kind_of r → p ≡ r
kind_one Lowest Lowest e = refl
kind_one Lowest Drawn e = absurd (omega arith)
kind_one Lowest Listed e = absurd (omega arith)
kind_one Drawn Lowest e = absurd (omega arith)
kind_one Drawn Drawn e = refl
kind_one Drawn Listed e = absurd (omega arith)
kind_one Listed Lowest e = absurd (omega arith)
kind_one Listed Drawn e = absurd (omega arith)
kind_one Listed Listed e = refl

-- a kind is at most 2
pub kind_low : (p : Pivots) → kind_of p ≤ 2
kind_low Lowest = omega arith
kind_low Drawn = omega arith
kind_low Listed = omega arith

pub reads_one : (k : ℕ) (r s : Result Pivots Refusal) → Reads k r → Reads k s → r ≡ s
reads_one k (Ok p) (Ok r) x y = ap (λ (z : Pivots). Ok z) (kind_one p r (x ∙ sym y))
reads_one k (Ok p) (Err e) x y = absurd (omega (arith, kind_low p, x, y.1))
reads_one k (Err e) (Ok p) x y = absurd (omega (arith, kind_low p, y, x.1))
reads_one k (Err e) (Err f) x y = ap (λ (z : Refusal). Err z) (x.0 ∙ sym y.0)

-- the chooser as it stands, copied and left
pub copied_one : {c r a q b : Chooser} → (r ≡ c) × (a ≡ c) → (q ≡ c) × (b ≡ c) → (r ≡ q) × (a ≡ b)
copied_one x y = (x.0 ∙ sym y.0, x.1 ∙ sym y.1)

-- the chooser that was put, whatever stood there
pub put_one : {x a b : Chooser} → a ≡ x → b ≡ x → a ≡ b
put_one p q = p ∙ sym q
