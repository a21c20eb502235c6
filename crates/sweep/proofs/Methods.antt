-- The methods by their numbers.
use Rattle.std.proofs.Common.{◌≡◌, ◌≤◌, ℕ, refl, sym, ap, ◌∙◌, Result, Ok, Err, arith}
use Rattle.graph.specs.declared.refusal.Refusal.{Refusal}
use Rattle.sweep.specs.declared.Method.{Method}
use Rattle.sweep.specs.declared.Method.TheVariants.{Split, Slice}
use Rattle.sweep.specs.Methods.{slicing_of, Reads}

pub is_slice : (m : Method) → m ≡ Slice → slicing_of m ≡ 1
is_slice m e = ap slicing_of e

pub is_split : (m : Method) → m ≡ Split → slicing_of m ≡ 1 → ⊥
is_split m e o = omega (arith, ap slicing_of e)

pub method_low : (m : Method) → slicing_of m ≤ 1
method_low Split = omega arith
method_low Slice = omega arith

-- methods of one number are one
pub method_one : (m o : Method) → slicing_of m ≡ slicing_of o → m ≡ o
method_one Split Split e = refl
method_one Split Slice e = absurd (omega arith)
method_one Slice Split e = absurd (omega arith)
method_one Slice Slice e = refl

-- a number is read as one method alone
pub reads_one : (k : ℕ) (r s : Result Method Refusal) → Reads k r → Reads k s → r ≡ s
reads_one k (Ok o) (Ok p) x y = ap (λ (z : Method). Ok z) (method_one o p (x ∙ sym y))
reads_one k (Ok o) (Err e) x y = absurd (omega (arith, method_low o, x, y.1))
reads_one k (Err e) (Ok p) x y = absurd (omega (arith, method_low p, y, x.1))
reads_one k (Err e) (Err f) x y = ap (λ (z : Refusal). Err z) (x.0 ∙ sym y.0)
