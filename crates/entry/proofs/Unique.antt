-- Two outcomes that meet the entry's promise are equal: of the answer, and of the number for C.
use Rattle.std.proofs.Common.{ℕ, ◌≡◌, sym, ◌∙◌, List, Result}
use lib.IntN.{ℤ}
use Rattle.graph.specs.declared.refusal.Refusal.{Refusal}
use Rattle.text.proofs.Answers.{reading_one}
use Rattle.entry.specs.LabelText.{Answered, Promise}

pub answered_one : {text out : List ℕ} {a a' : Result ℕ Refusal} {out₁ out₂ : List ℕ} → Answered text out a out₁ → Answered text out a' out₂ → (a ≡ a') × (out₁ ≡ out₂)
answered_one {a = a} {a' = a'} p q = (reading_one a a' (p.answers ∙ sym q.answers), p.out_after ∙ sym q.out_after)

pub entry_one : {text out : List ℕ} {r r' : ℤ} {out₁ out₂ : List ℕ} → Promise text out r out₁ → Promise text out r' out₂ → (r ≡ r') × (out₁ ≡ out₂)
entry_one p q = (p.returns ∙ sym q.returns, p.out_after ∙ sym q.out_after)
