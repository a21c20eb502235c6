-- Two outcomes that meet the writer's promise are equal.
use Rattle.std.proofs.Common.{ℕ, ◌≡◌, sym, ap, ◌∙◌, List, Result, Ok, Err}
use Rattle.graph.specs.declared.refusal.Refusal.{Refusal}
use Rattle.graph.proofs.Reasons.{number_some, number_one}
use Rattle.labels.specs.Promise.{Promise}

answer_one : {label out : List ℕ} (r r' : Result ℕ Refusal) {out₁ out₂ : List ℕ} → Promise label out r out₁ → Promise label out r' out₂ → r ≡ r'
answer_one (Ok b) (Ok b') p q = ap Ok (p.bytes ∙ sym q.bytes)
answer_one (Ok b) (Err s) p q = absurd (number_some s (q.refusal ∙ sym p.refusal))
answer_one (Err r) (Ok b) p q = absurd (number_some r (p.refusal ∙ sym q.refusal))
answer_one (Err r) (Err s) p q = ap Err (number_one r s (p.refusal ∙ sym q.refusal))

pub write_one : {label out : List ℕ} {r r' : Result ℕ Refusal} {out₁ out₂ : List ℕ} → Promise label out r out₁ → Promise label out r' out₂ → (r ≡ r') × (out₁ ≡ out₂)
write_one {r = r} {r' = r'} p q = (answer_one r r' p q, p.out_after ∙ sym q.out_after)
