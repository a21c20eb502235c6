-- Two outcomes that meet the reader's promise are equal.
use Rattle.std.proofs.Common.{ℕ, ◌≡◌, sym, ◌∙◌, List, Result as Answer}
use Rattle.graph.specs.declared.refusal.Refusal.{Refusal}
use Rattle.text.specs.declared.Size.{Size}
use Rattle.text.specs.Promise.{Call, Promise}
use Rattle.text.proofs.Answers.{reading_one}

pub read_one : {c : Call} {r r' : Answer Size Refusal} {s s' t t' : List ℕ} → Promise c r s t → Promise c r' s' t' → (r ≡ r') × (s ≡ s') × (t ≡ t')
read_one {r = r} {r' = r'} p q = (reading_one r r' (p.answers ∙ sym q.answers), p.sources_afterwards ∙ sym q.sources_afterwards, p.targets_afterwards ∙ sym q.targets_afterwards)
