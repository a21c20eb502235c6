-- Two answers that meet the promise of one call are equal.
use Rattle.std.proofs.Common.{◌≡◌, sym, ap, ◌∙◌, Result, Ok, Err}
use Rattle.graph.specs.Summary as graph
use Rattle.graph.specs.declared.refusal.Refusal.{Refusal}
use Rattle.graph.proofs.Reasons.{number_some, number_one}
use Rattle.summary.specs.declared.answer.Summary.{Summary}
use Rattle.summary.specs.Promise.{Call, Promise}

pub summary_one : (c : Call) (a b : Result Summary Refusal) → Promise c a → Promise c b → a ≡ b
summary_one c (Ok s) (Ok t) p q =
    let its : graph.Summary → Summary = λ u. record { own = u.own; rings = u.rings; largest = u.largest } in
    ap (λ (u : graph.Summary). Ok (its u)) (sym p.gives ∙ q.gives)
summary_one c (Ok s) (Err k) p q = absurd (number_some k (q.refusal ∙ sym p.refusal))
summary_one c (Err k) (Ok s) p q = absurd (number_some k (p.refusal ∙ sym q.refusal))
summary_one c (Err k) (Err j) p q = ap Err (number_one k j (p.refusal ∙ sym q.refusal))
