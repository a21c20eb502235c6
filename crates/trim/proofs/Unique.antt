-- Two outcomes that the promise of trimming allows are equal: the answer and all memory lent.
use Prim.Native.Nat.{ℕ}
use mathlib.Core.Path.{◌≡◌, sym, ap, ◌∙◌}
use mathlib.Core.List.{List}
use Rattle.graph.specs.Graph.{Graph}
use Rattle.graph.proofs.Reasons.{number_one}
use Rattle.memory.proofs.Memory.{zeroed_one}
use Rattle.sets.proofs.Unique.{set_one}
use Rattle.trim.specs.Promise.{Call, PromiseOn}
use Rattle.std.proofs.Common.{Result, Ok, Err}
use Rattle.graph.specs.declared.refusal.Refusal.{Refusal}

pub trim_one : {k : ℕ} {g : Graph} (c : Call) (r w ws r' w' ws' : List ℕ) (a a' : Result ℕ Refusal) → PromiseOn k g c r w ws a → PromiseOn k g c r' w' ws' a'
    → (a ≡ a') × (r ≡ r') × (w ≡ w') × (ws ≡ ws')
trim_one c r w ws r' w' ws' (Ok k) (Ok k') p q =
    let x = p.gives in
    let y = q.gives in
    (ap Ok (x.vertices ∙ sym y.vertices), set_one r r' x.fit y.fit (x.long ∙ sym y.long) (λ v. x.set v ∙ sym (y.set v)), zeroed_one x.numbers y.numbers, zeroed_one x.words y.words)
trim_one c r w ws r' w' ws' (Ok k) (Err j) p q = absurd (q.gives.refused (q.refusal ∙ sym p.refusal))
trim_one c r w ws r' w' ws' (Err j) (Ok k) p q = absurd (p.gives.refused (p.refusal ∙ sym q.refusal))
trim_one c r w ws r' w' ws' (Err j) (Err j') p q =
    let x = p.gives in
    let y = q.gives in
    (ap Err (number_one j j' (p.refusal ∙ sym q.refusal)), x.left ∙ sym y.left, x.numbers ∙ sym y.numbers, x.words ∙ sym y.words)
