-- Two outcomes that the promise of the linear engine allows are equal: the number and all memory lent.
use Prim.Native.Nat.{ℕ}
use native.Mathlib.Decide.{ℕ_discrete}
use mathlib.Core.Path.{◌≡◌, sym, ◌∙◌}
use mathlib.Core.List.{List}
use Rattle.graph.specs.Graph.{Graph}
use Rattle.memory.proofs.Memory.{zeroed_one}
use Rattle.linear.specs.Promise.{Call, PromiseOn}

pub label_one : {k : ℕ} {g : Graph} (c : Call) (l w ws l' w' ws' : List ℕ) (r r' : ℕ) → PromiseOn k g c l w ws r → PromiseOn k g c l' w' ws' r'
    → (r ≡ r') × (l ≡ l') × (w ≡ w') × (ws ≡ ws')
label_one c l w ws l' w' ws' r r' p q = elim (ℕ_discrete r 0) as (λ _. (r ≡ r') × (l ≡ l') × (w ≡ w') × (ws ≡ ws')) [
  | yes e ↦
      let x = p.finished e in
      let y = q.finished (sym same ∙ e) in
      (same, x.label ∙ sym y.label, zeroed_one x.numbers y.numbers, zeroed_one x.words y.words)
  | no o ↦
      let x = p.untouched o in
      let y = q.untouched (λ e. o (same ∙ e)) in
      (same, x.label ∙ sym y.label, x.numbers ∙ sym y.numbers, x.words ∙ sym y.words)
]
  where
    same : r ≡ r'
    same = p.refusal ∙ sym q.refusal
