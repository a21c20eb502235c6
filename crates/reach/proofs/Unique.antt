-- Two outcomes that the search's promise allows are equal: the answer and all memory lent.
use Prim.Native.Nat.{ℕ}
use native.Mathlib.Omega.{arith}
use native.Mathlib.Decide.{ℕ_discrete}
use mathlib.Core.Path.{◌≡◌, sym, ap, ap₂, ◌∙◌}
use mathlib.Core.Bool.{Bool}
use mathlib.Core.List.{List}
use Rattle.graph.specs.Numbers.{many}
use Rattle.graph.specs.Graph.{Graph, turned}
use Rattle.graph.specs.Sets.{bit, members}
use Rattle.graph.specs.Search.{looked}
use Rattle.graph.proofs.Reasons.{number_one}
use Rattle.memory.proofs.Memory.{zeroed_one}
use Rattle.sets.proofs.Store.{bit_lt}
use Rattle.sets.proofs.Unique.{set_one}
use Rattle.reach.specs.Search.{Call, Finished, PromiseOn}
use Rattle.std.proofs.Common.{Result, Ok, Err}
use Rattle.graph.specs.declared.refusal.Refusal.{Refusal}
use Rattle.reach.specs.declared.Found.{Found}

bits_one : {g : Graph} {c : Call} {b : Bool} {r w ws r' w' ws' : List ℕ} {k e k' e' : ℕ} → Finished g c b r w ws k e → Finished g c b r' w' ws' k' e' → (v : ℕ) → bit r v ≡ bit r' v
bits_one {g} {c} {b} {r} {w} {ws} {r'} p q v = elim (ℕ_discrete (bit r v) 1) as (λ _. bit r v ≡ bit r' v) [
  | yes h ↦ h ∙ sym (q.complete v (p.sound v h))
  | no h ↦ elim (ℕ_discrete (bit r' v) 1) as (λ _. bit r v ≡ bit r' v) [
    | yes t ↦ absurd (h (p.complete v (q.sound v t)))
    | no t ↦ omega (arith, bit_lt r v, bit_lt r' v)
  ]
]

gives_one : {g : Graph} {c : Call} {b : Bool} {r w ws r' w' ws' : List ℕ} {k e k' e' : ℕ} → Finished g c b r w ws k e → Finished g c b r' w' ws' k' e'
    → (k ≡ k') × (e ≡ e') × (r ≡ r') × (w ≡ w') × (ws ≡ ws')
gives_one {g} {c} {b} {r} {w} {ws} {r'} p q =
    let s : r ≡ r' = set_one r r' p.fit q.fit (p.long ∙ sym q.long) (bits_one p q) in (
      p.vertices ∙ ap (λ (x : List ℕ). many (members c.n x) c.n) s ∙ sym q.vertices,
      p.edges ∙ ap (λ (x : List ℕ). looked (turned b g) (members c.n x)) s ∙ sym q.edges,
      s,
      zeroed_one p.numbers q.numbers,
      zeroed_one p.words q.words,
    )

pub search_one : {k : ℕ} {g : Graph} (c : Call) (b : Bool) (r w ws r' w' ws' : List ℕ) (a a' : Result Found Refusal) → PromiseOn k g c b r w ws a → PromiseOn k g c b r' w' ws' a'
    → (a ≡ a') × (r ≡ r') × (w ≡ w') × (ws ≡ ws')
search_one c b r w ws r' w' ws' (Ok f) (Ok f') p q =
    let (x, y, s, t, u) = gives_one p.gives q.gives in (ap₂ (λ (k e : ℕ). Ok (record { vertices = k; edges = e })) x y, s, t, u)
search_one c b r w ws r' w' ws' (Ok f) (Err j) p q = absurd (q.gives.refused (q.refusal ∙ sym p.refusal))
search_one c b r w ws r' w' ws' (Err j) (Ok f) p q = absurd (p.gives.refused (p.refusal ∙ sym q.refusal))
search_one c b r w ws r' w' ws' (Err j) (Err j') p q =
    let x = p.gives in
    let y = q.gives in
    (ap Err (number_one j j' (p.refusal ∙ sym q.refusal)), x.reached ∙ sym y.reached, x.numbers ∙ sym y.numbers, x.words ∙ sym y.words)
