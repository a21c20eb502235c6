-- Two outcomes that meet the promise are equal; for pivot kind 1, where the draws lie between two bounds, if they have equally many draws.
use Prim.Native.Nat.{ℕ}
use native.Mathlib.Omega.{arith}
use native.Mathlib.Decide.{dec_lt}
use mathlib.Core.Path.{◌≡◌, refl, sym, ap, ◌∙◌}
use mathlib.Core.List.{List}
use lib.ListN.{get_or}
use lib.Seq.{ext_get_or}
use Rattle.graph.specs.Graph.{Graph}
use Rattle.graph.specs.Pivot.{draws}
use Rattle.memory.proofs.Memory.{zeroed_one}
use Rattle.waiting.specs.declared.Part.{Part}
use Rattle.waiting.specs.Records.{none}
use Rattle.pivot.specs.declared.chooser.Chooser.{Chooser}
use Rattle.pivot.proofs.Unique.{chooser_one}
use Rattle.std.proofs.Common.{Result, Ok, Err}
use Rattle.graph.specs.declared.refusal.Refusal.{Refusal}
use Rattle.graph.proofs.Reasons.{number_one}
use Rattle.decompose.specs.Promise.{Call, After, after, Emptied, Finished, Untouched, PromiseOn}
use Rattle.decompose.specs.Plain.{Plainly}

-- the draws of an answer
abbrev pub draws_of : Result ℕ Refusal → ℕ
draws_of (Ok d) = d
draws_of (Err k) = 0

emptied_one : {k : ℕ} {ys a b : List Part} → Emptied k ys a → Emptied k ys b → a ≡ b
emptied_one {k} {ys} {a} {b} x y = ext_get_or none a b (x.long ∙ sym y.long) (λ j l. elim (dec_lt j k) as (λ _. get_or a j none ≡ get_or b j none) [
  | yes h ↦ x.front j h ∙ sym (y.front j h)
  | no h ↦ x.rest j (omega arith) ∙ sym (y.rest j (omega arith))
])

after_one : {a b : After} → a.chooser ≡ b.chooser → a.waiting ≡ b.waiting → a.label ≡ b.label → a.numbers ≡ b.numbers → a.words ≡ b.words → a ≡ b
after_one {a} {b} p q r s t =
    ap (λ (x : Chooser). after x a.waiting a.label a.numbers a.words) p
    ∙ ap (λ (x : List Part). after b.chooser x a.label a.numbers a.words) q
    ∙ ap (λ (x : List ℕ). after b.chooser b.waiting x a.numbers a.words) r
    ∙ ap (λ (x : List ℕ). after b.chooser b.waiting b.label x a.words) s
    ∙ ap (after b.chooser b.waiting b.label b.numbers) t

finished_one : {g : Graph} {c : Call} {a b : After} {d e : ℕ} → Finished g c a d → Finished g c b e → d ≡ e → a ≡ b
finished_one {c = c} x y q =
    after_one (chooser_one (x.kind ∙ sym y.kind) (x.state ∙ ap (λ (i : ℕ). draws i c.chooser.state) q ∙ sym y.state))
    (emptied_one x.waiting y.waiting) (x.label ∙ sym y.label) (zeroed_one x.numbers y.numbers) (zeroed_one x.words y.words)

untouched_one : {c : Call} {a b : After} {k l : ℕ} → Untouched c a k → Untouched c b l → a ≡ b
untouched_one x y = after_one (x.chooser ∙ sym y.chooser) (x.waiting ∙ sym y.waiting) (x.label ∙ sym y.label) (x.numbers ∙ sym y.numbers) (x.words ∙ sym y.words)

module _ {k : ℕ} {g : Graph} {c : Call} {a b : After} where
  pub decompose_one : (r q : Result ℕ Refusal) → PromiseOn k g c a r → PromiseOn k g c b q → draws_of r ≡ draws_of q → (r ≡ q) × (a ≡ b)
  decompose_one (Ok d) (Ok e) x y s = (ap (λ (x : ℕ). Ok x) s, finished_one x.gives y.gives s)
  decompose_one (Ok d) (Err i) x y s = absurd (y.gives.refused (y.refusal ∙ sym x.refusal))
  decompose_one (Err i) (Ok d) x y s = absurd (x.gives.refused (x.refusal ∙ sym y.refusal))
  decompose_one (Err i) (Err j) x y s = (ap (λ (x : Refusal). Err x) (number_one i j (x.refusal ∙ sym y.refusal)), untouched_one x.gives y.gives)

  -- pivot kinds 0 and 2 never draw
  pub decompose_still : (r q : Result ℕ Refusal) → PromiseOn k g c a r → PromiseOn k g c b q → (c.chooser.kind ≡ 1 → ⊥) → (r ≡ q) × (a ≡ b)
  decompose_still (Ok d) (Ok e) x y s = decompose_one (Ok d) (Ok e) x y (x.gives.never s ∙ sym (y.gives.never s))
  decompose_still (Ok d) (Err i) x y s = absurd (y.gives.refused (y.refusal ∙ sym x.refusal))
  decompose_still (Err i) (Ok d) x y s = absurd (x.gives.refused (x.refusal ∙ sym y.refusal))
  decompose_still (Err i) (Err j) x y s = decompose_one (Err i) (Err j) x y refl

-- the decomposer with plain parameters: its pivot kind is 0
pub plain_one : {n : ℕ} {src tgt kinds : List ℕ} {mask : ℕ} {lab num wor lab₁ num₁ wor₁ lab₂ num₂ wor₂ : List ℕ} (r q : Result ℕ Refusal)
    → Plainly n src tgt kinds mask lab num wor lab₁ num₁ wor₁ r → Plainly n src tgt kinds mask lab num wor lab₂ num₂ wor₂ q → (r ≡ q) × ((lab₁ ≡ lab₂) × ((num₁ ≡ num₂) × (wor₁ ≡ wor₂)))
plain_one r q x y =
    let s = decompose_still r q x.promise y.promise (λ (e : 0 ≡ 1). omega (arith, e)) in
    (s.0, (ap (λ (a : After). a.label) s.1, (ap (λ (a : After). a.numbers) s.1, ap (λ (a : After). a.words) s.1)))
