-- The writer's promise fixes the number and all that was lent.
use Prim.Native.Nat.{ℕ}
use native.Mathlib.Decide.{ℕ_discrete}
use mathlib.Core.Path.{◌≡◌, sym, ap, ◌∙◌}
use mathlib.Core.Logic.{by_cases}
use mathlib.Core.List.{List}
use Rattle.graph.specs.Graph.{Graph}
use Rattle.graph.specs.Limits.{wrong_labels}
use Rattle.graph.specs.Checker.{Columns}
use Rattle.memory.proofs.Memory.{zeroed_one}
use Rattle.certificate.specs.Promise.{Lent, lent, Call, columns, Tidied, PromiseOn}

-- equal columns and equal working memory are all that was lent
lent_same : {rank rank' in_edge in_edge' in_dist in_dist' out_edge out_edge' out_dist out_dist' numbers numbers' words words' : List ℕ}
    → rank ≡ rank' → in_edge ≡ in_edge' → in_dist ≡ in_dist' → out_edge ≡ out_edge' → out_dist ≡ out_dist' → numbers ≡ numbers' → words ≡ words'
    → lent rank in_edge in_dist out_edge out_dist numbers words ≡ lent rank' in_edge' in_dist' out_edge' out_dist' numbers' words'
lent_same p q r s t u v = rw (p, q, r, s, t, u, v)

module _ (c : Call) (a b : Lent) where
  one_lent : columns c.label a ≡ columns c.label b → Tidied c a → Tidied c b → a ≡ b
  one_lent e x y =
      lent_same (ap (λ (k : Columns). k.rank) e) (ap (λ (k : Columns). k.in_edge) e) (ap (λ (k : Columns). k.in_dist) e) (ap (λ (k : Columns). k.out_edge) e) (ap (λ (k : Columns). k.out_dist) e)
      (zeroed_one x.numbers_zero y.numbers_zero) (zeroed_one x.words_zero y.words_zero)

  -- TWO OUTCOMES THAT MEET THE PROMISE ARE EQUAL
  pub write_one : {k : ℕ} {g : Graph} (r s : ℕ) → PromiseOn k g c r a → PromiseOn k g c s b → (r ≡ s) × (a ≡ b)
  write_one r s p q = (same, by_cases (ℕ_discrete r 0) done (λ o. by_cases (ℕ_discrete r wrong_labels) wrong (λ w. p.refused o w ∙ sym (q.refused (λ z. o (same ∙ z)) (λ z. w (same ∙ z))))))
    where
      same : r ≡ s
      same = p.number ∙ sym q.number

      done : r ≡ 0 → a ≡ b
      done z = let (e, x) = p.written z in let (f, y) = q.written (sym same ∙ z) in one_lent (e ∙ sym f) x y

      wrong : r ≡ wrong_labels → a ≡ b
      wrong z = let (e, x) = p.wrong z in let (f, y) = q.wrong (sym same ∙ z) in one_lent (e ∙ sym f) x y
