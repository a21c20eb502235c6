-- Slicing goes on where it stood.
use Prim.Native.Nat.{ℕ}
use mathlib.Core.Path.{sym, ◌∙◌}
use mathlib.Core.Logic.{⊎_elim, inl, inr}
use Rattle.graph.specs.Graph.{Graph}
use Rattle.graph.specs.Apart.{Alike, Goes, Slice, Slicing, begins, goes, cuts}

module _ {g : Graph} {r : ℕ} where
  -- a step to the same colours and marks
  goes_alike : {v : ℕ} {own marks own₁ marks₁ own₂ marks₂ : ℕ → ℕ} → Goes g r v own marks own₁ marks₁ → Alike g.n own₁ own₂ → Alike g.n marks₁ marks₂ → Goes g r v own marks own₂ marks₂
  goes_alike {v} t o m = record {
    seed = t.seed;
    free = t.free;
    label = o v t.seed.0 ∙ t.label;
    others = λ u h e. o u h ∙ t.others u h e;
    seeds = λ u (h, c). let (x, y) = t.seeds u (h, sym (o u h) ∙ c) in (λ z. x (λ q. z (m u h ∙ q)), λ z q. y z (sym (m u h) ∙ q));
  }

  slice_alike : {s : ℕ} {own marks own₁ marks₁ own₂ marks₂ : ℕ → ℕ} → Slice g r s own marks own₁ marks₁ → Alike g.n own₁ own₂ → Alike g.n marks₁ marks₂ → Slice g r s own marks own₂ marks₂
  slice_alike t o m = record {
    other = t.other;
    stuck = t.stuck;
    each = λ v h. ⊎_elim (λ x. inl (x.0, o v h ∙ x.1)) (λ x. inr (x.0, o v h ∙ x.1)) (t.each v h);
    seeds = λ u (h, c). let (x, y) = t.seeds u (h, sym (o u h) ∙ c) in (λ z. x (λ q. z (m u h ∙ q)), λ z q. y z (sym (m u h) ∙ q));
  }

  pub slicing_alike : {own₀ marks₀ own marks own' marks' : ℕ → ℕ} {s₀ s : ℕ} → Slicing g r own₀ marks₀ s₀ own marks s → Alike g.n own own' → Alike g.n marks marks' → Slicing g r own₀ marks₀ s₀ own' marks' s
  slicing_alike (begins p q) o m = begins (λ v h. o v h ∙ p v h) (λ v h. m v h ∙ q v h)
  slicing_alike (goes v x t) o m = goes v x (goes_alike t o m)
  slicing_alike (cuts x t) o m = cuts x (slice_alike t o m)

  pub slicing_then : {own₀ marks₀ own₁ marks₁ : ℕ → ℕ} {s₀ s₁ : ℕ} {own₂ marks₂ : ℕ → ℕ} {s₂ : ℕ} → Slicing g r own₀ marks₀ s₀ own₁ marks₁ s₁ → Slicing g r own₁ marks₁ s₁ own₂ marks₂ s₂ → Slicing g r own₀ marks₀ s₀ own₂ marks₂ s₂
  slicing_then x (begins o m) = slicing_alike x o m
  slicing_then x (goes v y t) = goes v (slicing_then x y) t
  slicing_then x (cuts y t) = cuts (slicing_then x y) t
