-- The smallest edges that fit the distances.
use Rattle.std.specs.Prelude.{ℕ, ◌+◌, ◌≤◌, ◌<◌, ◌≡◌, Bool, true, false, ◌&&◌, List, ◌⊎◌, T, eqb}
use Rattle.graph.specs.Graph.{Graph, edges, from, to}
use Rattle.graph.specs.Checker.{at, no_edge}

-- e counts, and enters v from a vertex of the same label that is one step nearer
pub record Fit (g : Graph) (lab : List ℕ) (d : ℕ → ℕ) (e v : ℕ) : Type 0 where
  pub counts : T (g.counted e)
  pub enters : to g e ≡ v
  pub same : at lab (from g e) ≡ at lab v
  pub nearer : d v ≡ d (from g e) + 1

-- the same, computed
unfoldable pub fits : Graph → List ℕ → (ℕ → ℕ) → ℕ → ℕ → Bool
fits g lab d e v = g.counted e && eqb (to g e) v && eqb (at lab (from g e)) (at lab v) && eqb (d v) (d (from g e) + 1)

-- x is the smallest edge number from a on that fits v, or none does and x is "no edge"
abbrev pub FirstFit : Graph → List ℕ → (ℕ → ℕ) → (a x v : ℕ) → Type 0
FirstFit g lab d a x v =
    ((x ≡ no_edge) × ((e : ℕ) → a ≤ e → e < edges g → fits g lab d e v ≡ false))
    ⊎ ((a ≤ x) × (x < edges g) × (fits g lab d x v ≡ true) × ((e : ℕ) → a ≤ e → e < x → fits g lab d e v ≡ false))

abbrev pub Entries : Graph → List ℕ → (ℕ → ℕ) → (ℕ → ℕ) → Type 0
Entries g lab d edge = (v : ℕ) → v < g.n → FirstFit g lab d 0 (edge v) v
