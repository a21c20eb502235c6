-- What finding the in-edges asks for, and what it promises.
use Rattle.std.specs.Prelude.{ℕ, ◌+◌, ◌≤◌, ◌<◌, ◌≡◌, true, false, List, ◌⊎◌, length, set}
use Rattle.graph.specs.Graph.{Graph, Kinds, Valid, edges, from, to}
use Rattle.graph.specs.Limits.{most_edges}
use Rattle.memory.specs.Memory.{Framed, region, Holds}
use Rattle.certificate.specs.Entries.{fits, Entries}

-- distances stand from d on, entries go to the region from b on
pub record EntriesAsk (g : Graph) (kinds lab : List ℕ) (d b : ℕ) (w : List ℕ) : Type 0 where
  pub valid : Valid g
  pub kinded : Kinds (edges g) kinds
  pub size : length lab ≡ g.n
  pub few : edges g ≤ most_edges
  pub apart : d + g.n ≤ b
  pub room : b + g.n ≤ length w

pub record OfferAsk (g : Graph) (kinds lab : List ℕ) (d b e : ℕ) (w : List ℕ) : Type 0 where
  pub ask : EntriesAsk g kinds lab d b w
  pub low : e < edges g
  pub leaves : from g e < g.n
  pub enters : to g e < g.n

abbrev pub Offered : Graph → List ℕ → (d b e : ℕ) → List ℕ → List ℕ → Type 0
Offered g lab d b e w w' =
    ((fits g lab (region d w) e (to g e) ≡ true) × (w' ≡ set w (b + to g e) e)) ⊎ ((fits g lab (region d w) e (to g e) ≡ false) × (w' ≡ w))

-- the region from b on holds the smallest edges that fit
pub record Entered (g : Graph) (lab : List ℕ) (d b : ℕ) (w w' : List ℕ) : Type 0 where
  pub framed : Framed b (b + g.n) w w'
  pub entries : (dist : ℕ → ℕ) → Holds g.n d dist w → Entries g lab dist (region b w')
