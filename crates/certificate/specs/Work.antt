-- What the stages of the writer ask for, and what they promise.
use Rattle.std.specs.Prelude.{ℕ, ◌+◌, ◌*◌, ◌≤◌, ◌<◌, ◌≡◌, Bool, true, false, List, ◌⊎◌, length, get_or}
use Rattle.graph.specs.Graph.{Graph, Kinds, Valid, rev, edges}
use Rattle.graph.specs.Limits.{most_vertices, most_edges, InLimits, numbers_needed}
use Rattle.graph.specs.Checker.{at}
use Rattle.graph.specs.Certificate.{Right, certificate}
use Rattle.index.specs.Index.{Held}
use Rattle.classes.specs.Classes.{OwnLabels, Distances}
use Rattle.memory.specs.Memory.{region, Copied}
use Rattle.memory.specs.Writer.{in_distances, out_distances, in_edges, out_edges, ranks_at, counts_at, queue_at}
use Rattle.certificate.specs.Entries.{Entries}
use Rattle.ranks.specs.Ranks.{Peeled, Stuck}

-- the regions stand behind the two indexes
abbrev pub base : Graph → ℕ
base g = 2 * (g.n + 1 + edges g)

-- from k on nothing has changed
pub record Beyond (k : ℕ) (w w' : List ℕ) : Type 0 where
  pub long : length w' ≡ length w
  pub rest : (j : ℕ) → k ≤ j → get_or w' j 0 ≡ get_or w j 0

pub record WorkAsk (g : Graph) (kinds lab : List ℕ) (w : List ℕ) : Type 0 where
  pub valid : Valid g
  pub kinded : Kinds (edges g) kinds
  pub size : length lab ≡ g.n
  pub small : g.n ≤ most_vertices
  pub few : edges g ≤ most_edges
  pub room : numbers_needed g.n (edges g) ≤ length w

pub record FindAsk (g : Graph) (kinds lab : List ℕ) (b : ℕ) (w : List ℕ) : Type 0 where
  pub ask : WorkAsk g kinds lab w
  pub own : OwnLabels g.n lab
  pub place : b ≡ base g

-- the distances from and to the labels stand in their regions, and the neighbours at the front
pub record Near (g : Graph) (lab : List ℕ) (b : ℕ) (w : List ℕ) : Type 0 where
  pub index : Held g 0 w
  pub there : Distances g lab (region (in_distances g.n b) w)
  pub there_low : (v : ℕ) → v < g.n → region (in_distances g.n b) w v < g.n
  pub back : Distances (rev g) lab (region (out_distances g.n b) w)
  pub back_low : (v : ℕ) → v < g.n → region (out_distances g.n b) w v < g.n

pub record Found (g : Graph) (lab : List ℕ) (b : ℕ) (w w' : List ℕ) (r : Bool) : Type 0 where
  pub beyond : Beyond (in_edges g.n b) w w'
  pub either : ((r ≡ true) × Near g lab b w') ⊎ ((r ≡ false) × (Right g lab → ⊥))

pub record CompleteAsk (g : Graph) (kinds lab : List ℕ) (b : ℕ) (w : List ℕ) : Type 0 where
  pub valid : Valid g
  pub kinded : Kinds (edges g) kinds
  pub size : length lab ≡ g.n
  pub own : OwnLabels g.n lab
  pub small : g.n ≤ most_vertices
  pub few : edges g ≤ most_edges
  pub index : Held g 0 w
  pub below : g.n + 1 + edges g ≤ b
  pub room : b + 7 * g.n + 1 ≤ length w

-- the entries and the ranks for the distances that stand in w
pub record Completed (g : Graph) (lab : List ℕ) (b : ℕ) (w w' : List ℕ) (r : Bool) : Type 0 where
  pub beyond : Beyond (b + 7 * g.n + 1) w w'
  pub kept : (j : ℕ) → b ≤ j → j < queue_at g.n b → get_or w' j 0 ≡ get_or w j 0
  pub enters : Entries g lab (region (in_distances g.n b) w) (region (in_edges g.n b) w')
  pub leaves : Entries (rev g) lab (region (out_distances g.n b) w) (region (out_edges g.n b) w')
  pub either : ((r ≡ true) × Peeled g lab (region (in_edges g.n b) w') (region (ranks_at g.n b) w'))
      ⊎ ((r ≡ false) × Stuck g lab (region (in_edges g.n b) w') (region (counts_at g.n b) w'))

-- the five regions hold the certificate
pub record Made (g : Graph) (lab : List ℕ) (b : ℕ) (w : List ℕ) : Type 0 where
  pub right : Right g lab
  pub rank : (v : ℕ) → v < g.n → region (ranks_at g.n b) w v ≡ at (certificate g lab).rank v
  pub in_edge : (v : ℕ) → v < g.n → region (in_edges g.n b) w v ≡ at (certificate g lab).in_edge v
  pub in_dist : (v : ℕ) → v < g.n → region (in_distances g.n b) w v ≡ at (certificate g lab).in_dist v
  pub out_edge : (v : ℕ) → v < g.n → region (out_edges g.n b) w v ≡ at (certificate g lab).out_edge v
  pub out_dist : (v : ℕ) → v < g.n → region (out_distances g.n b) w v ≡ at (certificate g lab).out_dist v

-- the certificate stands in w, or the labels are not right
pub record Worked (g : Graph) (lab : List ℕ) (b : ℕ) (w w' : List ℕ) (r : Bool) : Type 0 where
  pub beyond : Beyond (numbers_needed g.n (edges g)) w w'
  pub either : ((r ≡ true) × Made g lab b w') ⊎ ((r ≡ false) × (Right g lab → ⊥))

pub record HandAsk (n m : ℕ) (w rank in_edge in_dist out_edge out_dist : List ℕ) : Type 0 where
  pub limits : InLimits n m
  pub room : 2 * (n + 1 + m) + 7 * n ≤ length w
  pub rank_size : length rank ≡ n
  pub in_edge_size : length in_edge ≡ n
  pub in_dist_size : length in_dist ≡ n
  pub out_edge_size : length out_edge ≡ n
  pub out_dist_size : length out_dist ≡ n

pub record Handed (n b : ℕ) (w rank rank' in_edge in_edge' in_dist in_dist' out_edge out_edge' out_dist out_dist' : List ℕ) : Type 0 where
  pub to_rank : Copied w (ranks_at n b) rank rank'
  pub to_in_edge : Copied w (in_edges n b) in_edge in_edge'
  pub to_in_dist : Copied w (in_distances n b) in_dist in_dist'
  pub to_out_edge : Copied w (out_edges n b) out_edge out_edge'
  pub to_out_dist : Copied w (out_distances n b) out_dist out_dist'
