-- What is left of the part is its core; what went from a closed part is a component alone.
use Prim.Native.Nat.{ℕ, ◌≤◌, ◌<◌}
use native.Mathlib.Omega.{arith}
use mathlib.Core.Path.{◌≡◌, refl, sym, ◌∙◌}
use mathlib.Core.Logic.{⊎_elim}
use mathlib.Core.List.{List}
use lib.Dec.{T, ltb, eqb→eq, ltb→lt, lt→ltb}
use Rattle.graph.specs.Graph.{Graph, Edge, rev}
use Rattle.graph.specs.Parts.{Closed, Alone, only, Tight, IsCore}
use Rattle.graph.specs.Search.{part, core}
use Rattle.graph.specs.Numbers.{mark}
use Rattle.graph.proofs.Tests.{and_l, and_r, and_make, eq_t}
use Rattle.graph.proofs.Chains.{edge_rev}
use Rattle.graph.proofs.Trim.{core_is, trimmed_alone}
use Rattle.memory.specs.Decomposer.{col}
use Rattle.prune.specs.Trim.{hued, Trimmed, rev_at, into_at, out_at}
use Rattle.prune.specs.Cursor.{Hued}
use Rattle.prune.specs.Prune.{Pruned, Passed, DrainAsk, Drained}
use Rattle.prune.proofs.Walks.{stands_left}
use Rattle.prune.proofs.Steps.{shrink, pruned_more}

-- the test and the set of the vertices of a colour are the same
pub hued_is : (n b q : ℕ) (w : List ℕ) (v : ℕ) → T (hued n b q w v) → Hued n b q w v
hued_is n b q w v t = (ltb→lt v n (and_l (ltb v n) _ t), eqb→eq (col b w v) q (and_r (ltb v n) _ t))

pub is_hued : (n b q : ℕ) (w : List ℕ) (v : ℕ) → Hued n b q w v → T (hued n b q w v)
is_hued n b q w v (l, e) = and_make (ltb v n) _ (lt→ltb v n l) (eq_t (col b w v) q e)

-- THE CORE OF A COLOUR
module _ (g : Graph) (b q : ℕ) (w : List ℕ) where
  pub core_of : IsCore g (part (hued g.n b q w)) (part (mark (core g (hued g.n b q w))))
  core_of = core_is g (hued g.n b q w) (λ v t. (hued_is g.n b q w v t).0)

  -- what trimming takes from a closed part is alone
  pub gone_alone : (w' : List ℕ) (k : ℕ) → g.n ≤ q → Closed g (Hued g.n b q w) → Trimmed g b q w w' k
      → (v : ℕ) → v < g.n → col b w v ≡ q → (col b w' v ≡ q → ⊥) → Alone g v
  gone_alone w' k p cl z v l e o =
      trimmed_alone g (hued g.n b q w) (λ x y s t. is_hued g.n b q w y (cl x y s (hued_is g.n b q w x t))) (λ x t. (hued_is g.n b q w x t).0)
      g.n v (is_hued g.n b q w v (l, e)) (λ t. o (z.stays v l t))

  -- a loop counts as an edge that enters and that leaves: a vertex with a loop stays
  pub loop_stays : (w' : List ℕ) (k e v : ℕ) → Edge g e v v → v < g.n → col b w v ≡ q → Trimmed g b q w w' k → col b w' v ≡ q
  loop_stays w' k e v y l c z =
      z.stays v l (core_of.greatest (only v) (λ u i. rw (sym i) (is_hued g.n b q w v (l, c)))
      (λ u i. rw (sym i) ((e, v, refl, y), (e, v, refl, y))) v refl)

-- THE STAGES OF TRIMMING
module _ {g : Graph} {b q : ℕ} {w w₁ : List ℕ} {k₁ : ℕ} (p : Passed g b q w w₁ k₁) where
  pub drain_ask : DrainAsk g b q k₁ w₁
  drain_ask = record { state = p.pruned.state; standing = p.standing }

  module _ {w₂ : List ℕ} {k₂ : ℕ} (d : Drained g b q k₁ w₁ w₂ k₂) where
    run : Pruned g b q 0 w w₂ k₂
    run = pruned_more p.pruned d.pruned

    -- what is left is tight, so it is in the core
    left_tight : Tight g (Hued g.n b q w₂)
    left_tight v (l, e) =
        let (o, i) = d.stands v l e in
        let (f, x, c, y) = stands_left (rev g) (rev_at g) (into_at g b) b q w₂ run.state.walking.into v l i in
        ((f, x, c, edge_rev y), stands_left g 0 (out_at g b) b q w₂ run.state.walking.out v l o)

    left_core : (v : ℕ) → v < g.n → col b w₂ v ≡ q → T (mark (core g (hued g.n b q w)) v)
    left_core v l e = (core_of g b q w).greatest (Hued g.n b q w₂)
        (λ u (n, c). is_hued g.n b q w u (n, shrink run u n c)) left_tight v (l, e)

    pub trim_all : Trimmed g b q w w₂ k₂
    trim_all = record {
      stays = λ v l t. (run.keeps (mark (core g (hued g.n b q w))) (core_of g b q w).tight (λ u s. hued_is g.n b q w u ((core_of g b q w).inside u s)) v t).1;
      goes = λ v l e o. ⊎_elim (λ s. absurd (o (left_core v l (s ∙ e)))) (λ s. s.1) (run.each v l);
      else = λ v l o. ⊎_elim (λ s. s) (λ s. absurd (o s.0)) (run.each v l);
      gone = omega (arith, run.sum);
      aside = run.aside;
    }
