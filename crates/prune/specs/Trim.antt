-- Trimming the part of a colour: what is left of it is its core, and what goes gets its own number as colour.
use Rattle.std.specs.Prelude.{ℕ, ◌+◌, ◌*◌, ◌≤◌, ◌<◌, ◌≡◌, Bool, ◌&&◌, List, length, T, eqb, ltb}
use Rattle.graph.specs.Graph.{Graph, rev, edges}
use Rattle.graph.specs.Numbers.{many, mark}
use Rattle.graph.specs.Search.{core}
use Rattle.graph.specs.Limits.{most_vertices}
use Rattle.memory.specs.Decomposer.{col, entering_at, leaving_at, Aside}
use Rattle.paint.specs.Paint.{Laid}
use Rattle.prune.specs.Chain.{Chained}

-- v is a vertex of the colour q
abbrev pub hued : ℕ → ℕ → ℕ → List ℕ → ℕ → Bool
hued n b q w v = ltb v n && eqb (col b w v) q

-- how many vertices have the colour q
abbrev pub live : ℕ → ℕ → ℕ → List ℕ → ℕ
live n b q w = many (λ v. eqb (col b w v) q) n

-- where the reverse index begins, and the cursors of the edges that enter and that leave
abbrev pub rev_at : Graph → ℕ
rev_at g = g.n + 1 + edges g

abbrev pub into_at : Graph → ℕ → ℕ
into_at g b = entering_at g.n b

abbrev pub out_at : Graph → ℕ → ℕ
out_at g b = leaving_at g.n b

-- the part of the colour q, whose chain begins at place h, is to be trimmed
pub record TrimAsk (g : Graph) (b h q : ℕ) (w : List ℕ) : Type 0 where
  pub fwd : Laid g 0 b w
  pub bwd : Laid (rev g) (rev_at g) b w
  pub small : g.n ≤ most_vertices
  pub long : b + 10 * g.n + 2 ≤ length w
  pub part : g.n ≤ q
  pub chain : Chained g.n b q h w

-- the core keeps the colour q, what else had it has its own number, no other colour has changed; k vertices have gone
pub record Trimmed (g : Graph) (b q : ℕ) (w w' : List ℕ) (k : ℕ) : Type 0 where
  pub stays : (v : ℕ) → v < g.n → T (mark (core g (hued g.n b q w)) v) → col b w' v ≡ q
  pub goes : (v : ℕ) → v < g.n → col b w v ≡ q → (T (mark (core g (hued g.n b q w)) v) → ⊥) → col b w' v ≡ v
  pub else : (v : ℕ) → v < g.n → (col b w v ≡ q → ⊥) → col b w' v ≡ col b w v
  pub gone : k + live g.n b q w' ≡ live g.n b q w
  pub aside : Aside g.n b w w'
