-- A table that no parameter holds: contracts speak of some table, or of every one, that the memory agrees with.
use Rattle.std.specs.Prelude.{ℕ, Bool, List}
use Rattle.graph.specs.Graph.{Graph}

-- a table without its number of vertices, which code has in a parameter
pub record Arrows : Type 0 where
  pub m : ℕ
  pub src : List ℕ
  pub tgt : List ℕ
  pub counted : ℕ → Bool

abbrev pub on : ℕ → Arrows → Graph
on n a = record { n = n; m = a.m; src = a.src; tgt = a.tgt; counted = a.counted }

abbrev pub arrows : Graph → Arrows
arrows g = record { m = g.m; src = g.src; tgt = g.tgt; counted = g.counted }

-- the same turned: on n (back a) is rev (on n a)
abbrev pub back : Arrows → Arrows
back a = record { m = a.m; src = a.tgt; tgt = a.src; counted = a.counted }

-- P holds of some table of n vertices, and of every one
abbrev pub Some : ℕ → (Graph → Type 0) → Type 0
Some n P = (a : Arrows) × P (on n a)

abbrev pub Every : ℕ → (Graph → Type 0) → Type 0
Every n P = (a : Arrows) → P (on n a)

-- the same with m edges, where code has that number too
abbrev pub sized : ℕ → Arrows → Arrows
sized m a = record { m = m; src = a.src; tgt = a.tgt; counted = a.counted }

abbrev pub SomeOf : ℕ → ℕ → (Graph → Type 0) → Type 0
SomeOf n m P = (a : Arrows) × P (on n (sized m a))

abbrev pub EveryOf : ℕ → ℕ → (Graph → Type 0) → Type 0
EveryOf n m P = (a : Arrows) → P (on n (sized m a))
