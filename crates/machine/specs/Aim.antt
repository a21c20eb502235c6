-- Where the next turn reads: the list goes round over n places.
use Rattle.std.specs.Prelude.{ℕ, ◌+◌, ◌-◌, ◌≤◌, cond, eqb, ltb, Option, Some, None}
use Rattle.graph.specs.Limits.{most_vertices}
use Rattle.machine.specs.declared.Machine.{Machine}
use Rattle.machine.specs.Orders.{order_of}

-- place x, going round over n places
unfoldable pub wrapped : ℕ → ℕ → ℕ
wrapped n x = cond (ltb x n) x (x - n)

-- the place of the i-th record that waits, the oldest first
abbrev pub ring : ℕ → Machine → ℕ → ℕ
ring n s i = wrapped n (s.oldest + i)

pub record AimAsk (s : Machine) : Type 0 where
  pub oldest : s.oldest ≤ most_vertices
  pub count : s.count ≤ most_vertices

-- a place to clear; a free one for a pending part; the newest record (order 0) or the oldest; none when nothing is left to do
unfoldable pub aim : ℕ → Machine → Option ℕ
aim n s =
    cond (ltb s.cleared n) (Some s.cleared)
    (cond (ltb s.given s.pending) (Some (ring n s s.count))
    (cond (eqb s.count 0) None
    (cond (eqb (order_of s.order) 0) (Some (ring n s (s.count - 1))) (Some s.oldest))))

abbrev pub aimed : ℕ → Machine → Machine
aimed n s = record s { next = aim n s }
