use mathlib.Core.Path.{◌≡◌}
use native.Mathlib.Omega.{arith}
use Rattle.linear.proofs.Roots.{roots_end}
use Rattle.linear.proofs.search.roots.Goals as goal

pub returns : goal.returns
returns c =
    let l = c.loop-r in
    let e : l.r ≡ c.args.at.n = omega arith in
    λ g a. roots_end a (rw e at (l.invariant.1 g a))
