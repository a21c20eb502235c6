use Rattle.std.proofs.Common.{◌*◌}
use Rattle.pivot.proofs.Members.{Ahead}
use Rattle.pivot.proofs.place.within.Given as goal

abbrev pub invariant-loop-i : goal.invariant-loop-i
invariant-loop-i l = Ahead l.words l.n (l.first * 64) l.rest (l.i * 64) l.left
