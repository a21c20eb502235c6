use Rattle.std.proofs.Common.{◌+◌, ◌*◌}
use Rattle.pivot.proofs.Members.{Ahead}
use Rattle.pivot.proofs.place.from.Given as goal

abbrev pub invariant-loop-b : goal.invariant-loop-b
invariant-loop-b l = Ahead l.words l.n (l.i * 64) l.rest (l.i * 64 + l.b) l.k
