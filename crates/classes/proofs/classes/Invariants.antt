use Prim.Native.Nat.{◌+◌}
use Rattle.graph.specs.Arrows.{Every}
use Rattle.memory.specs.Memory.{Framed}
use Rattle.classes.specs.Search.{ClassAsk, Sorted}
use Rattle.classes.proofs.classes.Given as goal

abbrev pub invariant-loop-l : goal.invariant-loop-l
invariant-loop-l l = Framed l.along.base (l.along.base + l.along.n + l.along.n) l.initial.w l.w × Every l.along.n (λ g. ClassAsk g l.label l.along.index l.along.base 0 l.initial.w → Sorted g l.label l.along.base l.l l.w)
