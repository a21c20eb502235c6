use Prim.Native.Nat.{◌+◌}
use Rattle.reach.specs.Steps.{Gathered}
use Rattle.reach.proofs.steps.gather.Given as goal

abbrev pub invariant-loop-v : goal.invariant-loop-v
invariant-loop-v l = Gathered (l.fn.along.base + l.fn.along.n) l.v-index l.w l.initial.r l.r
