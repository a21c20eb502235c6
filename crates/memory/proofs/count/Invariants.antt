use Prim.Native.Nat.{◌+◌}
use Rattle.memory.specs.Memory.{Put}
use Rattle.memory.proofs.count.Given as goal

abbrev pub invariant-loop-i : goal.invariant-loop-i
invariant-loop-i l = Put l.a l.i (λ j. j + l.first) l.initial.w l.w
