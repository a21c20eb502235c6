use Prim.Native.Nat.{◌+◌}
use Rattle.prune.specs.Prune.{NearAsk, Around}
use Rattle.prune.proofs.Tables.{KeptOf}
use Rattle.prune.proofs.queue.around.Given as goal

abbrev pub invariant-loop-i : goal.invariant-loop-i
invariant-loop-i l =
    KeptOf l.at.n l.at.m (λ g. NearAsk g l.along.index l.at.base l.u l.q l.k0 l.initial.w)
    (λ g. Around g (l.along.index + g.n + 1) l.at.base l.i0 l.i l.q l.k0 l.initial.w l.w l.k)
