use Prim.Native.Nat.{◌≤◌}
use Rattle.index.specs.Index.{first}
use Rattle.prune.proofs.Tables.{KeptOf}
use Rattle.slices.specs.Seeds.{Next}
use Rattle.slices.specs.Peel.{PeelAsk, Settled}
use Rattle.slices.proofs.Walking.{Seen}
use Rattle.slices.proofs.peel.settle_next.Given as goal

abbrev pub invariant-loop-i : goal.invariant-loop-i
invariant-loop-i l =
    let k = l.fn.before in
    KeptOf l.at.n l.at.m (λ g. PeelAsk g l.at.base l.r l.u k.seeds k.gone l.initial.w (Next g l.u))
    (λ g. (first g l.u ≤ l.i) × Settled g l.at.base l.r l.initial.w k.seeds k.gone l.w l.count.seeds l.count.gone (Seen g l.u l.initial.w l.i))
