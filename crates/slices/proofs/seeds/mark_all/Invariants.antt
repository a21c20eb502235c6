use Rattle.prune.proofs.Tables.{Kept}
use Rattle.slices.specs.Seeds.{Marked, Behind, AllAsk}
use Rattle.slices.proofs.seeds.mark_all.Given as goal

abbrev pub invariant-loop-i : goal.invariant-loop-i
invariant-loop-i l =
    Kept l.at.n (λ g. AllAsk g l.at.base l.r l.k l.e0 l.initial.w) (λ g. Marked l.at.n l.at.base l.r l.initial.w l.e0 l.w l.e (Behind g l.at.base l.initial.w l.i))
