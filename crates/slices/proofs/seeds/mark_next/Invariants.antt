use Rattle.prune.proofs.Tables.{Kept}
use Rattle.slices.specs.Seeds.{NextAsk}
use Rattle.slices.proofs.Walking.{Going}
use Rattle.slices.proofs.seeds.mark_next.Given as goal

abbrev pub invariant-loop-i : goal.invariant-loop-i
invariant-loop-i l = Kept l.at.n (λ g. NextAsk g l.at.base l.r l.v l.e0 l.initial.w) (λ g. Going g l.at.base l.r l.v l.e0 l.initial.w l.i l.w l.e)
