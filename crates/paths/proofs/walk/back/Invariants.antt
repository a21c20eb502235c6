use Rattle.paths.specs.Walk.{EveryFrom, WalkAsk}
use Rattle.paths.proofs.Walks.{Walking}
use Rattle.paths.proofs.walk.back.Given as goal

abbrev pub invariant-loop-d : goal.invariant-loop-d
invariant-loop-d l = EveryFrom l.table.n l.sources (λ g u. WalkAsk g u l.v l.d0 l.w l.initial.room → Walking g u l.v l.d0 l.initial.room l.x l.d l.room)
