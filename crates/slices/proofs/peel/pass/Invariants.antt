use Rattle.prune.proofs.Tables.{KeptOf}
use Rattle.slices.specs.Seeds.{Listed}
use Rattle.slices.specs.Peel.{PassAsk, Settled}
use Rattle.slices.proofs.peel.pass.Given as goal

abbrev pub invariant-loop-i : goal.invariant-loop-i
invariant-loop-i l =
    let p = l.fn.places in
    KeptOf l.at.n l.at.m (λ g. PassAsk g l.at.base l.r p.from p.to l.initial.w)
    (λ g. Settled g l.at.base l.r l.initial.w p.to 0 l.w l.count.seeds l.count.gone (Listed l.at.n l.at.base l.initial.w p.from l.i))
