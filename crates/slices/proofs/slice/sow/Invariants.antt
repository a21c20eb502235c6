use Rattle.graph.specs.Graph.{rev}
use Rattle.paint.specs.Colours.{paint}
use Rattle.paint.specs.Paint.{Begun}
use Rattle.prune.proofs.Tables.{Kept}
use Rattle.slices.specs.Seeds.{Listed}
use Rattle.slices.specs.Slice.{CutAsk}
use Rattle.slices.proofs.slice.sow.Given as goal

abbrev pub invariant-loop-i : goal.invariant-loop-i
invariant-loop-i l =
    let at = l.fn.at in
    let p = l.fn.places in
    Kept at.n (λ g. CutAsk g at.base l.r l.s p.from p.to l.initial.w) (λ g. Begun (rev g) (paint l.r l.s l.r l.s) at.base (Listed at.n at.base l.initial.w p.from l.i) l.initial.w l.w l.k)
