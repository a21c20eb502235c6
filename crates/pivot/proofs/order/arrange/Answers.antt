use Rattle.pivot.proofs.Places.{beside_more, beside_framed}
use Rattle.pivot.proofs.order.arrange.Goals as goal

pub returns : goal.returns
returns c =
    let l = c.listed-k.ensures in
    let o = c.others.ensures in
    record { order = o.order c.args.list.now l.leads; beside = beside_more (beside_framed c.fill.ensures.framed) (beside_more l.beside o.beside) }
