use Rattle.classes.proofs.Classing.{class_skip, measure_ask, class_search}
use Rattle.classes.proofs.class.Goals as goal

pub returns-then-label-l : goal.returns-then-label-l
returns-then-label-l c = λ g q. search class_skip

pub measure-requires : goal.measure-requires
measure-requires c = let (q, l) = c.requires in (q.0, measure_ask q.1 l)

pub returns : goal.returns
returns c =
    let l = c.requires.1 in
    λ g q. class_search q l (c.measure.ensures g (measure_ask q l))
