use Rattle.paint.proofs.Nearness.{measure_visit, measure_rounds, measure_all}
use Rattle.paint.proofs.distances.measure.Goals as goal

pub visit-k-requires : goal.visit-k-requires
visit-k-requires c = measure_visit c.requires.1

pub rounds-requires : goal.rounds-requires
rounds-requires c =
    let (g, a) = c.requires in
    (g, measure_rounds a c.visit-k.ensures)

pub returns : goal.returns
returns c =
    let v = c.visit-k.ensures in
    λ g a. measure_all a v (c.rounds.ensures g (measure_rounds a v))
