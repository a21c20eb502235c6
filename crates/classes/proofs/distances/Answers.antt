use Rattle.classes.proofs.Classing.{colour_ask, classes_ask, distances_end}
use Rattle.classes.proofs.distances.Goals as goal

pub colour-requires : goal.colour-requires
colour-requires c = search colour_ask

pub classes-requires : goal.classes-requires
classes-requires c =
    let (a, q) = c.requires in
    (a, classes_ask q c.colour.ensures)

pub returns : goal.returns
returns c =
    let x = c.colour.ensures in
    λ g q. distances_end q x (c.classes.ensures g (classes_ask q x)) c.found.ensures
