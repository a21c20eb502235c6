use mathlib.Core.Path.{refl}
use Rattle.certificate.proofs.Working.{both_ask, there_ask, find_stop, back_ask, find_end}
use Rattle.certificate.proofs.work.find.Goals as goal

pub both-requires : goal.both-requires
both-requires c = both_ask c.requires _

pub distances-requires : goal.distances-requires
distances-requires c = there_ask c.requires c.both.ensures

pub returns-then-not-distances : goal.returns-then-not-distances
returns-then-not-distances c = find_stop c.requires c.both.ensures c.if-not-distances.ensures refl

pub shape_of-w-then-not-distances : goal.shape_of-w-then-not-distances
shape_of-w-then-not-distances c = (returns-then-not-distances c).beyond.long

pub distances-requires-2 : goal.distances-requires-2
distances-requires-2 c = back_ask c.requires c.both.ensures c.if-not-distances.ensures refl

pub returns : goal.returns
returns c = find_end c.requires c.both.ensures c.if-not-distances.ensures refl c.distances-2.ensures

pub shape_of-w : goal.shape_of-w
shape_of-w c = (returns c).beyond.long
