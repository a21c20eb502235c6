use Rattle.graph.specs.Arrows.{sized}
use Rattle.reach.proofs.Result.{spread_ask, gather_ask, found}
use Rattle.reach.proofs.steps.run.Goals as goal

pub spread-s-requires : goal.spread-s-requires
spread-s-requires c =
    let (g, a) = c.requires in
    (sized c.args.m g, spread_ask a c.colour.ensures c.choose.ensures c.begin-k.ensures)

pub gather-requires : goal.gather-requires
gather-requires c =
    let (g, a) = c.requires in
    let x = c.colour.ensures in
    let y = c.choose.ensures in
    let z = c.begin-k.ensures in
    gather_ask a x y z (c.spread-s.ensures (sized c.args.m g) (spread_ask a x y z))

pub returns-clause-found : goal.returns-clause-found
returns-clause-found c =
    let x = c.colour.ensures in
    let y = c.choose.ensures in
    let z = c.begin-k.ensures in
    λ g a. found a x y z (c.spread-s.ensures (sized c.args.m g) (spread_ask a x y z)) c.gather.ensures
