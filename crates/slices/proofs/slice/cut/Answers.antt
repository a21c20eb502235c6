use Rattle.graph.specs.Arrows.{back, sized}
use Rattle.slices.proofs.Cutting.{cut_level, cut_searched, cut_all, cut_done}
use Rattle.slices.proofs.slice.cut.Goals as goal

pub sow-k-requires : goal.sow-k-requires
sow-k-requires c = (sized c.args.at.m c.requires.0, c.requires.1)

pub spread-f-requires : goal.spread-f-requires
spread-f-requires c =
    let g = sized c.args.at.m c.requires.0 in
    simp (c.backward-backward.ensures, c.change.ensures) (back g, cut_level c.requires.1 (c.sow-k.ensures g c.requires.1))

pub mark_all-requires : goal.mark_all-requires
mark_all-requires c =
    let g = sized c.args.at.m c.requires.0 in
    let z = c.sow-k.ensures g c.requires.1 in
    let y = rw (c.backward-backward.ensures, c.change.ensures) at c.spread-f.ensures in
    (g, cut_all c.requires.1 (cut_searched c.requires.1 z (y (back g) (cut_level c.requires.1 z))))

pub returns : goal.returns
returns c =
    let y = rw (c.backward-backward.ensures, c.change.ensures) at c.spread-f.ensures in
    λ x a.
    let g = sized c.args.at.m x in
    let z = c.sow-k.ensures g a in
    let f = cut_searched a z (y (back g) (cut_level a z)) in
    cut_done a f (c.mark_all.ensures g (cut_all a f))
