use Rattle.std.proofs.Common.{refl}
use Rattle.graph.specs.Arrows.{sized}
use Rattle.sweep.proofs.Drawing.{slice_find, pick_mark, pick_cuts, pick_slice}
use Rattle.sweep.proofs.drawn.slice.Goals as goal

pub search-s-requires : goal.search-s-requires
search-s-requires c = rw c.forward.ensures (sized c.args.at.m c.requires.0, slice_find c.requires.1 refl)

pub mark-requires : goal.mark-requires
mark-requires c = pick_mark c.requires.1 refl ((rw c.forward.ensures at c.search-s.ensures) (sized c.args.at.m c.requires.0) (slice_find c.requires.1 refl))

pub cuts-requires : goal.cuts-requires
cuts-requires c =
    let f = (rw c.forward.ensures at c.search-s.ensures) (sized c.args.at.m c.requires.0) (slice_find c.requires.1 refl) in
    (c.requires.0, pick_cuts c.requires.1 refl f c.mark.ensures)

pub returns-clause-picked : goal.returns-clause-picked
returns-clause-picked c =
    λ e a.
    let f = (rw c.forward.ensures at c.search-s.ensures) (sized c.args.at.m e) (slice_find a refl) in
    pick_slice a refl f c.mark.ensures (c.cuts.ensures e (pick_cuts a refl f c.mark.ensures))
