use mathlib.Core.Path.{refl}
use Rattle.graph.specs.Arrows.{sized}
use Rattle.slices.proofs.Slicing.{slice_start, slice_mark, slice_cuts, slice_done}
use Rattle.slices.proofs.slice.slice.Goals as goal

pub search-requires : goal.search-requires
search-requires c = rw (c.forward.ensures, c.change.ensures) (sized c.args.at.m c.requires.0, slice_start c.requires.1 refl)

pub mark-requires : goal.mark-requires
mark-requires c =
    let y = rw (c.forward.ensures, c.change.ensures) at c.search.ensures in
    slice_mark c.requires.1 refl (y (sized c.args.at.m c.requires.0) (slice_start c.requires.1 refl))

pub cuts-requires : goal.cuts-requires
cuts-requires c =
    let y = rw (c.forward.ensures, c.change.ensures) at c.search.ensures in
    let f = y (sized c.args.at.m c.requires.0) (slice_start c.requires.1 refl) in
    (c.requires.0, slice_cuts c.requires.1 refl f c.mark.ensures)

pub returns : goal.returns
returns c =
    let y = rw (c.forward.ensures, c.change.ensures) at c.search.ensures in
    let k = c.mark.ensures in
    λ g a.
    let f = y (sized c.args.at.m g) (slice_start a refl) in
    slice_done a refl f k (c.cuts.ensures g (slice_cuts a refl f k))
