use mathlib.Core.Path.{refl, sym, ◌∙◌}
use mathlib.Core.List.{◌++◌}
use Prim.Native.Nat.{◌+◌}
use lib.ListN.{length, drop}
use lib.Seq.{length-take-le}
use Rattle.graph.specs.Graph.{Graph}
use Rattle.graph.specs.Table.{graph_of}
use Rattle.graph.specs.Arrows.{arrows}
use Rattle.index.specs.Index.{numbered}
use Rattle.index.specs.Build.{One}
use Rattle.index.proofs.Moved.{one_laid}
use Rattle.memory.specs.Memory.{region}
use Rattle.memory.specs.Writer.{in_edges}
use Rattle.ranks.specs.Peel.{Ground}
use Rattle.ranks.proofs.Settling.{ground_kept}
use Rattle.ranks.proofs.Freeing.{numbers_ask, renumber_ask, frees_ask, ranks_end, begin}
use native.Mathlib.Omega.{arith}
use Rattle.ranks.proofs.ranks.Goals as goal

pub slice_bounds-renumber-end : goal.slice_bounds-renumber-end
slice_bounds-renumber-end c = (numbers_ask c.requires).room

pub slice_bounds-renumber-end-2 : goal.slice_bounds-renumber-end-2
slice_bounds-renumber-end-2 c = sym (length-take-le _ _ (numbers_ask c.requires).room)

pub renumber-requires : goal.renumber-requires
renumber-requires c = search renumber_ask

pub fill-requires : goal.fill-requires
fill-requires c =
    let whole : Graph = graph_of c.args.table.now in
    let laid : One (numbered (whole)) c.args.w.now (c.renumber.new.w ++ drop (c.args.table.now.n + 1 + length c.args.table.now.sources.now) c.args.w.now) = one_laid (numbered (whole)) c.args.table.now.kinds.now c.args.w.now c.renumber.new.w (numbers_ask c.requires) c.renumber.ensures in
    omega (arith, c.requires.ground.fits, (laid).long)

pub counts-requires : goal.counts-requires
counts-requires c =
    let whole : Graph = graph_of c.args.table.now in
    let laid : One (numbered (whole)) c.args.w.now (c.renumber.new.w ++ drop (c.args.table.now.n + 1 + length c.args.table.now.sources.now) c.args.w.now) = one_laid (numbered (whole)) c.args.table.now.kinds.now c.args.w.now c.renumber.new.w (numbers_ask c.requires) c.renumber.ensures in
    let grounded : Ground (whole) c.args.label.now c.args.base c.fill.new.w = ground_kept c.requires.ground (c.fill.ensures.framed.long ∙ (laid).long) in
    record { ground = grounded; kinded = c.requires.kinded }

pub frees-h-requires : goal.frees-h-requires
frees-h-requires c =
    let whole : Graph = graph_of c.args.table.now in
    let laid : One (numbered (whole)) c.args.w.now (c.renumber.new.w ++ drop (c.args.table.now.n + 1 + length c.args.table.now.sources.now) c.args.w.now) = one_laid (numbered (whole)) c.args.table.now.kinds.now c.args.w.now c.renumber.new.w (numbers_ask c.requires) c.renumber.ensures in
    let grounded : Ground (whole) c.args.label.now c.args.base c.fill.new.w = ground_kept c.requires.ground (c.fill.ensures.framed.long ∙ (laid).long) in
    frees_ask (grounded) c.counts.ensures

pub peel-requires : goal.peel-requires
peel-requires c =
    let whole : Graph = graph_of c.args.table.now in
    let laid : One (numbered (whole)) c.args.w.now (c.renumber.new.w ++ drop (c.args.table.now.n + 1 + length c.args.table.now.sources.now) c.args.w.now) = one_laid (numbered (whole)) c.args.table.now.kinds.now c.args.w.now c.renumber.new.w (numbers_ask c.requires) c.renumber.ensures in
    (arrows (whole), begin c.requires (laid) c.fill.ensures c.counts.ensures c.frees-h.ensures (region (in_edges c.args.table.now.n c.args.base) c.args.w.now) (λ v l. refl))

pub returns : goal.returns
returns c =
    let whole : Graph = graph_of c.args.table.now in
    let laid : One (numbered (whole)) c.args.w.now (c.renumber.new.w ++ drop (c.args.table.now.n + 1 + length c.args.table.now.sources.now) c.args.w.now) = one_laid (numbered (whole)) c.args.table.now.kinds.now c.args.w.now c.renumber.new.w (numbers_ask c.requires) c.renumber.ensures in
    ranks_end c.requires (laid) c.fill.ensures c.counts.ensures c.frees-h.ensures (c.peel.ensures (arrows (whole)))

pub shape_of-w : goal.shape_of-w
shape_of-w c = (returns c).long
