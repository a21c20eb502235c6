use mathlib.Core.Path.{refl}
use mathlib.Core.Logic.{inl, inr}
use Rattle.moves.proofs.Painting.{close_order, close_room, close_some, close_paint, paint_part, lowest_part, painted_part}
use Rattle.moves.proofs.segments.close.Goals as goal

pub returns-then-y-w : goal.returns-then-y-w
returns-then-y-w c = record { stands = (refl, record { path = refl; top = refl; end = refl }); closed = inl (c.if-y-w.true, refl, refl, refl) }

pub lowest-requires : goal.lowest-requires
lowest-requires c = close_some c.requires

pub paint-requires : goal.paint-requires
paint-requires c = paint_part (close_order c.requires) (close_room c.requires) (close_paint c.requires)

pub returns : goal.returns
returns c =
    let order = close_order c.requires in
    let room = close_room c.requires in
    record {
      stands = (refl, record { path = refl; top = refl; end = refl });
      closed = inr (c.if-y-w.false, refl, refl, (_, lowest_part order room c.lowest.ensures, painted_part order room c.paint.ensures));
    }
