use Rattle.std.proofs.Common.{◌∙◌, sym, ap}
use Rattle.lines.specs.Answers.{pieces_of}
use Rattle.text.proofs.Edges.{filling_none, filling_end, filling_full, filling_room_s, filling_room_t, filling_step, filling_blank}
use Rattle.text.proofs.entries.fill.Goals as goal

pub loop-line-init : goal.loop-line-init
loop-line-init c = filling_none _ _ _ _ c.requires _ (ap pieces_of c.into_iter-line-iterator.ensures.into_iter_gives ∙ c.lines-line-items.ensures.pieces)

pub bounds-sources-k : goal.bounds-sources-k
bounds-sources-k c = filling_room_s _ _ _ _ _ _ _ _ c.loop-line.invariant _ _ c.in-Some.ensures.steps.0 _ c.entry_of.ensures _ (sym c.unwrap_or.ensures ∙ c.in-Some-unwrap_or.is)

pub bounds-targets-k : goal.bounds-targets-k
bounds-targets-k c = filling_room_t _ _ _ _ _ _ _ _ c.loop-line.invariant _ _ c.in-Some.ensures.steps.0 _ c.entry_of.ensures _ (sym c.unwrap_or.ensures ∙ c.in-Some-unwrap_or.is)

pub loop-line-preserved-in-Some-unwrap_or : goal.loop-line-preserved-in-Some-unwrap_or
loop-line-preserved-in-Some-unwrap_or c = filling_step _ _ _ _ _ _ _ _ c.loop-line.invariant _ _ c.in-Some.ensures.steps.0 _ c.entry_of.ensures _ (sym c.unwrap_or.ensures ∙ c.in-Some-unwrap_or.is)

pub loop-line-preserved : goal.loop-line-preserved
loop-line-preserved c = filling_blank _ _ _ _ _ _ _ _ c.loop-line.invariant _ _ c.in-Some.ensures.steps.0 _ c.entry_of.ensures (sym c.unwrap_or.ensures ∙ c.in_default.is)

pub returns-then-k-size : goal.returns-then-k-size
returns-then-k-size c = filling_full _ _ _ _ _ _ _ _ c.loop-line.invariant c.if-k-size.true

pub returns-in-None : goal.returns-in-None
returns-in-None c = filling_end _ _ _ _ _ _ _ _ c.loop-line.invariant c.in-None.ensures.steps.0.0
