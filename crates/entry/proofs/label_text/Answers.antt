use Rattle.std.proofs.Common.{refl}
use Rattle.std.proofs.lemmas.Result.{err_from_is_err_and}
use Rattle.entry.proofs.Outcome.{refused_text, sources_taken, targets_taken, sources_room, targets_room, read_ask, written_text}
use Rattle.entry.proofs.label_text.Goals as goal

pub returns-in_err-size : goal.returns-in_err-size
returns-in_err-size c =
    let p = err_from_is_err_and c.from_residual.result c.from_residual.ensures.1 in
    rw (p.1, p.2) (refused_text _ _ _ _ _ _ c.read_within.ensures refl refl _ _ c.in_err-size.was)

pub slice_bounds-sources-end : goal.slice_bounds-sources-end
slice_bounds-sources-end c = sources_room _ _ _ _ _ _ _ c.read_within.ensures _ c.in_ok-size.was

pub slice_bounds-write_labels-end : goal.slice_bounds-write_labels-end
slice_bounds-write_labels-end c = sources_taken _ _ _ _ _ _ _ c.read_within.ensures _ c.in_ok-size.was

pub slice_bounds-targets-end : goal.slice_bounds-targets-end
slice_bounds-targets-end c = targets_room _ _ _ _ _ _ _ c.read_within.ensures _ c.in_ok-size.was

pub slice_bounds-write_labels-end-2 : goal.slice_bounds-write_labels-end-2
slice_bounds-write_labels-end-2 c = targets_taken _ _ _ _ _ _ _ c.read_within.ensures _ c.in_ok-size.was

pub write_labels-requires : goal.write_labels-requires
write_labels-requires c = read_ask _ _ _ _ _ _ c.read_within.ensures refl refl _ c.in_ok-size.was

pub returns : goal.returns
returns c = written_text _ _ _ _ _ _ c.read_within.ensures refl refl _ c.in_ok-size.was _ _ _ c.write_labels.ensures
