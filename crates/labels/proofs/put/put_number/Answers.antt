use Rattle.labels.proofs.Bytes.{digiting_none, digiting_step, digiting_power, digits_end, digits_even, digits_more, digits_all, digits_put}
use Rattle.labels.proofs.put.put_number.Goals as goal

pub slice_bounds-place-items-end : goal.slice_bounds-place-items-end
slice_bounds-place-items-end c = digits_end _ _ _ _ _ c.requires.1 c.width_of-width.ensures

pub loop-place-init : goal.loop-place-init
loop-place-init c = digiting_none _ _ _ _ _ c.width_of-width.ensures

pub nonzero_div-place : goal.nonzero_div-place
nonzero_div-place c =
    let more = digits_more _ _ _ _ _ (digits_even _ _ _ _ _ c.requires.1 c.width_of-width.ensures) c.loop-place.invariant c.loop-place-test.true in
    digiting_power _ _ _ _ _ _ c.loop-place.invariant more

pub loop-place-preserved : goal.loop-place-preserved
loop-place-preserved c =
    let more = digits_more _ _ _ _ _ (digits_even _ _ _ _ _ c.requires.1 c.width_of-width.ensures) c.loop-place.invariant c.loop-place-test.true in
    digiting_step _ _ _ _ _ _ c.loop-place.invariant more

pub returns : goal.returns
returns c =
    digits_put _ _ _ _ _ c.requires.1 c.width_of-width.ensures _ (digits_all _ _ _ _ _ (digits_even _ _ _ _ _ c.requires.1 c.width_of-width.ensures) c.loop-place.invariant c.loop-place-test.false)
