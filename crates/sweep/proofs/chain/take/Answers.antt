use Rattle.std.proofs.Common.{arith}
use Rattle.sweep.proofs.Methods.{is_slice, is_split}
use Rattle.sweep.proofs.Taking.{take_room, pivot_ask, slice_ask, take_split, take_slice}
use Rattle.sweep.proofs.chain.take.Goals as goal

pub overflow_cast-top : goal.overflow_cast-top
overflow_cast-top c = omega (arith, take_room c.requires.1)

pub overflow_add-result : goal.overflow_add-result
overflow_add-result c = omega (arith, take_room c.requires.1)

pub split-requires : goal.split-requires
split-requires c = (c.requires.0, pivot_ask c.requires.1)

pub returns-in-Split : goal.returns-in-Split
returns-in-Split c = λ e a. take_split a (is_split c.args.method c.in-Split.is) (c.split.ensures e (pivot_ask a))

pub slice-requires : goal.slice-requires
slice-requires c = (c.requires.0, slice_ask c.requires.1 (is_slice c.args.method c.in-Slice.is))

pub returns-in-Slice : goal.returns-in-Slice
returns-in-Slice c = λ e a. let o = is_slice c.args.method c.in-Slice.is in take_slice a o (c.slice.ensures e (slice_ask a o))
