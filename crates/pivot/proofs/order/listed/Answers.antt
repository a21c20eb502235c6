use Rattle.std.proofs.Common.{rules}
use Rattle.pivot.proofs.Places.{filling_free, listed_begin, listed_step, listed_all}
use borrow.Author.Rules.{rules}
use Rattle.pivot.proofs.order.listed.Goals as goal

pub loop-v-init : goal.loop-v-init
loop-v-init c = search listed_begin

pub place-k-requires : goal.place-k-requires
place-k-requires c = record { room = search rules; free = search filling_free }

pub loop-v-preserved : goal.loop-v-preserved
loop-v-preserved c = search listed_step

pub returns : goal.returns
returns c = listed_all c.loop-v.auto.v-index-end c.loop-v-test.false c.loop-v.invariant
