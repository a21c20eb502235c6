use Rattle.std.proofs.Common.{rules}
use Rattle.pivot.proofs.Places.{filling_free, rising_step, rising_all}
use borrow.Author.Rules.{rules}
use Rattle.pivot.proofs.order.others.Goals as goal

pub place-k-requires : goal.place-k-requires
place-k-requires c = record { room = search rules; free = search filling_free }

pub loop-v-preserved : goal.loop-v-preserved
loop-v-preserved c = search rising_step

pub returns : goal.returns
returns c = search rising_all
