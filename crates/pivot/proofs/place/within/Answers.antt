use Rattle.std.proofs.Common.{◌*◌, refl, arith}
use Rattle.sets.proofs.Sizes.{word_tally}
use Rattle.pivot.proofs.Members.{ahead_word, ahead_from, ahead_back, ahead_end}
use Rattle.pivot.proofs.place.within.Goals as goal

pub loop-i-init : goal.loop-i-init
loop-i-init c = record { low = c.requires.low; same = refl }

pub from-requires-clause-from : goal.from-requires-clause-from
from-requires-clause-from c = ahead_from c.requires.small c.requires.words (c.loop-i.i * 64) c.loop-i.left c.loop-i.invariant

pub from-requires-clause-held : goal.from-requires-clause-held
from-requires-clause-held c = omega (arith, word_tally c.args.words.now c.loop-i.i (c.type_inv.words c.loop-i.i).fits, c.if-left-ones.true)

pub returns-then-left-ones : goal.returns-then-left-ones
returns-then-left-ones c = ahead_back c.loop-i.invariant c.from.ensures

pub loop-i-preserved : goal.loop-i-preserved
loop-i-preserved c = ahead_word c.loop-i.i c.loop-i.left (c.type_inv.words c.loop-i.i).fits c.if-left-ones.false c.loop-i.invariant

pub returns : goal.returns
returns c = absurd (ahead_end c.requires.words c.loop-i.i c.loop-i.left c.loop-i-test.false c.loop-i.invariant)
