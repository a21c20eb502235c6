use Rattle.std.proofs.Common.{◌+◌, ◌*◌, ◌≡◌, arith}
use Rattle.graph.specs.Numbers.{tally}
use Rattle.pivot.proofs.Members.{from_at, bit_member, within_words, words_passed}
use Rattle.pivot.proofs.place.select.Goals as goal

pub loop-first-init : goal.loop-first-init
unfolding tally
loop-first-init c = (omega arith, omega arith)

pub within-requires : goal.within-requires
within-requires c = from_at c.requires (c.loop-first.first * 64) c.loop-first.rest c.loop-first.invariant.1

pub returns-then-rest-ones : goal.returns-then-rest-ones
returns-then-rest-ones c = bit_member c.requires c.within.ensures c.loop-first.invariant.1

pub loop-first-preserved : goal.loop-first-preserved
loop-first-preserved c =
    let e : c.loop-first.first + 16 ≡ c.min-end.result = omega (arith, c.min-end.ensures) in
    (omega arith, rw e (words_passed c.args.words.now c.loop-first.first c.min-end.result (omega arith) (omega arith) c.size-ones.ensures c.if-rest-ones.false c.loop-first.invariant.1))

pub returns : goal.returns
returns c = absurd (within_words c.requires c.loop-first.first c.loop-first.rest (omega arith) c.loop-first.invariant.1)

pub returns-else-rest-ones : goal.returns-else-rest-ones
returns-else-rest-ones c =
    absurd (within_words c.requires c.min-end.result _ (omega arith) (words_passed c.args.words.now c.loop-first.first c.min-end.result (omega arith) (omega arith) c.size-ones.ensures c.if-rest-ones.false c.loop-first.invariant.1))
