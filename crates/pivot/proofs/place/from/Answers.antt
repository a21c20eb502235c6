use Rattle.std.proofs.Common.{◌≡◌, ◌+◌, ◌*◌, refl, ◌∙◌, arith}
use Rattle.graph.specs.Sets.{bit}
use Rattle.sets.proofs.Store.{bit_byte}
use Rattle.pivot.proofs.Members.{ahead_here, ahead_passed, word_bit}
use Rattle.pivot.proofs.place.from.Goals as goal

pub loop-b-init : goal.loop-b-init
loop-b-init c =
    let z : c.args.i * 64 + 0 ≡ c.args.i * 64 = omega arith in
    rw z (record { low = c.requires.from.low; same = refl })

pub returns-then-k-ones : goal.returns-then-k-ones
returns-then-k-ones c =
    let e : c.from-ones.result ≡ bit c.args.words.now (c.args.i * 64 + c.loop-b.b) =
    c.from-ones.ensures ∙ rw c.has.ensures (bit_byte _ _) ∙ word_bit c.args.words.now c.args.i c.loop-b.b (omega (arith, c.requires.from.here, c.requires.from.words)) c.loop-b-test.true in
    ahead_here c.loop-b.invariant (omega (arith, e, c.if-k-ones.true))

pub loop-b-preserved : goal.loop-b-preserved
loop-b-preserved c =
    let e : c.from-ones.result ≡ bit c.args.words.now (c.args.i * 64 + c.loop-b.b) =
    c.from-ones.ensures ∙ rw c.has.ensures (bit_byte _ _) ∙ word_bit c.args.words.now c.args.i c.loop-b.b (omega (arith, c.requires.from.here, c.requires.from.words)) c.loop-b-test.true in
    let d : c.args.i * 64 + (c.loop-b.b + 1) ≡ c.args.i * 64 + c.loop-b.b + 1 = omega arith in
    rw (d, e) (ahead_passed c.loop-b.invariant (omega (arith, e, c.if-k-ones.false)))
