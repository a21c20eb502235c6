use Rattle.std.proofs.Common.{◌<◌, ◌∙◌, sym, arith}
use Rattle.lines.proofs.Words.{number_none, number_long, digits_none, digits_end, digits_room, digits_low, digits_high, digits_step}
use Rattle.lines.proofs.numbers.number_of.Goals as goal
use Rattle.lines.proofs.numbers.number_of.Goals.{then-is_empty-via-then-is_empty, then-is_empty-via-else-is_empty+then-word-gt-MOST_DIGITS}

pub returns-then-is_empty : goal.returns-then-is_empty
returns-then-is_empty c =
    elim c.then-is_empty.branch [
      | then-is_empty-via-then-is_empty w ↦ number_none _ (sym c.is_empty.ensures ∙ w.if-is_empty.true)
      | then-is_empty-via-else-is_empty+then-word-gt-MOST_DIGITS w ↦ number_long _ w.if-word-gt-MOST_DIGITS.true
    ]

pub loop-b-init : goal.loop-b-init
loop-b-init c = search digits_none

pub returns-in_default : goal.returns-in_default
returns-in_default c = digits_low _ _ _ c.loop-b.invariant c.loop-b-test.true (omega arith)

pub returns-in_default-2 : goal.returns-in_default-2
returns-in_default-2 c = digits_high _ _ _ c.loop-b.invariant c.loop-b-test.true (omega arith)

pub overflow_mul-value : goal.overflow_mul-value
overflow_mul-value c =
    let room : c.loop-b.value < 100000000 = digits_room _ _ _ c.loop-b.invariant c.loop-b-test.true c.if-word-gt-MOST_DIGITS.false in
    omega (arith, room)

pub overflow_add-value : goal.overflow_add-value
overflow_add-value c =
    let room : c.loop-b.value < 100000000 = digits_room _ _ _ c.loop-b.invariant c.loop-b-test.true c.if-word-gt-MOST_DIGITS.false in
    omega (arith, room, c.type_inv.word c.loop-b.b-index)

pub loop-b-preserved : goal.loop-b-preserved
loop-b-preserved c = rw c.from.ensures (digits_step _ _ _ c.loop-b.invariant c.loop-b-test.true (omega arith) (omega arith))

pub returns : goal.returns
returns c = digits_end _ _ _ c.loop-b.invariant (sym c.is_empty.ensures ∙ c.if-is_empty.false) c.if-word-gt-MOST_DIGITS.false c.loop-b-test.false
