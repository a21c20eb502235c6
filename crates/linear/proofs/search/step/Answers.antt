use native.Mathlib.Omega.{arith}
use Rattle.linear.proofs.Working.{step_of, stepped_of, scan_ask, enter_ask, close_ask, back_ask, shrunk, step_entered, step_back}
use Rattle.linear.proofs.search.step.Goals as goal

pub scan-met-requires : goal.scan-met-requires
scan-met-requires c = let (g, a) = c.requires in scan_ask (step_of a)

pub enter-requires : goal.enter-requires
enter-requires c =
    let (g, a) = c.requires in
    let (stack, stays) = c.scan-met.ensures.stands in
    rw (stays.top, stack, stays.path) (enter_ask (step_of a) c.scan-met.ensures.scanned c.if-met-stand.true)

pub returns-then-met-stand : goal.returns-then-met-stand
returns-then-met-stand c =
    let (stack, stays) = c.scan-met.ensures.stands in
    λ g a. stepped_of (step_entered (step_of a) c.scan-met.ensures.scanned c.if-met-stand.true (rw (stays.top, stack, stays.path) at c.enter.ensures) (omega arith))

pub close-left-requires : goal.close-left-requires
close-left-requires c =
    let (g, a) = c.requires in
    let (stack, stays) = c.scan-met.ensures.stands in
    rw (stays.top, stack) (close_ask (step_of a) c.scan-met.ensures.scanned)

pub back-requires : goal.back-requires
back-requires c =
    let (g, a) = c.requires in
    rw (c.close-left.ensures.stands.1.path, c.scan-met.ensures.stands.1.path) (back_ask (step_of a))

pub returns : goal.returns
returns c =
    let (stack, stays) = c.scan-met.ensures.stands in
    let scanned = c.scan-met.ensures.scanned in
    let over = c.if-met-stand.false in
    let closed = rw (stays.top, stack) at c.close-left.ensures.closed in
    let backed = rw (c.close-left.ensures.stands.1.path, stays.path) at c.back.ensures in
    λ g a. stepped_of (step_back (step_of a) scanned over (shrunk (step_of a) scanned over closed) backed (omega (arith, stack)))
