use native.Mathlib.Omega.{arith}
use Prim.Native.Nat.{◌+◌}
use Rattle.graph.specs.Graph.{rev}
use Rattle.graph.specs.Arrows.{on, sized}
use Rattle.prune.proofs.Walks.{advance_ask}
use Rattle.slices.specs.Peel.{into}
use Rattle.slices.proofs.Settling.{settle_other, settle_stay, peel_next, settle_go}
use Rattle.slices.proofs.peel.settle.Goals as goal
use Rattle.slices.proofs.peel.settle.Goals.{then-w-at-via-then-w-at, then-w-at-via-else-w-at+then-advance}

pub advance-requires : goal.advance-requires
advance-requires c =
    let at = c.args.at in
    let g = on at.n (sized at.m c.requires.0) in
    let z = c.requires.1.standing in
    rw (c.backward.ensures, c.entering.ensures) (advance_ask (rev g) (at.n + 1 + at.m) (into g at.base) at.base c.args.r c.args.w.now z.side (omega arith) (omega (arith, z.long)) c.args.v c.requires.1.low c.if-w-at.false)

pub returns-then-w-at : goal.returns-then-w-at
returns-then-w-at c =
    λ g a. elim c.then-w-at.branch [
      | then-w-at-via-then-w-at w ↦ rw w.w-is (settle_other a w.if-w-at.true)
      | then-w-at-via-else-w-at+then-advance w ↦ rw w.w-is (settle_stay a w.if-w-at.false (rw (w.backward.ensures, w.entering.ensures) at w.advance.ensures) w.if-advance.true)
    ]

pub mark_next-requires : goal.mark_next-requires
mark_next-requires c =
    let y = rw (c.backward.ensures, c.entering.ensures) at c.advance.ensures in
    (sized c.args.at.m c.requires.0, peel_next c.requires.1 c.if-w-at.false y c.if-advance.false)

pub returns : goal.returns
returns c =
    let y = rw (c.backward.ensures, c.entering.ensures) at c.advance.ensures in
    λ g a. settle_go a c.if-w-at.false y c.if-advance.false (c.mark_next.ensures (sized c.args.at.m g) (peel_next a c.if-w-at.false y c.if-advance.false))
