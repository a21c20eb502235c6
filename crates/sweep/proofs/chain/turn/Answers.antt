use Rattle.std.proofs.Common.{refl, inl, inr}
use Rattle.sweep.proofs.chain.turn.Goals as goal

pub returns-then-w-at : goal.returns-then-w-at
returns-then-w-at c = λ e a. inr (rw c.order.ensures at c.if-w-at.true, refl, refl)

pub take-requires : goal.take-requires
take-requires c =
    let a = c.requires.1 in
    let l = rw c.order.ensures at c.if-w-at.false in
    rw c.order.ensures (c.requires.0, record { ready = a.ready; start = a.ready.stage.placed.low c.args.i a.low; live = l })

pub returns : goal.returns
returns c =
    let l = rw c.order.ensures at c.if-w-at.false in
    let t = rw c.order.ensures at c.take.ensures in
    λ e a. inl (l, t e (record { ready = a.ready; start = a.ready.stage.placed.low c.args.i a.low; live = l }))
