use mathlib.Core.Path.{refl, sym}
use mathlib.Core.Logic.{inl, inr}
use native.Mathlib.Omega.{arith}
use Rattle.memory.specs.Decomposer.{col}
use Rattle.paths.specs.Walk.{EveryFrom, base, WalkAsk, SettleAsk}
use Rattle.paths.proofs.Walks.{far_none, near_is}
use Rattle.paths.proofs.walk.settle.Goals as goal

pub returns-then-table-d : goal.returns-then-table-d
returns-then-table-d c = λ a u q. record { room_same = refl; why = inl (refl, far_none q c.if-table-d.true) }

pub returns-then-room-d : goal.returns-then-room-d
returns-then-room-d c =
    λ a u q. let e = near_is q c.if-table-d.false in
    record { room_same = refl; why = inr (refl, omega (arith, e, c.if-table-d.false), omega (arith, e, c.if-room-d.true)) }

pub back-requires : goal.back-requires
back-requires c =
    let ask : (EveryFrom c.args.table.now.n c.args.table.now.sources.now (λ g u. SettleAsk g u c.args.v c.args.w.now → WalkAsk g u c.args.v (col (base g) c.args.w.now c.args.v) c.args.w.now c.args.room.now)) = λ a u q. record { known = q.known; vertex = q.vertex; is = near_is q c.if-table-d.false; low = c.if-table-d.false; fits = c.if-room-d.false } in
    let s = c.requires in (s.0, s.1, ask s.0 s.1 s.2)

pub returns : goal.returns
returns c =
    let ask : (EveryFrom c.args.table.now.n c.args.table.now.sources.now (λ g u. SettleAsk g u c.args.v c.args.w.now → WalkAsk g u c.args.v (col (base g) c.args.w.now c.args.v) c.args.w.now c.args.room.now)) = λ a u q. record { known = q.known; vertex = q.vertex; is = near_is q c.if-table-d.false; low = c.if-table-d.false; fits = c.if-room-d.false } in
    λ g u q. let a = ask g u q in record { is = sym a.is; low = a.low; fits = a.fits; walked = c.back.ensures g u a }
