use Prim.Native.Nat.{ℕ}
use mathlib.Core.Path.{◌≡◌, subst}
use native.Mathlib.Omega.{arith}
use Rattle.graph.specs.Arrows.{on}
use Rattle.paths.specs.Walk.{sourced}
use Rattle.paths.proofs.Walks.{Walking, back_order, back_fits, back_ask, back_place, back_edge, back_step, walk_all}
use Rattle.paths.proofs.walk.back.Goals as goal

pub slice_bounds-edges-count : goal.slice_bounds-edges-count
slice_bounds-edges-count c = let (a, u, q) = c.requires in back_order q c.loop-d-test.true (c.loop-d.invariant a u q)

pub slice_bounds-edges-start : goal.slice_bounds-edges-start
slice_bounds-edges-start c = let (a, u, q) = c.requires in back_order q c.loop-d-test.true (c.loop-d.invariant a u q)

pub slice_bounds-edges-end : goal.slice_bounds-edges-end
slice_bounds-edges-end c = let (a, u, q) = c.requires in back_fits q c.loop-d-test.true (c.loop-d.invariant a u q)

pub first-requires : goal.first-requires
first-requires c = let (a, u, q) = c.requires in back_ask q c.loop-d-test.true (c.loop-d.invariant a u q)

pub bounds-edges-first : goal.bounds-edges-first
bounds-edges-first c = let (a, u, q) = c.requires in back_place q c.loop-d-test.true (c.loop-d.invariant a u q) c.first.ensures

pub bounds-sources-e : goal.bounds-sources-e
bounds-sources-e c = let (a, u, q) = c.requires in back_edge q c.loop-d-test.true (c.loop-d.invariant a u q) c.first.ensures

pub loop-d-preserved : goal.loop-d-preserved
loop-d-preserved c = λ a u q. back_step q c.loop-d-test.true (c.loop-d.invariant a u q) c.first.ensures

pub returns : goal.returns
returns c =
    let l = c.loop-d in
    let e : l.d ≡ 0 = omega arith in
    λ a u q. walk_all q (subst (λ (y : ℕ). Walking (on c.args.table.now.n (sourced c.args.table.now.sources.now a)) u c.args.v c.args.d0 c.args.room.now l.x y l.room) e (l.invariant a u q))
