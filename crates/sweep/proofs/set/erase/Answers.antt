use Rattle.std.proofs.Common.{ℕ, ◌≡◌, ◌+◌, ◌-◌, ◌<◌, List, get_or, take, drop, ◌∙◌, arith}
use lib.Seq.{get_or-take, get_or-drop}
use Rattle.sweep.proofs.Marking.{strike_ask, erase_step}
use Rattle.sweep.proofs.set.erase.Goals as goal

-- what stands at place i of the k that begin at a
at_place : (w : List ℕ) (a k i : ℕ) → i < k → get_or (take (a + k - a) (drop a w)) i 0 ≡ get_or w (a + i) 0
at_place w a k i h = get_or-take (a + k - a) (drop a w) i 0 (omega arith) ∙ get_or-drop a w i 0

pub strike-left-requires : goal.strike-left-requires
strike-left-requires c =
    let l : c.loop-v.v-index < c.args.k = omega arith in
    let e = at_place c.args.w.now (c.args.along.base + c.args.along.n) c.args.k c.loop-v.v-index l in
    rw e (strike_ask c.requires l c.loop-v.invariant)

pub loop-v-preserved : goal.loop-v-preserved
loop-v-preserved c =
    let l : c.loop-v.v-index < c.args.k = omega arith in
    let e = at_place c.args.w.now (c.args.along.base + c.args.along.n) c.args.k c.loop-v.v-index l in
    erase_step c.requires l c.loop-v.invariant (rw e at c.strike-left.ensures)
