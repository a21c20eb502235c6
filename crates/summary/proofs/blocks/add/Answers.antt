use native.Mathlib.Omega.{arith}
use Prim.Native.Nat.{◌-◌}
use Rattle.summary.proofs.Counting.{added_none, added_one}
use Rattle.summary.proofs.blocks.add.Goals as goal

pub returns-then-l-low : goal.returns-then-l-low
returns-then-l-low c = added_none _ _ _ (λ j h e. omega arith)

pub returns-then-counts-j : goal.returns-then-counts-j
returns-then-counts-j c = added_none _ _ _ (λ j h e. omega arith)

pub overflow_add-counts : goal.overflow_add-counts
overflow_add-counts c = omega (arith, c.requires (c.args.l - c.args.low) c.if-counts-j.false)

pub returns : goal.returns
returns c = search added_one
