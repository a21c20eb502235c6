use mathlib.Core.Path.{refl}
use native.Mathlib.Omega.{arith}
use Rattle.ranks.proofs.Settling.{settle_none, count_some, free_ask, settle_long, settle_end}
use Rattle.ranks.proofs.settle.Goals as goal

pub returns-in_default : goal.returns-in_default
returns-in_default c = λ g q. settle_none q c.in_default.ensures refl

pub overflow_sub-w : goal.overflow_sub-w
overflow_sub-w c =
    let (g, a) = c.requires in
    let (led, low) = c.in-Some.ensures in
    count_some a led (λ z. omega arith) c.raise.ensures

pub free-requires : goal.free-requires
free-requires c =
    let (g, a) = c.requires in
    let (led, low) = c.in-Some.ensures in
    free_ask a led (λ z. omega arith) c.raise.ensures

pub shape_of-w : goal.shape_of-w
shape_of-w c =
    let (g, a) = c.requires in
    let (led, low) = c.in-Some.ensures in
    settle_long a led (λ z. omega arith) c.raise.ensures c.free.ensures

pub returns : goal.returns
returns c =
    let (led, low) = c.in-Some.ensures in
    λ g q. settle_end q led (λ z. omega arith) c.raise.ensures c.free.ensures c.rise.ensures refl
