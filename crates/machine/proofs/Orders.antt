-- Orders and their numbers.
use Rattle.std.proofs.Common.{ℕ, ◌≡◌, ◌≤◌, Result, Ok, Err, refl, sym, ap, ◌∙◌, arith}
use Rattle.graph.specs.declared.refusal.Refusal.{Refusal}
use Rattle.machine.specs.declared.Order.{Order}
use Rattle.machine.specs.declared.Order.TheVariants.{Newest, Oldest}
use Rattle.machine.specs.Orders.{order_of, Reads}

pub order_low : (o : Order) → order_of o ≤ 1
order_low Newest = omega arith
order_low Oldest = omega arith

-- no two orders have one number
pub order_one : (o p : Order) → order_of o ≡ order_of p → o ≡ p
order_one Newest Newest e = refl
order_one Newest Oldest e = absurd (omega (arith, e))
order_one Oldest Newest e = absurd (omega (arith, e))
order_one Oldest Oldest e = refl

-- a number is read one way only
pub reads_one : (k : ℕ) (r s : Result Order Refusal) → Reads k r → Reads k s → r ≡ s
reads_one k (Ok o) (Ok p) x y = ap (λ (z : Order). Ok z) (order_one o p (x ∙ sym y))
reads_one k (Ok o) (Err e) x y = absurd (omega (arith, order_low o, x, y.1))
reads_one k (Err e) (Ok p) x y = absurd (omega (arith, order_low p, y, x.1))
reads_one k (Err e) (Err f) x y = ap (λ (z : Refusal). Err z) (x.0 ∙ sym y.0)
