-- A column that is not refused, and the answer for it.
use Prim.Native.Nat.{ℕ, ◌≤◌}
use native.Mathlib.Nat.{suc-ne-zero}
use native.Mathlib.Omega.{arith}
use mathlib.Core.Path.{◌≡◌, sym, ◌∙◌}
use mathlib.Core.List.{List}
use lib.ListN.{length, get_or}
use lib.Dec.{eqb}
use borrow.Author.Tests.{ltb-false, eqb-true, not-false}
use Rattle.graph.specs.Limits.{most_vertices}
use Rattle.graph.specs.Numbers.{many}
use Rattle.graph.specs.Summary.{sharing, summary}
use Rattle.graph.proofs.Refusals.{or_none, given_none}
use Rattle.std.proofs.Common.{Result, Ok, ap}
use Rattle.graph.specs.Reasons.{said}
use Rattle.graph.specs.declared.refusal.Refusal.{Refusal}
use Rattle.summary.specs.declared.blocks.Totals.{Totals}
use Rattle.summary.specs.Promise.{summary_refusal, Promise}
use Rattle.summary.specs.Counts.{Folded}

module _ (n : ℕ) (label : List ℕ) (x : Result (Unit {0}) Refusal) (told : said x ≡ summary_refusal (record { n = n; label = label })) where
  module _ (right : x ≡ Ok tt) where
    none : summary_refusal (record { n = n; label = label }) ≡ 0
    none = sym told ∙ ap said right

    passed : (n ≤ most_vertices) × (length label ≡ n)
    unfolding summary_refusal
    passed =
        let (e1, r1) = or_none _ _ none in
        let (e5, e9) = or_none _ _ r1 in
        (ltb-false most_vertices n (given_none 1 _ (suc-ne-zero 0) e1), eqb-true _ _ (not-false _ (given_none 5 _ (suc-ne-zero 4) e5)))

    pub column_small : length label ≤ most_vertices
    column_small = omega (arith, passed)

    -- own labels and the totals of all blocks are the summary
    pub summed : (own : ℕ) (t : Totals) → own ≡ many (λ v. eqb (get_or label v 0) v) (length label) → Folded (sharing label) (length label) t
        → Promise (record { n = n; label = label }) (Ok (record { own = own; rings = t.rings; largest = t.largest }))
    unfolding summary
    summed own t o f = record { refusal = sym none; gives = rw (← passed.1, o, f.rings_are, f.largest_is) }
