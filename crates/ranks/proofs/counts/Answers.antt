use mathlib.Core.Path.{◌∙◌}
use lib.ListN.{length-set}
use Rattle.index.proofs.Place.{byte_digit}
use Rattle.graph.proofs.Masks.{digit_low, kind_of}
use Rattle.ranks.proofs.Settling.{ground_kept}
use Rattle.ranks.proofs.Freeing.{led_or, tally_none, tally_ask, tally_fits, tally_step, tally_all}
use native.Mathlib.Omega.{arith}
use Rattle.ranks.proofs.counts.Goals as goal

pub loop-e-init : goal.loop-e-init
loop-e-init c =
    let a = c.requires in
    (ground_kept a.ground c.fill.ensures.framed.long, tally_none c.fill.ensures)

pub lead-requires : goal.lead-requires
lead-requires c = tally_ask c.loop-e.invariant.0 c.loop-e-test.true

pub counts-counts-requires : goal.counts-counts-requires
counts-counts-requires c = kind_of c.requires.kinded c.loop-e-test.true

pub overflow_add-w-in-loop-e-2 : goal.overflow_add-w-in-loop-e-2
overflow_add-w-in-loop-e-2 c =
    let (a, x) = c.loop-e.invariant in
    tally_fits a x (led_or _ _ _ _ _ _ _ c.lead.ensures c.unwrap_or-t.ensures) c.loop-e-test.true
    (omega (arith, c.from.ensures, byte_digit c.counts-counts.result, digit_low c.counts-counts.result))

pub loop-e-preserved : goal.loop-e-preserved
loop-e-preserved c =
    let (a, x) = c.loop-e.invariant in (
      search (ground_kept, length-set),
      tally_step a x (led_or _ _ _ _ _ _ _ c.lead.ensures c.unwrap_or-t.ensures) c.loop-e-test.true (rw c.counts-counts.ensures at (c.from.ensures ∙ byte_digit c.counts-counts.result)),
    )

pub returns : goal.returns
returns c = search tally_all
