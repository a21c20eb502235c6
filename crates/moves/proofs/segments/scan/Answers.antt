use native.Mathlib.Omega.{arith}
use mathlib.Core.Path.{refl}
use Rattle.moves.proofs.Scanning.{scan_none, bound_ask, scan_step, scan_end}
use Rattle.moves.proofs.segments.scan.Goals as goal

pub loop-cursor-init : goal.loop-cursor-init
loop-cursor-init c = scan_none c.requires

pub bound-fronts-requires : goal.bound-fronts-requires
bound-fronts-requires c = bound_ask c.requires c.loop-cursor.invariant c.if-y-n.false

pub loop-cursor-preserved : goal.loop-cursor-preserved
loop-cursor-preserved c = scan_step c.loop-cursor.invariant c.requires c.bound-fronts.ensures

pub returns-then-y-n : goal.returns-then-y-n
returns-then-y-n c = record { stands = (refl, record { path = refl; top = refl; end = refl }); scanned = scan_end c.loop-cursor.invariant (omega arith) (λ _. c.if-y-n.true) }
