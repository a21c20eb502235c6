use mathlib.Core.Path.{◌≡◌}
use lib.ListN.{length}
use Rattle.ranks.specs.Peel.{EveryInto, ScanAsk, Scanned}
use Rattle.ranks.proofs.scan.Given as goal

abbrev pub invariant-loop-j : goal.invariant-loop-j
invariant-loop-j l =
    (length l.w ≡ length l.initial.w)
    × EveryInto l.at.n l.targets (λ g. (a : ScanAsk g l.label l.at.base l.u l.k0 l.initial.w) → Scanned g l.label l.at.base l.u l.j l.k0 l.initial.w l.w l.k a.course)
