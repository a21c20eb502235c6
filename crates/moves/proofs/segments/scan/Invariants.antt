use Rattle.moves.specs.Moves.{Scanned}
use Rattle.moves.proofs.segments.scan.Given as goal

-- all before the cursor is passed, as by a scan up to it
abbrev pub invariant-loop-cursor : goal.invariant-loop-cursor
invariant-loop-cursor l = Scanned l.n l.fn.at.base l.stand.cursor l.cursor l.stand.fronts l.label l.w l.cursor l.fronts
