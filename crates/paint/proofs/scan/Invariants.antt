use Prim.Native.Nat.{◌+◌}
use Rattle.paint.specs.Colours.{paint_of}
use Rattle.paint.specs.Paint.{ScanAsk, Scanned}
use Rattle.paint.proofs.scan.Given as goal

abbrev pub invariant-loop-i : goal.invariant-loop-i
invariant-loop-i l =
    ScanAsk (paint_of l.map) l.along.n (l.along.index + l.along.n + 1) l.along.base l.s l.t l.initial.w l.k0
    × Scanned (paint_of l.map) l.along.n (l.along.index + l.along.n + 1) l.along.base l.s l.i l.initial.w l.k0 l.w l.k
