use mathlib.Core.Path.{◌≡◌}
use Prim.Native.Nat.{◌≤◌, ◌<◌, ◌-◌}
use Rattle.parts.specs.Share.{ShareAsk, Sharing}
use Rattle.parts.proofs.share.share.Given as goal

abbrev pub invariant-loop-i : goal.invariant-loop-i
invariant-loop-i l = (l.i ≤ l.at.n) × ((a : ShareAsk l.at.n l.at.base l.first l.end l.h l.initial.w) → l.i < l.at.n → a.past l.i ≡ a.past l.h) × Sharing l.at.n l.at.base l.first l.end l.initial.w l.i l.w l.k

abbrev pub decreases-loop-i : goal.decreases-loop-i
decreases-loop-i l = l.at.n - l.i
