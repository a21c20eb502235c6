use native.Mathlib.Omega.{arith}
use Rattle.machine.specs.Machine.{ClearAsk, divides}
use Rattle.machine.proofs.Cutting.{taken_part, older_low}
use Rattle.machine.proofs.Machine.take.Goals as goal

pub aimed-requires : goal.aimed-requires
aimed-requires c =
    let a = c.requires.1.ask in
    let k : ClearAsk c.args.at.n c.args.self = record { small = a.small; oldest = a.oldest; count = a.count; cleared = a.cleared } in
    record { oldest = omega (arith, c.older.ensures, older_low c.args.at.n c.args.self k, a.small); count = omega (arith, a.count, a.small) }

pub returns : goal.returns
returns c = rw (c.aimed.ensures, c.older.ensures) (λ g q. divides q.cleared q.given (c.cut-r.ensures g (taken_part q)))
