use lib.Bits.{bit_and, and_zero_l}
use Prim.Native.Nat.{min}
use Rattle.std.proofs.Common.{rules}
use Rattle.sets.proofs.Zip.{zip_all}
use Rattle.sets.proofs.Digits.{and_at}
use Rattle.sets.proofs.meet.Goals as goal

pub returns : goal.returns
returns c = zip_all bit_and min (and_zero_l 0) and_at c.requires c.combine.ensures.long (λ i h. let p = c.combine.ensures.each i h in search rules)
