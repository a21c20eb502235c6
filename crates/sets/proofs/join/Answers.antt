use lib.Bits.{bit_or, or_zero_l}
use Prim.Native.Nat.{max}
use Rattle.std.proofs.Common.{rules}
use Rattle.sets.proofs.Zip.{zip_all}
use Rattle.sets.proofs.Digits.{or_at}
use Rattle.sets.proofs.join.Goals as goal

pub returns : goal.returns
returns c = zip_all bit_or max (or_zero_l 0) or_at c.requires c.combine.ensures.long (λ i h. let p = c.combine.ensures.each i h in search rules)
