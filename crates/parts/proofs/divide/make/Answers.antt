use Rattle.std.proofs.Common.{inl, inr}
use Rattle.sweep.proofs.Methods.{is_slice, is_split}
use Rattle.parts.proofs.divide.make.Goals as goal

pub returns-in-Split : goal.returns-in-Split
returns-in-Split c = λ e a. inl (is_split c.args.method c.in-Split.is, (c.prune.result, c.prune.ensures e a.trim))

pub returns-in-Slice : goal.returns-in-Slice
returns-in-Slice c = λ e a. inr (is_slice c.args.method c.in-Slice.is, c.prepare.ensures)
