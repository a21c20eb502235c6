use Rattle.std.proofs.Common.{refl, sym, ◌∙◌, inl, inr, arith}
use Rattle.std.proofs.lemmas.Bool.{eqb-true, eqb-false}
use Rattle.graph.specs.Sets.{bit}
use Rattle.sets.proofs.Store.{bit_lt}
use Rattle.sweep.proofs.set.strike.Goals as goal

pub returns-then-has : goal.returns-then-has
returns-then-has c =
    let e = eqb-true (bit c.args.words.now c.args.v) 1 (sym c.has.ensures ∙ c.if-has.true) in
    inr (e, c.remove.ensures, omega (arith, c.requires.some e))

pub returns : goal.returns
returns c = inl (omega (arith, bit_lt c.args.words.now c.args.v, eqb-false (bit c.args.words.now c.args.v) 1 (sym c.has.ensures ∙ c.if-has.false)), refl, refl)
