use Rattle.std.proofs.Common.{rules, tests, ◌∙◌}
use Rattle.std.proofs.lemmas.Iterator.{YieldsList-from_slice, YieldsList-from_map}
use Rattle.std.proofs.lemmas.Iterator.Consumers.{sum_by_from_yields_List}
use lib.Count.{ones}
use Rattle.sets.proofs.Sizes.{words_tally}
use Rattle.sets.proofs.size.Goals as goal

pub returns : goal.returns
returns c =
    sum_by_from_yields_List ones c.args.w.now c.map.result _ c.sum.ensures.ran (YieldsList-from_map _ ones (YieldsList-from_slice c.args.w.now cc) c.map.ensures.closure (λ x r q k. search (rules, tests)))
    ∙ words_tally c.args.w.now (λ i. (c.type_inv.w i).fits)
