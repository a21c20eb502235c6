use Prim.Native.Nat.{ℕ}
use mathlib.Core.Path.{◌∙◌}
use mathlib.Core.Bool.{not}
use mathlib.Core.List.{List, [], ◌∷◌}
use lib.ListN.{length}
use lib.Dec.{eqb}
use denote.Ref.{Bor}
use Rattle.std.proofs.Common.{rules, tests}
use Rattle.std.proofs.lemmas.Iterator.{YieldsList-from_slice}
use Rattle.std.proofs.lemmas.Iterator.Search.{any_from_yields_List}
use Rattle.checker.specs.Contract.{columns_of}
use Rattle.checker.proofs.Laws.{any_wrong}
use Rattle.checker.proofs.Columns.wrong_size.Goals as goal

pub returns : goal.returns
returns c =
    let k = c.args.self.now in
    any_from_yields_List (λ (x : Bor (List ℕ)). not (eqb (length x.now) c.args.n)) _ _ c.any.result c.any.ensures.ran
    (YieldsList-from_slice (k.label ∷ k.rank ∷ k.in_edge ∷ k.in_distance ∷ k.out_edge ∷ k.out_distance ∷ []) cc)
    (λ x b q k. search (rules, tests))
    ∙ any_wrong c.args.n (columns_of k)
