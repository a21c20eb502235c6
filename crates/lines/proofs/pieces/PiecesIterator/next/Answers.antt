use Rattle.std.proofs.Common.{rules, ◌∙◌, sym, refl}
use Rattle.lines.proofs.Split.{cut_none, cut_known, piece_less}
use Rattle.lines.proofs.pieces.PiecesIterator.next.Goals as goal

pub returns-then-is_empty-clause-steps : goal.returns-then-is_empty-clause-steps
returns-then-is_empty-clause-steps c = let e = cut_none c.args.self.now.stop c.args.self.now.rest.now (sym c.is_empty.ensures ∙ c.if-is_empty.true) in ((e, e), refl)

pub returns-clause-steps : goal.returns-clause-steps
returns-clause-steps c = ((cut_known _ _ _ _ (sym c.is_empty.ensures ∙ c.if-is_empty.false) c.cut.ensures).0, refl)

pub returns-clause-goes : goal.returns-clause-goes
returns-clause-goes c =
    let e = piece_less _ _ _ _ (cut_known _ _ _ _ (sym c.is_empty.ensures ∙ c.if-is_empty.false) c.cut.ensures).0 in
    search (rules, e)
