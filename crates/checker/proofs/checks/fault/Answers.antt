use mathlib.Core.Path.{sym}
use Rattle.graph.specs.Checker.{check1, check2, fault}
use Rattle.checker.specs.Contract.{fault_of}
use Rattle.checker.proofs.Laws.{rank_ask, turned_tells}
use Rattle.checker.proofs.checks.fault.Goals as goal

pub returns-then-not-labelled : goal.returns-then-not-labelled
unfolding fault_of fault check1
returns-then-not-labelled c = rw (sym c.if-not-labelled.ensures)

pub ranked-requires : goal.ranked-requires
ranked-requires c = rank_ask c.requires c.if-not-labelled.ensures

pub returns-then-not-ranked : goal.returns-then-not-ranked
unfolding fault_of fault check1 check2
returns-then-not-ranked c = rw (sym c.if-not-labelled.ensures, sym c.if-not-ranked.ensures)

pub returns-then-not-entered : goal.returns-then-not-entered
unfolding fault_of fault check1 check2
returns-then-not-entered c = rw (sym c.if-not-labelled.ensures, sym c.if-not-ranked.ensures, sym c.if-not-entered.ensures)

pub returns-then-not-entered-2 : goal.returns-then-not-entered-2
unfolding fault_of fault check1 check2
returns-then-not-entered-2 c =
    rw (
      sym c.if-not-labelled.ensures,
      sym c.if-not-ranked.ensures,
      sym c.if-not-entered.ensures,
      sym (turned_tells _ _ _ _ c.requires.ready.valid c.turned-turned.ensures c.if-not-entered-2.ensures),
    )

pub returns : goal.returns
unfolding fault_of fault check1 check2
returns c =
    rw (
      sym c.if-not-labelled.ensures,
      sym c.if-not-ranked.ensures,
      sym c.if-not-entered.ensures,
      sym (turned_tells _ _ _ _ c.requires.ready.valid c.turned-turned.ensures c.if-not-entered-2.ensures),
    )
