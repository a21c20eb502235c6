use mathlib.Core.Path.{refl, sym}
use mathlib.Core.Logic.{inl, inr}
use borrow.Author.Tests.{eq-eqb, ne_eqb}
use Rattle.certificate.specs.Entries.{fits}
use Rattle.certificate.proofs.entries.offer.Goals as goal

pub returns-then-not-counts : goal.returns-then-not-counts
unfolding fits
returns-then-not-counts c = inr (rw (sym c.if-not-counts.ensures), refl)

pub returns-then-label-u : goal.returns-then-label-u
unfolding fits
returns-then-label-u c = inr (rw (sym c.if-not-counts.ensures, eq-eqb _ _ refl, ne_eqb _ _ c.if-label-u.true), refl)

pub returns-then-w-d : goal.returns-then-w-d
unfolding fits
returns-then-w-d c = inr (rw (sym c.if-not-counts.ensures, eq-eqb _ _ refl, eq-eqb _ _ c.if-label-u.false, ne_eqb _ _ c.if-w-d.true), refl)

pub returns : goal.returns
unfolding fits
returns c = inl (rw (sym c.if-not-counts.ensures, eq-eqb _ _ refl, eq-eqb _ _ c.if-label-u.false, eq-eqb _ _ c.if-w-d.false), refl)
