use mathlib.Core.Path.{◌≡◌, sym}
use mathlib.Core.Bool.{true, false}
use lib.ListN.{get_or}
use Rattle.graph.specs.Graph.{in_mask}
use borrow.Author.Tests.{eq-eqb, ne_eqb, lt-ltb, le-ltb}
use Rattle.graph.specs.Checker.{entry}
use Rattle.checker.proofs.checks.entry.Goals as goal

pub returns-then-table-e : goal.returns-then-table-e
unfolding entry
returns-then-table-e c = search (lt-ltb, le-ltb, eq-eqb, ne_eqb)

pub returns-then-not-counts : goal.returns-then-not-counts
unfolding entry
returns-then-not-counts c = let counts : in_mask c.args.table.now.mask (get_or c.args.table.now.kinds.now c.args.e 0) ≡ false = sym (c.if-not-counts.ensures) in
    search (counts, lt-ltb, le-ltb, eq-eqb, ne_eqb)

pub returns-then-table-e-2 : goal.returns-then-table-e-2
unfolding entry
returns-then-table-e-2 c = let counts : in_mask c.args.table.now.mask (get_or c.args.table.now.kinds.now c.args.e 0) ≡ true = sym (c.if-not-counts.ensures) in
    search (counts, lt-ltb, le-ltb, eq-eqb, ne_eqb)

pub returns-then-label-u : goal.returns-then-label-u
unfolding entry
returns-then-label-u c = let counts : in_mask c.args.table.now.mask (get_or c.args.table.now.kinds.now c.args.e 0) ≡ true = sym (c.if-not-counts.ensures) in
    search (counts, lt-ltb, le-ltb, eq-eqb, ne_eqb)

pub returns-then-d-table : goal.returns-then-d-table
unfolding entry
returns-then-d-table c = let counts : in_mask c.args.table.now.mask (get_or c.args.table.now.kinds.now c.args.e 0) ≡ true = sym (c.if-not-counts.ensures) in
    search (counts, lt-ltb, le-ltb, eq-eqb, ne_eqb)

pub returns-else-d-table : goal.returns-else-d-table
unfolding entry
returns-else-d-table c = let counts : in_mask c.args.table.now.mask (get_or c.args.table.now.kinds.now c.args.e 0) ≡ true = sym (c.if-not-counts.ensures) in
    search (counts, lt-ltb, le-ltb, eq-eqb, ne_eqb)
