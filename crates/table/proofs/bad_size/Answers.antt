-- The four tests in their order.
use borrow.Author.Tests.{eq-eqb, ne_eqb, lt-ltb, le-ltb}
use Rattle.definition.specs.Tables.{bad_size}
use Rattle.table.proofs.bad_size.Goals as goal

pub returns-then-table-eq0 : goal.returns-then-table-eq0
unfolding bad_size
returns-then-table-eq0 c = rw (eq-eqb _ _ c.if-table-eq0.true)

pub returns-then-table-ne0 : goal.returns-then-table-ne0
unfolding bad_size
returns-then-table-ne0 c = rw (ne_eqb _ _ c.if-table-eq0.false, ne_eqb _ _ c.if-table-ne0.true)

pub returns-then-table-gt-MAX_NODES : goal.returns-then-table-gt-MAX_NODES
unfolding bad_size
returns-then-table-gt-MAX_NODES c = rw (ne_eqb _ _ c.if-table-eq0.false, eq-eqb _ _ c.if-table-ne0.false, lt-ltb _ _ c.if-table-gt-MAX_NODES.true)

pub returns : goal.returns
unfolding bad_size
returns c = rw (ne_eqb _ _ c.if-table-eq0.false, eq-eqb _ _ c.if-table-ne0.false, le-ltb _ _ c.if-table-gt-MAX_NODES.false)
