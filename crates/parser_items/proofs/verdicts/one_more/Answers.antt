-- `parser_items::verdicts::one_more` meets its contract: the number of arguments so far decides.
--
use native.Mathlib.Omega.{arith}
use borrow.Author.Tests.{ne_eqb, le-leb, lt-leb}
use Rattle.parser_items.proofs.verdicts.one_more.Goals as goal

pub returns-then-sorts-eq0 : goal.returns-then-sorts-eq0
returns-then-sorts-eq0 c = (rw c.if-sorts-eq0.true, omega arith)

pub returns-then-sorts-le5 : goal.returns-then-sorts-le5
returns-then-sorts-le5 c = (rw (ne_eqb c.args.sorts 0 c.if-sorts-eq0.false, le-leb c.args.sorts 5 c.if-sorts-le5.true), omega arith)

pub returns : goal.returns
returns c = (rw (ne_eqb c.args.sorts 0 c.if-sorts-eq0.false, lt-leb c.args.sorts 5 c.if-sorts-le5.false), omega arith)
