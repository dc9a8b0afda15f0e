-- `regex_total::one` meets its contract.
use Rattle.regex_total.proofs.Steps.{one_none, one_long, one_hit}
use borrow.Author.Tests.{ne_eqb}
use native.Mathlib.Omega.{arith}
use Rattle.regex_total.proofs.one.Goals as goal

pub returns-then-from-to : goal.returns-then-from-to
returns-then-from-to c = one_none _ _ _ _ c.requires.fact_1 _ c.requires.fact_2 c.requires.fact_3 c.if-from-to.true

pub char_at-c-requires : goal.char_at-c-requires
char_at-c-requires c = record { fact_1 = omega (arith, c.requires.fact_1.order, c.if-from-to.false); fact_2 = c.requires.fact_1.end }

pub returns-else-c-to : goal.returns-else-c-to
returns-else-c-to c = rw (ne_eqb _ _ c.if-c-to.false) (one_long _ _ _ _ c.requires.fact_1 _ c.requires.fact_2 c.requires.fact_3 c.char_at-c.ensures c.if-c-to.false)

pub class_has-requires : goal.class_has-requires
class_has-requires c = c.requires.fact_2

pub returns-then-c-to : goal.returns-then-c-to
returns-then-c-to c = one_hit _ _ _ _ c.requires.fact_1 _ c.requires.fact_2 c.requires.fact_3 c.char_at-c.ensures c.if-from-to.false c.if-c-to.true c.class_has.ensures
