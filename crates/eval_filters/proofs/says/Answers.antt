-- `says` meets its contract, order by order.
use Rattle.eval_filters.specs.Numbers.{says_of, says_yes, says_no}
use mathlib.Core.Path.{sym, ap, ◌∙◌}
use Rattle.eval_filters.proofs.says.Goals as goal

pub returns-then-op-eq-EQ : goal.returns-then-op-eq-EQ
returns-then-op-eq-EQ c = says_yes _ c.if-op-eq-EQ.true ∙ ap (says_of c.args.op) (sym c.in-Equal.is)

pub returns-in-Less : goal.returns-in-Less
returns-in-Less c = ap (says_of c.args.op) (sym c.in-Less.is)

pub returns-else-op-eq-EQ : goal.returns-else-op-eq-EQ
returns-else-op-eq-EQ c = says_no _ c.if-op-eq-EQ.false ∙ ap (says_of c.args.op) (sym c.in-Equal.is)

pub returns-in-Greater : goal.returns-in-Greater
returns-in-Greater c = ap (says_of c.args.op) (sym c.in-Greater.is)
