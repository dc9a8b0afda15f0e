-- `number_literals::float_literal` meets its contract: the exponent less the count of fraction digits, by its sign.
use mathlib.Core.Path.{sym, ap, ◌∙◌}
use native.Mathlib.Omega.{arith}
use Rattle.definition.specs.Literals.{float_numeral}
use Rattle.number_literals.proofs.Exponents.{down_less, up_less, past_less}
use Rattle.number_literals.proofs.Ranges.{low_beyond}
use Rattle.number_literals.proofs.float_literal.Goals as goal

pub returns-then-exp-gt-MIN_EXPONENT : goal.returns-then-exp-gt-MIN_EXPONENT
returns-then-exp-gt-MIN_EXPONENT c = sym (low_beyond c.args.negative c.args.n c.args.places c.args.exp c.args.low c.if-low.true (omega arith))

pub returns-then-p-gt-MIN_EXPONENT : goal.returns-then-p-gt-MIN_EXPONENT
returns-then-p-gt-MIN_EXPONENT c = sym (low_beyond c.args.negative c.args.n c.args.places c.args.exp c.args.low c.if-low.true (omega arith))

pub returns-then-low : goal.returns-then-low
returns-then-low c = rw c.if-low.true (c.scaled.ensures ∙ ap (float_numeral c.args.negative c.args.n) (sym (down_less c.args.exp c.args.places)))

pub returns-then-p-exp : goal.returns-then-p-exp
returns-then-p-exp c = rw c.if-low.false (c.scaled-then-p-exp.ensures ∙ ap (float_numeral c.args.negative c.args.n) (sym (up_less c.args.exp c.args.places c.if-p-exp.true)))

pub returns : goal.returns
returns c = rw c.if-low.false (c.scaled-2.ensures ∙ ap (float_numeral c.args.negative c.args.n) (sym (past_less c.args.exp c.args.places c.if-p-exp.false)))
