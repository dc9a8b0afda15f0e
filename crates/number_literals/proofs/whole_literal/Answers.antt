-- `number_literals::whole_literal` meets its contract: an i64 holds a magnitude up to 2^63 with a minus, and below it without.
use mathlib.Core.Path.{sym, ap, ◌∙◌}
use native.Mathlib.Omega.{arith}
use mir.Syntax.{w64}
use mir.ValLaws.{to_z-of_z}
use Rattle.definition.specs.Literals.{integer}
use Rattle.number_literals.proofs.Ranges.{whole_minus, whole_plus, whole_least, whole_past, minus_fits, plus_fits}
use Rattle.number_literals.proofs.whole_literal.Goals as goal

pub returns-then-n-gt-LEAST_INT : goal.returns-then-n-gt-LEAST_INT
returns-then-n-gt-LEAST_INT c = c.scaled.ensures ∙ sym (whole_past c.args.negative c.args.n c.if-n-gt-LEAST_INT.true)

pub signed-requires : goal.signed-requires
signed-requires c = minus_fits _ c.if-n-gt-LEAST_INT.false

pub returns-then-negative : goal.returns-then-negative
returns-then-negative c = rw c.if-negative.true (ap integer (to_z-of_z w64 c.signed.result (record { sfits = c.signed.type_inv }) ∙ c.signed.ensures) ∙ sym (whole_minus c.args.n c.if-n-gt-LEAST_INT.false))

pub returns-then-n-eq-LEAST_INT : goal.returns-then-n-eq-LEAST_INT
returns-then-n-eq-LEAST_INT c = rw c.if-negative.false (c.scaled-then-n-eq-LEAST_INT.ensures ∙ sym (whole_least c.args.n (omega arith)))

pub signed-requires-2 : goal.signed-requires-2
signed-requires-2 c = plus_fits c.args.n (omega arith)

pub returns : goal.returns
returns c = rw c.if-negative.false (ap integer (to_z-of_z w64 c.signed-2.result (record { sfits = c.signed-2.type_inv }) ∙ c.signed-2.ensures) ∙ sym (whole_plus c.args.n (omega arith)))
