-- `number_order::compare_i64` meets its contract: what `cmp` answers is the order of the two numbers.
use mathlib.Core.Path.{sym, ap, ◌∙◌}
use mir.Syntax.{w64}
use mir.ValLaws.{to_z-of_z}
use Rattle.number_order.specs.Exact.{answer}
use Rattle.number_order.proofs.Orders.{cmp_order}
use Rattle.number_order.proofs.Signs.{whole_order}
use Rattle.number_order.proofs.compare_i64.Goals as goal

pub returns : goal.returns
returns c = rw (to_z-of_z w64 c.args.a c.ranges.a, to_z-of_z w64 c.args.b c.ranges.b) at c.cmp.ensures ∙ cmp_order c.args.a c.args.b ∙ sym (ap answer (whole_order c.args.a c.args.b))
