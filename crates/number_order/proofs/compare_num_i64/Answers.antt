-- `number_order::compare_num_i64` meets its contract: it is the other order reversed.
use mathlib.Core.Path.{ap, ◌∙◌}
use lib.IntN.{ℤ}
use mir.Syntax.{w64}
use mir.ValLaws.{to_z-of_z}
use Rattle.std.specs.Ordering.{ordering_reverse}
use Rattle.number_order.specs.Exact.{answer, of_integer, of_float, order_of}
use Rattle.number_order.proofs.Orders.{reversed_order}
use Rattle.number_order.proofs.compare_num_i64.Goals as goal

pub returns : goal.returns
returns c =
    c.reverse.ensures
    ∙ ap ordering_reverse c.compare_i64_num.ensures
    ∙ ap (λ (z : ℤ). ordering_reverse (answer (order_of (of_integer z) (of_float c.args.a)))) (to_z-of_z w64 c.args.b c.ranges.b)
    ∙ reversed_order (of_integer c.args.b) (of_float c.args.a)
