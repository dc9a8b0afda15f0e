-- `number_order::compare_nums` meets its contract: `<` of two finite floats is that of their cross products.
use mathlib.Core.Path.{sym, ap, ◌∙◌}
use lib.IntN.{ℤ, pos, ◌*ℤ◌}
use lib.Ieee.{Float}
use Rattle.number_order.specs.Exact.{answer, of_float}
use Rattle.number_order.proofs.Orders.{less_order, greater_order, equal_order}
use Rattle.number_order.proofs.Patterns.{lt_is}
use Rattle.number_order.proofs.compare_nums.Goals as goal

-- the cross product of a number with another
over : Float → Float → ℤ
over x y = (of_float x).num *ℤ pos (of_float y).den

pub returns-then-a-b : goal.returns-then-a-b
unfolding over
returns-then-a-b c = sym (ap answer (less_order (over c.args.a c.args.b) (over c.args.b c.args.a) (sym (lt_is c.args.a c.args.b c.requires.0 c.requires.1) ∙ c.if-a-b.true)))

pub returns-then-b-a : goal.returns-then-b-a
unfolding over
returns-then-b-a c = sym (ap answer (greater_order (over c.args.a c.args.b) (over c.args.b c.args.a) (sym (lt_is c.args.b c.args.a c.requires.1 c.requires.0) ∙ c.if-b-a.true)))

pub returns : goal.returns
unfolding over
returns c = sym (ap answer (equal_order (over c.args.a c.args.b) (over c.args.b c.args.a) (sym (lt_is c.args.a c.args.b c.requires.0 c.requires.1) ∙ c.if-a-b.false) (sym (lt_is c.args.b c.args.a c.requires.1 c.requires.0) ∙ c.if-b-a.false)))
