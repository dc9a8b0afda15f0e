-- `not_expr` meets its contract: the answer is turned round.
use native.Mathlib.Omega.{arith}
use Rattle.eval_items.specs.OpLaws.{op_in, done_not}
use Rattle.eval_items.proofs.leaves.not_expr.Goals as goal

pub overflow_add-z : goal.overflow_add-z
overflow_add-z c = omega (arith, op_in c.requires, c.requires.few_p)

pub returns : goal.returns
returns c = done_not c.requires (omega arith) (omega arith)
