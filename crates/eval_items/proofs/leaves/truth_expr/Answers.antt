-- `truth_expr` meets its contract: the answer is the truth of the last value.
use native.Mathlib.Omega.{arith}
use Rattle.eval_values.specs.Values.{inside_of}
use Rattle.eval_items.specs.OpLaws.{op_in, done_truth}
use Rattle.eval_items.proofs.leaves.truth_expr.Goals as goal

pub to_logical-b-requires : goal.to_logical-b-requires
to_logical-b-requires c = inside_of c.args.table.now c.args.text.now c.args.pool.now c.requires.tab c.args.s.y c.requires.pair.second

pub overflow_add-z : goal.overflow_add-z
overflow_add-z c = omega (arith, op_in c.requires, c.requires.few_p)

pub returns : goal.returns
returns c = done_truth c.requires (omega arith) (omega arith) _ c.to_logical-b.ensures
