-- `regex_expr` meets its contract: the answer is that of match or search of the last two values.
use Rattle.eval_items.specs.OpLaws.{op_in, done_regex}
use Rattle.eval_items.specs.Regexes.{spelled_of}
use native.Mathlib.Omega.{arith}
use Rattle.eval_items.proofs.leaves.regex_expr.Goals as goal

pub bounds-plan-q : goal.bounds-plan-q
bounds-plan-q c = omega (arith, op_in c.requires)

pub regex_values-b-requires : goal.regex_values-b-requires
regex_values-b-requires c = (spelled_of c.args.table.now c.args.text.now c.args.pool.now c.args.s.x c.requires.pair.first, spelled_of c.args.table.now c.args.text.now c.args.pool.now c.args.s.y c.requires.pair.second)

pub overflow_add-z : goal.overflow_add-z
overflow_add-z c = omega (arith, op_in c.requires, c.requires.few_p)

pub returns : goal.returns
returns c = done_regex c.requires (omega arith) (omega arith) _ c.regex_values-b.ensures
