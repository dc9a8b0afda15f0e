-- `length_expr` meets its contract: the length is small enough for an i64, and is that of the last value.
use mir.ValLaws.{to_z_pos}
use mir.Syntax.{w64}
use native.Mathlib.Omega.{arith}
use Rattle.eval_values.specs.Values.{inside_of, parts_of}
use Rattle.eval_items.specs.OpLaws.{op_in, done_length, length_small}
use Rattle.eval_items.proofs.leaves.length_expr.Goals as goal

pub length-n-requires : goal.length-n-requires
length-n-requires c = (inside_of c.args.table.now c.args.text.now c.args.pool.now c.requires.tab c.args.s.y c.requires.pair.second, parts_of c.args.table.now c.args.text.now c.args.pool.now c.requires.tab c.args.s.y c.requires.pair.second)

pub overflow_cast-v : goal.overflow_cast-v
overflow_cast-v c = omega (arith, c.length-n.ensures, length_small c.args.table.now c.args.text.now c.args.pool.now c.requires.tab c.requires.few_l c.args.s.y c.requires.pair.second)

pub overflow_add-z : goal.overflow_add-z
overflow_add-z c = omega (arith, op_in c.requires, c.requires.few_p)

pub returns : goal.returns
returns c = done_length c.requires (omega arith) (omega arith) _ c.length-n.ensures _ (to_z_pos w64 _ (omega (arith, c.length-n.ensures, length_small c.args.table.now c.args.text.now c.args.pool.now c.requires.tab c.requires.few_l c.args.s.y c.requires.pair.second)))
