-- `measured` meets its contract.
use native.Mathlib.Omega.{arith}
use mir.Syntax.{w64}
use mir.ValLaws.{to_z_pos}
use Rattle.eval_values.specs.Values.{inside_of, parts_of}
use Rattle.eval_items.specs.OpLaws.{length_small}
use Rattle.eval_filters.specs.Values.{operand_in, operand_next, operand_length}
use Rattle.eval_filters.proofs.values.measured.Goals as goal

pub returns-in_err-a : goal.returns-in_err-a
returns-in_err-a c = rw c.from_residual.ensures tt

pub bounds-plan-z : goal.bounds-plan-z
bounds-plan-z c = operand_in (operand_next c.requires _ c.in_ok-a.ensures c.if-e-z.false)

pub length-n-requires : goal.length-n-requires
length-n-requires c = (inside_of c.args.table.now c.args.text.now c.args.pool.now c.requires.within.tab _ c.in_ok-a.ensures.fine, parts_of c.args.table.now c.args.text.now c.args.pool.now c.requires.within.tab _ c.in_ok-a.ensures.fine)

pub overflow_cast-k : goal.overflow_cast-k
overflow_cast-k c = omega (arith, c.length-n.ensures, length_small c.args.table.now c.args.text.now c.args.pool.now c.requires.within.tab c.requires.within.few_l _ c.in_ok-a.ensures.fine)

pub returns : goal.returns
returns c = operand_length c.requires _ c.in_ok-a.ensures c.if-e-z.false c.if-plan-z-ne-LENGTH.false _ c.length-n.ensures _ (to_z_pos w64 _ (omega (arith, c.length-n.ensures, length_small c.args.table.now c.args.text.now c.args.pool.now c.requires.within.tab c.requires.within.few_l _ c.in_ok-a.ensures.fine)))
