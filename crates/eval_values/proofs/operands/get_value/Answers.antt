use mathlib.Core.Path.{◌∙◌}
use Rattle.definition.specs.Tables.{payload}
use Rattle.number_integers.specs.Signs.{back}
use Rattle.eval_values.specs.Floats.{bits_number}
use Rattle.eval_values.specs.Values.{of_null, of_false, of_true, of_integer_lem, of_float_lem, of_text_lem}
use native.Mathlib.Omega.{arith}
use Rattle.eval_values.proofs.operands.get_value.Goals as goal

-- src/operands.rt:34:9
pub returns-then-k-eq-KIND_NULL : goal.returns-then-k-eq-KIND_NULL
returns-then-k-eq-KIND_NULL c = of_null _ _ c.requires.0 _ c.requires.1 (omega arith)

-- src/operands.rt:37:9
pub returns-then-k-eq-KIND_FALSE : goal.returns-then-k-eq-KIND_FALSE
returns-then-k-eq-KIND_FALSE c = of_false _ _ c.requires.0 _ c.requires.1 (omega arith)

-- src/operands.rt:40:9
pub returns-then-k-eq-KIND_TRUE : goal.returns-then-k-eq-KIND_TRUE
returns-then-k-eq-KIND_TRUE c = of_true _ _ c.requires.0 _ c.requires.1 (omega arith)

-- src/operands.rt:43:9
pub returns-then-k-eq-KIND_INTEGER : goal.returns-then-k-eq-KIND_INTEGER
returns-then-k-eq-KIND_INTEGER c = of_integer_lem _ _ c.requires.0 _ c.requires.1 (omega arith) _ (back c.integer.result c.integer.type_inv ∙ c.integer.ensures)

-- src/operands.rt:46:31
pub float-requires : goal.float-requires
float-requires c = record { node_bound = omega arith; node_value = bits_number (payload c.args.table.now c.args.node) (c.requires.0.floats c.args.node c.requires.1 (omega arith)) }

-- src/operands.rt:46:9
pub returns-then-k-eq-KIND_FLOAT : goal.returns-then-k-eq-KIND_FLOAT
returns-then-k-eq-KIND_FLOAT c = of_float_lem _ _ c.requires.0 _ c.requires.1 (omega arith) _ c.float.ensures

-- src/operands.rt:51:9
pub returns-then-k-eq-KIND_TEXT : goal.returns-then-k-eq-KIND_TEXT
returns-then-k-eq-KIND_TEXT c = of_text_lem _ _ c.requires.0 _ c.requires.1 (omega arith) _ _ c.text_start-start.ensures c.text_length-size.ensures
