-- What is counted and what is left are all digits of the index, and one.
use native.Mathlib.Omega.{arith}
use mathlib.Core.Path.{◌≡◌}
use Prim.Native.Nat.{◌+◌}
use lib.ListN.{length}
use Rattle.definition.specs.Paths.{written}
use Rattle.table_path_laws.specs.Digits.{written_length}
use Rattle.table_path.proofs.Indices.{length_step, length_one, length_some}
use Rattle.table_path.proofs.escapes.digit_count.Goals as goal

pub loop-m-init : goal.loop-m-init
loop-m-init c = omega arith

pub overflow_add-count : goal.overflow_add-count
overflow_add-count c = omega (arith, length_some c.loop-m.m, written_length c.args.index)

pub loop-m-smaller : goal.loop-m-smaller
loop-m-smaller c = omega arith

pub loop-m-preserved : goal.loop-m-preserved
loop-m-preserved c = omega (arith, length_step _ c.loop-m-test.true)

pub returns : goal.returns
returns c = omega (arith, length_one _ c.loop-m-test.false)
