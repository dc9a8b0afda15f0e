-- `number_order::magnitude` meets its contract: the complement of a negative number is its magnitude less 1.
use mathlib.Core.Path.{ap}
use mathlib.Core.Bool.{true, false}
use native.Mathlib.Omega.{arith}
use lib.IntN.{pos, nat_abs}
use mir.Syntax.{w64}
use mir.ValLaws.{to_z-of_z}
use Rattle.number_order.proofs.Signs.{tested, zero_fits, complement, castable}
use Rattle.number_order.proofs.magnitude.Goals as goal

pub overflow_cast-result : goal.overflow_cast-result
overflow_cast-result c = let b = complement _ c.ranges.i (tested _ (pos 0) true c.ranges.i zero_fits c.if-i-lt0.true) in rw b.0 (tt, omega arith)

pub overflow_add-result : goal.overflow_add-result
overflow_add-result c = let b = complement _ c.ranges.i (tested _ (pos 0) true c.ranges.i zero_fits c.if-i-lt0.true) in rw b.0 (omega arith)

pub returns-then-i-lt0 : goal.returns-then-i-lt0
returns-then-i-lt0 c = let b = complement _ c.ranges.i (tested _ (pos 0) true c.ranges.i zero_fits c.if-i-lt0.true) in rw b.0 (omega arith)

pub overflow_cast-result-2 : goal.overflow_cast-result-2
overflow_cast-result-2 c = rw (to_z-of_z w64 c.args.i c.ranges.i) (castable _ c.ranges.i (tested _ (pos 0) false c.ranges.i zero_fits c.if-i-lt0.false))

pub returns : goal.returns
returns c = ap nat_abs (to_z-of_z w64 c.args.i c.ranges.i)
