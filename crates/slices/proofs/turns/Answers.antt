-- `slices::turns` meets its contract. One division, where there is a place at all.
use native.Mathlib.Omega.{arith}
use Prim.Native.Nat.{◌-◌}
use native.Mathlib.Nat.{div-le_self}
use Rattle.slices.proofs.Turning.{turns_by_division}
use Rattle.slices.proofs.turns.Goals as goal

pub overflow_add-result : goal.overflow_add-result
overflow_add-result c = omega (arith, div-le_self (c.args.to - c.args.from - 1) c.args.step)

pub returns : goal.returns
returns c = turns_by_division c.args.from c.args.to c.args.step c.requires.0 c.if-to-from.false
