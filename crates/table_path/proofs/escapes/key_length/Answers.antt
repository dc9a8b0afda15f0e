-- What is counted and what is left are all bytes of the key in a path.
use native.Mathlib.Omega.{arith}
use mathlib.Core.Path.{◌≡◌, ap}
use Prim.Native.Nat.{◌+◌, ◌-◌, ◌≤◌}
use lib.ListN.{length, drop}
use Rattle.definition.specs.Paths.{escaped_all}
use Rattle.table_path_laws.specs.Lengths.{escaped_all_length}
use Rattle.table_path.proofs.Keys.{length_here, key_end}
use Rattle.table_path.proofs.escapes.key_length.Goals as goal

pub overflow_add-size : goal.overflow_add-size
overflow_add-size c = omega (arith, length_here c.args.key.now c.loop-byte.byte-index c.loop-byte-test.true, escaped_all_length c.args.key.now)

pub loop-byte-preserved : goal.loop-byte-preserved
loop-byte-preserved c = omega (arith, length_here c.args.key.now c.loop-byte.byte-index c.loop-byte-test.true)

pub returns : goal.returns
returns c = omega (arith, ap length (key_end c.args.key.now c.loop-byte.byte-index c.loop-byte-test.false))
