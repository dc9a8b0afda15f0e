-- What is counted and what is left are all bytes of the key in a path.
use native.Mathlib.Omega.{arith}
use mathlib.Core.Path.{◌≡◌, ap}
use Prim.Native.Nat.{◌+◌, ◌-◌, ◌≤◌}
use lib.ListN.{length, drop}
use Rattle.definition.specs.Paths.{escaped_all}
use Rattle.table_path_laws.specs.Lengths.{escaped_all_length}
use Rattle.table_path.proofs.Keys.{length_here, key_end}
use Rattle.table_path.proofs.escapes.key_length.Given as goal

abbrev pub invariant-loop-byte : goal.invariant-loop-byte
invariant-loop-byte l = l.size + length (escaped_all (drop l.byte-index l.key)) ≡ length (escaped_all l.key)
