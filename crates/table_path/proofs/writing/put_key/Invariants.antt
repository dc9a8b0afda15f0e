-- The bytes of the key from a place on are put.
use native.Mathlib.Omega.{arith}
use Prim.Native.Nat.{◌-◌}
use lib.ListN.{length, drop}
use Rattle.definition.specs.Paths.{escaped_all}
use Rattle.table_path.specs.Words.{Put}
use Rattle.table_path.proofs.writing.put_key.Given as goal

abbrev pub invariant-loop-byte : goal.invariant-loop-byte
invariant-loop-byte l = Put l.initial.room l.end (escaped_all (drop (length l.key - length l.yielded) l.key)) l.room l.at
