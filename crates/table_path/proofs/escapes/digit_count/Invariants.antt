-- What is counted and what is left are all digits of the index, and one.
use native.Mathlib.Omega.{arith}
use mathlib.Core.Path.{◌≡◌}
use Prim.Native.Nat.{◌+◌}
use lib.ListN.{length}
use Rattle.definition.specs.Paths.{written}
use Rattle.table_path_laws.specs.Digits.{written_length}
use Rattle.table_path.proofs.Indices.{length_step, length_one, length_some}
use Rattle.table_path.proofs.escapes.digit_count.Given as goal

abbrev pub invariant-loop-m : goal.invariant-loop-m
invariant-loop-m l = l.count + length (written l.m) ≡ length (written l.index) + 1

abbrev pub decreases-loop-m : goal.decreases-loop-m
decreases-loop-m l = l.m
