-- The digits behind those of what is left are put.
use native.Mathlib.Omega.{arith}
use mathlib.Core.Path.{◌∙◌}
use Rattle.table_path.proofs.Indices.{Indexed, index_start, digit_room, index_next, index_last}
use Rattle.table_path.proofs.writing.put_index.Given as goal

abbrev pub invariant-loop-m : goal.invariant-loop-m
invariant-loop-m l = Indexed l.initial.room l.end l.index l.room l.at l.m

abbrev pub decreases-loop-m : goal.decreases-loop-m
decreases-loop-m l = l.m
