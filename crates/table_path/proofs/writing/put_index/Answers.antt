-- The digits behind those of what is left are put.
use native.Mathlib.Omega.{arith}
use mathlib.Core.Path.{◌∙◌}
use Rattle.table_path.proofs.Indices.{Indexed, index_start, digit_room, index_next, index_last}
use Rattle.table_path.proofs.writing.put_index.Goals as goal

pub loop-m-init : goal.loop-m-init
loop-m-init c = index_start _ _ _

pub overflow_add-m : goal.overflow_add-m
overflow_add-m c = omega arith

pub overflow_cast-m : goal.overflow_cast-m
overflow_cast-m c = omega arith

pub put_byte-at-requires : goal.put_byte-at-requires
put_byte-at-requires c = digit_room c.loop-m.invariant c.requires

pub loop-m-smaller : goal.loop-m-smaller
loop-m-smaller c = omega arith

pub loop-m-preserved : goal.loop-m-preserved
loop-m-preserved c = index_next c.loop-m.invariant c.loop-m-test.true c.put_byte-at.ensures

pub overflow_add-m-2 : goal.overflow_add-m-2
overflow_add-m-2 c = omega arith

pub overflow_cast-m-2 : goal.overflow_cast-m-2
overflow_cast-m-2 c = omega arith

pub put_byte-requires : goal.put_byte-requires
put_byte-requires c = digit_room c.loop-m.invariant c.requires

pub shape_of-room : goal.shape_of-room
shape_of-room c = c.put_byte.ensures.same ∙ c.loop-m.invariant.put.same

pub returns : goal.returns
returns c = index_last c.loop-m.invariant c.loop-m-test.false c.put_byte.ensures
