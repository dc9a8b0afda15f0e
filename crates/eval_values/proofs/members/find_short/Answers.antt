-- `eval_values::members::find_short` meets its contract, as get_by_key does: the ends of a name say whether it is the member's.
use Rattle.eval_values.specs.Members.{key_same, lookup_start, lookup_step, lookup_found, lookup_end}
use Prim.Native.Nat.{◌+◌}
use native.Mathlib.Omega.{arith}
use Rattle.eval_values.proofs.members.find_short.Goals as goal

pub part_ends-ends-requires : goal.part_ends-ends-requires
part_ends-ends-requires c = record { n_in_bounds = c.requires.n_in_bounds; le_n = c.requires.le_n }

pub loop-i-init : goal.loop-i-init
loop-i-init c = lookup_start _ _ _ _ _

pub overflow_add-node : goal.overflow_add-node
overflow_add-node c = omega (arith, c.requires.members.nodes c.loop-i.i c.loop-i-test.true)

pub key_start-start-requires : goal.key_start-start-requires
key_start-start-requires c = c.requires.members.nodes c.loop-i.i c.loop-i-test.true

pub overflow_cast-start : goal.overflow_cast-start
overflow_cast-start c = omega arith

pub key_length-size-requires : goal.key_length-size-requires
key_length-size-requires c = c.requires.members.nodes c.loop-i.i c.loop-i-test.true

pub overflow_cast-size : goal.overflow_cast-size
overflow_cast-size c = omega arith

pub part_has_ends-requires : goal.part_has_ends-requires
part_has_ends-requires c = record { m_in_bounds = omega (arith, c.key_start-start.ensures, c.key_length-size.ensures, c.requires.members.keys c.loop-i.i c.loop-i-test.true); le_n = c.requires.le_n.0 }

pub returns-then-part_has_ends : goal.returns-then-part_has_ends
returns-then-part_has_ends c = lookup_found _ _ _ _ _ _ c.loop-i.invariant c.loop-i-test.true _ (key_same c.args.table.now c.args.text.now _ (c.args.first + c.loop-i.i) _ _ _ c.key_start-start.ensures c.key_length-size.ensures (c.part_has_ends.ensures _ c.part_ends-ends.ensures)) c.if-part_has_ends.true

pub loop-i-preserved : goal.loop-i-preserved
loop-i-preserved c = lookup_step _ _ _ _ _ _ c.loop-i.invariant c.loop-i-test.true _ (key_same c.args.table.now c.args.text.now _ (c.args.first + c.loop-i.i) _ _ _ c.key_start-start.ensures c.key_length-size.ensures (c.part_has_ends.ensures _ c.part_ends-ends.ensures)) c.if-part_has_ends.false

pub returns : goal.returns
returns c = lookup_end _ _ _ _ _ _ c.loop-i.invariant c.loop-i-test.false
