-- `get_by_key` meets its contract: the members that are left give the whole search.
use native.Mathlib.Omega.{arith}
use Rattle.eval_values.specs.Members.{lookup_start, lookup_step, lookup_found, lookup_end}
use Rattle.eval_values.proofs.members.get_by_key.Goals as goal

pub loop-i-init : goal.loop-i-init
loop-i-init c = lookup_start _ _ _ _ _

pub overflow_add-node : goal.overflow_add-node
overflow_add-node c = omega (arith, c.requires.members.nodes c.loop-i.i c.loop-i-test.true)

pub is_named-requires : goal.is_named-requires
is_named-requires c = record { node_bound = (c.requires.members.nodes c.loop-i.i c.loop-i-test.true, c.requires.members.keys c.loop-i.i c.loop-i-test.true); n_in_bounds = c.requires.n_in_bounds }

pub returns-then-is_named : goal.returns-then-is_named
returns-then-is_named c = lookup_found _ _ _ _ _ _ c.loop-i.invariant c.loop-i-test.true _ c.is_named.ensures c.if-is_named.true

pub loop-i-preserved : goal.loop-i-preserved
loop-i-preserved c = lookup_step _ _ _ _ _ _ c.loop-i.invariant c.loop-i-test.true _ c.is_named.ensures c.if-is_named.false

pub returns : goal.returns
returns c = lookup_end _ _ _ _ _ _ c.loop-i.invariant c.loop-i-test.false
