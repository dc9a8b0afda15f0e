-- `tail_named` meets its contract: the member at the place that is looked at first, or the one that a search finds.
use native.Mathlib.Omega.{arith}
use Rattle.eval_filters.specs.Atoms.{name_any, name_inside, name_near, near_room}
use Rattle.eval_filters.proofs.kept.tail_named.Goals as goal

pub is_near-requires : goal.is_near-requires
is_near-requires c = record { accepted = (c.requires.ask_one.tab, c.requires.ask_one.node_in); n_in_bounds = name_inside c.requires.ask_one c.requires.start_value.0 c.requires.start_value.1 }

pub overflow_add-result : goal.overflow_add-result
overflow_add-result c = omega (arith, near_room c.requires.ask_one c.requires.start_value.0 c.requires.start_value.1 (c.is_near.ensures c.if-is_near.true) _ c.first_child.ensures)

pub returns-then-is_near : goal.returns-then-is_near
returns-then-is_near c = name_near c.requires.ask_one c.requires.start_value.0 c.requires.start_value.1 (c.is_near.ensures c.if-is_near.true) _ c.first_child.ensures

pub select_one-requires : goal.select_one-requires
select_one-requires c = name_any c.requires.ask_one
