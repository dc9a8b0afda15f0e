-- `query_value` meets its contract.
use lib.ListN.{get_or}
use mathlib.Core.Path.{refl}
use Rattle.eval_filters.specs.Queries.{begins_in}
use Rattle.eval_filters.specs.Values.{operand_in, value_query, value_past, value_asked, value_done}
use Rattle.eval_filters.proofs.values.query_value.Goals as goal

pub bounds-plan-q : goal.bounds-plan-q
bounds-plan-q c = operand_in c.requires.ask_operand

pub plain_nodes-requires : goal.plain_nodes-requires
plain_nodes-requires c = record { given = record { few_p = c.requires.ask_operand.within.few_p; few_l = c.requires.ask_operand.within.few_l; tab = c.requires.ask_operand.within.tab }; node_in = begins_in _ (get_or c.args.plan.now c.args.q 0) _ _ _ c.begins-from.ensures c.requires.ask_operand.within.root_in c.requires.ask_operand.within.node_in; query = value_query c.requires.ask_operand c.requires.q_bound _ refl }

pub bounds-plan-z : goal.bounds-plan-z
bounds-plan-z c = (value_past c.requires.ask_operand c.requires.q_bound _ c.begins-from.ensures _ c.in-Ok.ensures).1

pub found_value-requires : goal.found_value-requires
found_value-requires c = record { ask_nodes = record { tab = c.requires.ask_operand.within.tab; inside = c.in-Ok.ensures.inside }; ask_found = value_asked c.requires.ask_operand c.requires.q_bound _ c.begins-from.ensures _ c.in-Ok.ensures c.if-plan-z-eq-TEST.false }

pub returns : goal.returns
returns c = value_done c.requires.ask_operand c.requires.q_bound _ c.begins-from.ensures _ c.in-Ok.ensures _ c.found_value.ensures
