-- `plain_turn` meets its contract.
use mathlib.Core.Path.{sym, ◌∙◌}
use Rattle.eval_laws.specs.Todos.{todo_in}
use Rattle.eval_filters.specs.Turns.{turn_asks, turn_logic, turn_plain}
use Rattle.eval_filters.proofs.plain_turn.Goals as goal

pub bounds-plan-q : goal.bounds-plan-q
bounds-plan-q c = todo_in _ _ _ _ _ _ _ _ _ _ c.requires.todo c.requires.more

pub logic_expr-requires : goal.logic_expr-requires
logic_expr-requires c = turn_asks c.requires (sym c.is_logic.ensures ∙ c.if-is_logic.true)

pub returns-then-is_logic : goal.returns-then-is_logic
returns-then-is_logic c = turn_logic c.requires c.logic_expr.ensures

pub returns : goal.returns
returns c = turn_plain c.requires c.plain_test.ensures
