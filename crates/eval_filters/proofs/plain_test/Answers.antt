-- `plain_test` meets its contract.
use Rattle.eval_filters.specs.Values.{test_operand_lem, operand_in}
use Rattle.eval_filters.proofs.plain_test.Goals as goal

pub bounds-plan-q : goal.bounds-plan-q
bounds-plan-q c = operand_in (test_operand_lem c.requires)
