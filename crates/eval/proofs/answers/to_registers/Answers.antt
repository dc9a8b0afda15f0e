-- `eval::answers::to_registers` meets its contract, by a law for each thing that is asked of a query.
use mathlib.Core.Path.{refl, sym, ◌∙◌}
use Rattle.eval.specs.Answers.{answer_test, answer_function, answer_first}
use Rattle.eval.proofs.answers.to_registers.Goals as goal

pub returns-then-mode-eq-TEST : goal.returns-then-mode-eq-TEST
returns-then-mode-eq-TEST c = answer_test _ c.requires c.if-mode-eq-TEST.true _ refl

pub eval_function-y-requires : goal.eval_function-y-requires
eval_function-y-requires c = c.requires.nodes

pub returns-then-is_function : goal.returns-then-is_function
returns-then-is_function c = answer_function _ c.requires _ c.eval_function-y.ensures (sym c.is_function.ensures ∙ c.if-is_function.true)

pub first_value-y-requires : goal.first_value-y-requires
first_value-y-requires c = c.requires.nodes

pub returns : goal.returns
returns c = answer_first _ c.requires c.if-mode-eq-TEST.false (sym c.is_function.ensures ∙ c.if-is_function.false) _ c.first_value-y.ensures
