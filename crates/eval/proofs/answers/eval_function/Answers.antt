-- `eval::answers::eval_function` meets its contract, by a law for each function.
use native.Mathlib.Omega.{arith}
use mir.Syntax.{w64}
use mir.ValLaws.{to_z_pos}
use Rattle.eval.specs.Answers.{function_count, function_value, function_null}
use Rattle.eval.proofs.answers.eval_function.Goals as goal

pub returns-then-mode-eq-COUNT : goal.returns-then-mode-eq-COUNT
returns-then-mode-eq-COUNT c = function_count _ _ _ _ _ c.if-mode-eq-COUNT.true _ (to_z_pos w64 _ (omega (arith, c.requires.few)))

pub get_value-requires : goal.get_value-requires
get_value-requires c = (c.requires.tab, c.requires.inside (omega arith))

pub returns-then-n-eq1 : goal.returns-then-n-eq1
returns-then-n-eq1 c = function_value _ _ _ _ _ c.if-mode-eq-COUNT.false c.if-n-eq1.true _ c.get_value.ensures

pub returns : goal.returns
returns c = function_null _ _ _ _ _ c.if-mode-eq-COUNT.false c.if-n-eq1.false
