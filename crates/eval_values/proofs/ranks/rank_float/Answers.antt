use native.Mathlib.Omega.{arith}
use Rattle.eval_values.specs.Floats.{rank_answer, one_whole_at, one_float}
use mathlib.Core.Path.{sym, ap, ◌∙◌, subst}
use Rattle.eval_values.specs.Floats.{rank_answer, one_float}
use Rattle.eval_values.specs.Ranks.{rank_numbers}
use Rattle.eval_values.specs.Means.{Finite, number_in}
use Rattle.definition.specs.Compare.{float_fraction}
use Rattle.number_integers.specs.Signs.{back}
use mathlib.Core.Option.{some}
use Rattle.eval_values.specs.declared.Operand.{Operand}
use Rattle.eval_values.proofs.ranks.rank_float.Goals as goal

-- src/ranks.rt:71:41
pub compare_nums-requires : goal.compare_nums-requires
compare_nums-requires c = (c.requires.t, subst Finite c.in-Float.is c.requires.finite)

-- src/ranks.rt:64:1
pub returns-in-Int : goal.returns-in-Int
returns-in-Int c = rank_answer _ _ _ _ _ (one_float c.args.a) (one_whole_at _ _ (back c.in-Int.b (omega arith))) c.compare_num_i64.ensures ∙ ap (λ (z : Operand). rank_numbers (some (float_fraction c.args.a)) (number_in z)) (sym c.in-Int.is)

-- src/ranks.rt:64:1
pub returns-in-Float : goal.returns-in-Float
returns-in-Float c = rank_answer _ _ _ _ _ (one_float c.args.a) (one_float c.in-Float.b) c.compare_nums.ensures ∙ ap (λ (z : Operand). rank_numbers (some (float_fraction c.args.a)) (number_in z)) (sym c.in-Float.is)
