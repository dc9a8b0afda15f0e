use native.Mathlib.Omega.{arith}
use mir.ValLaws.{to_z-of_z}
use mir.Syntax.{w64}
use Rattle.eval_values.specs.Floats.{rank_answer, one_whole_at, one_float}
use mathlib.Core.Path.{sym, ap, ◌∙◌, subst}
use Rattle.eval_values.specs.Floats.{rank_answer, one_float}
use Rattle.eval_values.specs.Ranks.{rank_numbers}
use Rattle.eval_values.specs.Means.{Finite, number_in}
use Rattle.definition.specs.Compare.{whole_fraction}
use Rattle.number_integers.specs.Signs.{back}
use mathlib.Core.Option.{some}
use Rattle.eval_values.specs.declared.Operand.{Operand}
use Rattle.eval_values.proofs.ranks.rank_int.Goals as goal

-- src/ranks.rt:53:41
pub compare_i64_num-requires : goal.compare_i64_num-requires
compare_i64_num-requires c = subst Finite c.in-Float.is c.requires

-- src/ranks.rt:47:1
pub returns-in-Int : goal.returns-in-Int
returns-in-Int c = rank_answer _ _ _ _ _ (one_whole_at _ _ (to_z-of_z w64 c.args.a c.ranges.a)) (one_whole_at _ _ (back c.in-Int.b (omega arith))) c.compare_i64.ensures ∙ ap (λ (z : Operand). rank_numbers (some (whole_fraction c.args.a)) (number_in z)) (sym c.in-Int.is)

-- src/ranks.rt:47:1
pub returns-in-Float : goal.returns-in-Float
returns-in-Float c = rank_answer _ _ _ _ _ (one_whole_at _ _ (to_z-of_z w64 c.args.a c.ranges.a)) (one_float c.in-Float.b) c.compare_i64_num.ensures ∙ ap (λ (z : Operand). rank_numbers (some (whole_fraction c.args.a)) (number_in z)) (sym c.in-Float.is)
