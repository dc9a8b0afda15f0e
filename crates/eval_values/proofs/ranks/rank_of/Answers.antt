use native.Mathlib.Omega.{arith}
use Rattle.eval_values.specs.Ranks.{rank_numbers}
use Rattle.eval_values.specs.Means.{number_in}
use Rattle.definition.specs.Compare.{whole_fraction}
use Rattle.number_integers.specs.Signs.{back}
use lib.IntN.{ℤ}
use mathlib.Core.Option.{some}
use mathlib.Core.Path.{sym, ap, ◌∙◌, subst}
use Rattle.eval_values.specs.Ranks.{rank_in}
use Rattle.eval_values.specs.Means.{Finite, Parts}
use Rattle.eval_values.specs.declared.Operand.{Operand}
use Rattle.eval_values.proofs.ranks.rank_of.Goals as goal

-- src/ranks.rt:106:30
pub rank_float-requires : goal.rank_float-requires
rank_float-requires c = record { t = subst Finite c.in-Float.is c.requires.finite_x; finite = c.requires.finite_y }

-- src/ranks.rt:107:32
pub rank_text-requires : goal.rank_text-requires
rank_text-requires c = record { n_in_bounds = subst (Parts c.args.text.now c.args.pool.now) c.in-Pool.is c.requires.parts_x; parts = c.requires.parts_y }

-- src/ranks.rt:108:32
pub rank_text-requires-in-Text : goal.rank_text-requires-in-Text
rank_text-requires-in-Text c = record { n_in_bounds = subst (Parts c.args.text.now c.args.pool.now) c.in-Text.is c.requires.parts_x; parts = c.requires.parts_y }

-- src/ranks.rt:100:1
pub returns-in-Int : goal.returns-in-Int
returns-in-Int c = c.rank_int.ensures ∙ ap (λ (z : ℤ). rank_numbers (some (whole_fraction z)) (number_in c.args.y)) (back c.in-Int.a (omega arith)) ∙ ap (λ (z : Operand). rank_in c.args.text.now c.args.pool.now z c.args.y) (sym c.in-Int.is)

-- src/ranks.rt:100:1
pub returns-in-Float : goal.returns-in-Float
returns-in-Float c = c.rank_float.ensures ∙ ap (λ (z : Operand). rank_in c.args.text.now c.args.pool.now z c.args.y) (sym c.in-Float.is)

-- src/ranks.rt:100:1
pub returns-in-Pool : goal.returns-in-Pool
returns-in-Pool c = c.rank_text.ensures ∙ ap (λ (z : Operand). rank_in c.args.text.now c.args.pool.now z c.args.y) (sym c.in-Pool.is)

-- src/ranks.rt:100:1
pub returns-in-Text : goal.returns-in-Text
returns-in-Text c = c.rank_text-in-Text.ensures ∙ ap (λ (z : Operand). rank_in c.args.text.now c.args.pool.now z c.args.y) (sym c.in-Text.is)
