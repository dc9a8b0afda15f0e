-- `eval_values::ranks::is_equal` meets its contract: numbers by their rank, texts by their bytes.
use native.Mathlib.Omega.{arith}
use lib.IntN.{ℤ}
use mathlib.Core.Option.{some}
use mathlib.Core.Path.{sym, ap, ◌∙◌, subst}
use Rattle.definition.specs.Compare.{whole_fraction}
use Rattle.number_integers.specs.Signs.{back}
use Rattle.eval_values.specs.Ranks.{rank_numbers, rank_in, is_rank_equal}
use Rattle.eval_values.specs.Means.{Finite, Parts, number_in}
use Rattle.eval_values.specs.declared.Operand.{Operand}
use Rattle.eval_values.proofs.ranks.is_equal.Goals as goal

pub rank_float-requires : goal.rank_float-requires
rank_float-requires c = record { t = subst Finite c.in-Float.is c.requires.finite_x; finite = c.requires.finite_y }

pub is_text-requires : goal.is_text-requires
is_text-requires c = record { n_in_bounds = subst (Parts c.args.text.now c.args.pool.now) c.in-Pool.is c.requires.parts_x; parts = c.requires.parts_y }

pub is_text-requires-in-Text : goal.is_text-requires-in-Text
is_text-requires-in-Text c = record { n_in_bounds = subst (Parts c.args.text.now c.args.pool.now) c.in-Text.is c.requires.parts_x; parts = c.requires.parts_y }

pub returns-in-Int : goal.returns-in-Int
returns-in-Int c =
    c.is_same.ensures
    ∙ ap is_rank_equal (c.rank_int.ensures ∙ ap (λ (z : ℤ). rank_numbers (some (whole_fraction z)) (number_in c.args.y)) (back c.in-Int.a (omega arith)) ∙ ap (λ (z : Operand). rank_in c.args.text.now c.args.pool.now z c.args.y) (sym c.in-Int.is))

pub returns-in-Float : goal.returns-in-Float
returns-in-Float c = c.is_same-in-Float.ensures ∙ ap is_rank_equal (c.rank_float.ensures ∙ ap (λ (z : Operand). rank_in c.args.text.now c.args.pool.now z c.args.y) (sym c.in-Float.is))

pub returns-in-Pool : goal.returns-in-Pool
returns-in-Pool c = c.is_text.ensures ∙ ap (λ (z : Operand). is_rank_equal (rank_in c.args.text.now c.args.pool.now z c.args.y)) (sym c.in-Pool.is)

pub returns-in-Text : goal.returns-in-Text
returns-in-Text c = c.is_text-in-Text.ensures ∙ ap (λ (z : Operand). is_rank_equal (rank_in c.args.text.now c.args.pool.now z c.args.y)) (sym c.in-Text.is)
