-- `eval_items::regexes::regex_values` meets its contract.
use Rattle.eval_items.specs.Regexes.{Spelled, regex_in}
use Rattle.regex_rooms.specs.Rooms.{scope_for}
use Rattle.eval_values.specs.declared.Operand.{Operand}
use Rattle.eval_values.specs.Means.{text_in}
use mathlib.Core.Path.{sym, ap, ◌∙◌, subst}
use Rattle.eval_items.proofs.regexes.regex_values.Goals as goal

pub of_text-requires : goal.of_text-requires
of_text-requires c = record { n_in_bounds = subst (Spelled c.args.text.now c.args.pool.now) c.in-Pool.is c.requires.0; spelled = c.requires.1 }

pub of_text-requires-in-Text : goal.of_text-requires-in-Text
of_text-requires-in-Text c = record { n_in_bounds = subst (Spelled c.args.text.now c.args.pool.now) c.in-Text.is c.requires.0; spelled = c.requires.1 }

pub returns-in-Pool : goal.returns-in-Pool
returns-in-Pool c = c.of_text.ensures ∙ ap (λ (z : Operand). regex_in (scope_for c.args.kind) (text_in c.args.text.now c.args.pool.now z) (text_in c.args.text.now c.args.pool.now c.args.y)) (sym c.in-Pool.is)

pub returns-in-Text : goal.returns-in-Text
returns-in-Text c = c.of_text-in-Text.ensures ∙ ap (λ (z : Operand). regex_in (scope_for c.args.kind) (text_in c.args.text.now c.args.pool.now z) (text_in c.args.text.now c.args.pool.now c.args.y)) (sym c.in-Text.is)
