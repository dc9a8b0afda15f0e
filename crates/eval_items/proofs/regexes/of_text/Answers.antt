-- `eval_items::regexes::of_text` meets its contract.
use Rattle.eval_items.specs.Regexes.{Spelled, regex_in}
use Rattle.regex_rooms.specs.Rooms.{scope_for}
use Rattle.eval_values.specs.declared.Operand.{Operand}
use Rattle.eval_values.specs.Means.{text_in}
use Rattle.definition.specs.Bytes.{part}
use mathlib.Core.Option.{some}
use mathlib.Core.Path.{sym, ap, ◌∙◌, subst}
use Rattle.eval_items.proofs.regexes.of_text.Goals as goal

pub of_parts-requires : goal.of_parts-requires
of_parts-requires c = record { n_in_bounds = c.requires.n_in_bounds; m_in_bounds = subst (Spelled c.args.text.now c.args.pool.now) c.in-Pool.is c.requires.spelled }

pub of_parts-requires-in-Text : goal.of_parts-requires-in-Text
of_parts-requires-in-Text c = record { n_in_bounds = c.requires.n_in_bounds; m_in_bounds = subst (Spelled c.args.text.now c.args.pool.now) c.in-Text.is c.requires.spelled }

pub returns-in-Pool : goal.returns-in-Pool
returns-in-Pool c = c.of_parts.ensures ∙ ap (λ (z : Operand). regex_in (scope_for c.args.kind) (some (part c.args.s.now c.args.a c.args.n)) (text_in c.args.text.now c.args.pool.now z)) (sym c.in-Pool.is)

pub returns-in-Text : goal.returns-in-Text
returns-in-Text c = c.of_parts-in-Text.ensures ∙ ap (λ (z : Operand). regex_in (scope_for c.args.kind) (some (part c.args.s.now c.args.a c.args.n)) (text_in c.args.text.now c.args.pool.now z)) (sym c.in-Text.is)
