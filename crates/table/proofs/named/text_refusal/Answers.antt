-- The refusal is the one that the check of the table comes to, or 15 where there is no such text.
use mathlib.Core.Path.{sym, ◌∙◌}
use Rattle.definition.specs.Tables.{check_table, text_bytes_at}
use Rattle.definition.specs.TableOutcomes.{has_text, text_outcome}
use Rattle.table_laws.specs.Outcomes.{number_lacking, number_found}
use Rattle.table.proofs.Answers.{says_accepted, number_refused}
use borrow.Author.Rules.{rules}
use Rattle.table.proofs.named.text_refusal.Goals as goal

pub returns-then-has_text : goal.returns-then-has_text
unfolding text_outcome
returns-then-has_text c = sym (number_found (check_table c.args.table.now c.args.text.now) (has_text c.args.table.now c.args.node) (text_bytes_at c.args.table.now c.args.text.now c.args.node) (says_accepted c.args.table.now c.args.text.now c.in-Ok.ensures) (sym c.has_text.ensures ∙ c.if-has_text.true))

pub returns-else-has_text : goal.returns-else-has_text
unfolding text_outcome
returns-else-has_text c = sym (number_lacking (check_table c.args.table.now c.args.text.now) (has_text c.args.table.now c.args.node) (text_bytes_at c.args.table.now c.args.text.now c.args.node) (says_accepted c.args.table.now c.args.text.now c.in-Ok.ensures) (sym c.has_text.ensures ∙ c.if-has_text.false))

pub returns-in-Err : goal.returns-in-Err
unfolding text_outcome
returns-in-Err c = c.number.ensures ∙ sym (number_refused c.args.table.now c.args.text.now c.in-Err.refusal _ _ c.in-Err.ensures)
