-- The refusal is the one that the check of the table comes to, or 15 where there is no such text.
use mathlib.Core.Path.{sym, ◌∙◌}
use Rattle.definition.specs.Tables.{check_table, key_bytes}
use Rattle.definition.specs.TableOutcomes.{has_key, key_outcome}
use Rattle.table_laws.specs.Outcomes.{number_lacking, number_found}
use Rattle.table.proofs.Answers.{says_accepted, number_refused}
use Rattle.table_laws.specs.Accepted.{accepted_gives, accepted_parented}
use borrow.Author.Rules.{rules}
use Rattle.table.proofs.named.key_refusal.Goals as goal

pub has_key-requires : goal.has_key-requires
has_key-requires c = accepted_parented c.args.table.now c.args.text.now (accepted_gives c.args.table.now c.args.text.now (says_accepted c.args.table.now c.args.text.now c.in-Ok.ensures))

pub returns-then-has_key : goal.returns-then-has_key
unfolding key_outcome
returns-then-has_key c = sym (number_found (check_table c.args.table.now c.args.text.now) (has_key c.args.table.now c.args.node) (key_bytes c.args.table.now c.args.text.now c.args.node) (says_accepted c.args.table.now c.args.text.now c.in-Ok.ensures) (sym c.has_key.ensures ∙ c.if-has_key.true))

pub returns-else-has_key : goal.returns-else-has_key
unfolding key_outcome
returns-else-has_key c = sym (number_lacking (check_table c.args.table.now c.args.text.now) (has_key c.args.table.now c.args.node) (key_bytes c.args.table.now c.args.text.now c.args.node) (says_accepted c.args.table.now c.args.text.now c.in-Ok.ensures) (sym c.has_key.ensures ∙ c.if-has_key.false))

pub returns-in-Err : goal.returns-in-Err
unfolding key_outcome
returns-in-Err c = c.number.ensures ∙ sym (number_refused c.args.table.now c.args.text.now c.in-Err.refusal _ _ c.in-Err.ensures)
