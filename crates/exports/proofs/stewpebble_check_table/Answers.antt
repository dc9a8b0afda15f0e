-- The exported pair of checks hands out what `check_table` answers.
use mathlib.Core.Path.{◌∙◌}
use borrow.Author.Rules.{rules}
use Rattle.exports.proofs.Answers.{check_handed}
use Rattle.exports.proofs.stewpebble_check_table.Goals as goal

pub returns : goal.returns
returns c = check_handed c.tell_check.ensures.0 c.tell_check.ensures.1 c.of_check.ensures ∙ c.check_table-checked.ensures
