-- The exported text check hands out what `check_texts` answers.
use mathlib.Core.Path.{◌∙◌}
use borrow.Author.Rules.{rules}
use Rattle.exports.proofs.Answers.{check_handed}
use Rattle.exports.proofs.stewpebble_check_texts.Goals as goal

pub returns : goal.returns
returns c = check_handed c.tell_check.ensures.0 c.tell_check.ensures.1 c.of_check.ensures ∙ c.check_texts-checked.ensures
