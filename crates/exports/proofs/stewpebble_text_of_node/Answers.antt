-- The exported text of a node hands out the place of the part that `text_of_node` answers with.
use borrow.Author.Rules.{rules}
use Rattle.definition.specs.TableOutcomes.{text_outcome}
use Rattle.table_laws.specs.Outcomes.{text_has}
use Rattle.exports.proofs.Answers.{has_part, hands_part, hands_none}
use Rattle.exports.proofs.stewpebble_text_of_node.Goals as goal

pub returns-then-number-ne0 : goal.returns-then-number-ne0
unfolding text_outcome
returns-then-number-ne0 c = let all = hands_none _ _ _ _ _ _ _ c.text_of_node.ensures.answers c.if-number-ne0.true in record { answers = all.0; place = all.1 }

pub text_start-requires : goal.text_start-requires
unfolding text_outcome
text_start-requires c = (text_has _ _ (has_part _ _ _ _ _ c.text_of_node.ensures.answers c.if-number-ne0.false)).0

pub text_length-requires : goal.text_length-requires
unfolding text_outcome
text_length-requires c = (text_has _ _ (has_part _ _ _ _ _ c.text_of_node.ensures.answers c.if-number-ne0.false)).0

pub returns : goal.returns
unfolding text_outcome
returns c = let all = hands_part _ _ _ _ _ _ _ c.text_of_node.ensures.answers c.if-number-ne0.false c.text_start.ensures c.text_length.ensures in record { answers = all.0; place = all.1 }
