-- The exported key of a node hands out the place of the part that `key_of_node` answers with.
use borrow.Author.Rules.{rules}
use Rattle.definition.specs.TableOutcomes.{key_outcome}
use Rattle.table_laws.specs.Outcomes.{key_has}
use Rattle.exports.proofs.Answers.{has_part, hands_part, hands_none}
use Rattle.exports.proofs.stewpebble_key_of_node.Goals as goal

pub returns-then-number-ne0 : goal.returns-then-number-ne0
unfolding key_outcome
returns-then-number-ne0 c = let all = hands_none _ _ _ _ _ _ _ c.key_of_node.ensures.answers c.if-number-ne0.true in record { answers = all.0; place = all.1 }

pub key_start-requires : goal.key_start-requires
unfolding key_outcome
key_start-requires c = (key_has _ _ (has_part _ _ _ _ _ c.key_of_node.ensures.answers c.if-number-ne0.false)).0

pub key_length-requires : goal.key_length-requires
unfolding key_outcome
key_length-requires c = (key_has _ _ (has_part _ _ _ _ _ c.key_of_node.ensures.answers c.if-number-ne0.false)).0

pub returns : goal.returns
unfolding key_outcome
returns c = let all = hands_part _ _ _ _ _ _ _ c.key_of_node.ensures.answers c.if-number-ne0.false c.key_start.ensures c.key_length.ensures in record { answers = all.0; place = all.1 }
