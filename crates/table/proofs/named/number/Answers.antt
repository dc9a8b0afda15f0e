-- Each refusal by its number.
use Rattle.table.specs.Outcomes.{reported}
use borrow.Author.Rules.{rules}
use Rattle.table.proofs.named.number.Goals as goal

pub returns-in-WrongSize : goal.returns-in-WrongSize
unfolding reported
returns-in-WrongSize c = rw c.in-WrongSize.is

pub returns-in-WrongNode : goal.returns-in-WrongNode
unfolding reported
returns-in-WrongNode c = rw c.in-WrongNode.is

pub returns-in-WrongText : goal.returns-in-WrongText
unfolding reported
returns-in-WrongText c = rw c.in-WrongText.is
