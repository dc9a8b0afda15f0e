-- `text::brackets::either` meets its contract.
use borrow.Author.Tests.{eq-eqb, ne_eqb}
use Rattle.text.proofs.brackets.either.Goals as goal

pub returns-then-b-x : goal.returns-then-b-x
returns-then-b-x c = rw (eq-eqb c.args.b c.args.x c.if-b-x.true)

pub returns : goal.returns
returns c = rw (ne_eqb c.args.b c.args.x c.if-b-x.false)
