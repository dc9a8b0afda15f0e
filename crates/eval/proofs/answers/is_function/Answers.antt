-- `eval::answers::is_function` meets its contract.
use borrow.Author.Tests.{eq-eqb, ne_eqb}
use Rattle.eval.proofs.answers.is_function.Goals as goal

pub returns-then-mode-eq-COUNT : goal.returns-then-mode-eq-COUNT
returns-then-mode-eq-COUNT c = rw (eq-eqb c.args.mode 0x19 c.if-mode-eq-COUNT.true)

pub returns : goal.returns
returns c = rw (ne_eqb c.args.mode 0x19 c.if-mode-eq-COUNT.false)
