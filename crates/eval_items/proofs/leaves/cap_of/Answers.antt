-- `cap_of` meets its contract: it is `cap_for` in each case.
use mathlib.Core.Path.{sym}
use Rattle.eval_laws.specs.Founds.{cap_other}
use Rattle.eval_items.proofs.leaves.cap_of.Goals as goal

pub returns-then-mode-eq-COUNT : goal.returns-then-mode-eq-COUNT
returns-then-mode-eq-COUNT c = rw c.if-mode-eq-COUNT.true

pub returns-then-mode-eq-VALUE : goal.returns-then-mode-eq-VALUE
returns-then-mode-eq-VALUE c = rw c.if-mode-eq-VALUE.true

pub returns : goal.returns
returns c = sym (cap_other c.args.mode c.if-mode-eq-COUNT.false c.if-mode-eq-VALUE.false)
