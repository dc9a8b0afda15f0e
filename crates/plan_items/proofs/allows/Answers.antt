-- `plan_items::allows` meets its contract.
use Rattle.plan_items.proofs.Called.{allows_length, allows_other}
use mathlib.Core.Path.{sym}
use Rattle.plan_items.proofs.allows.Goals as goal

pub returns-then-k-eq-LENGTH : goal.returns-then-k-eq-LENGTH
returns-then-k-eq-LENGTH c = sym (allows_length c.args.sort c.args.k c.if-k-eq-LENGTH.true)

pub returns : goal.returns
returns c = sym (allows_other c.args.sort c.args.k c.if-k-eq-LENGTH.false)
