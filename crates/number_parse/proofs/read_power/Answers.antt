-- `number_parse::read_power` meets its contract: some digits, or none.
use Rattle.number_parse.proofs.Exponents.{no_power, power_there}
use Rattle.number_parse.proofs.read_power.Goals as goal

pub returns-then-r-at : goal.returns-then-r-at
returns-then-r-at c = no_power _ _ _ _ _ c.digits-r.ensures c.if-r-at.true

pub returns : goal.returns
returns c = power_there _ _ _ _ _ c.digits-r.ensures c.if-r-at.false
