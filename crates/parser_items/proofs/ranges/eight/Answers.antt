-- `parser_items::ranges::eight` meets its contract: one run of eight bytes.
--
use Rattle.parser_items.proofs.Stores.{eight_put}
use Rattle.parser_items.proofs.ranges.eight.Goals as goal

pub returns : goal.returns
returns c = eight_put c.args.plan.now c.args.st c.args.n c.put64.ensures
