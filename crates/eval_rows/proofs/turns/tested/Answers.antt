-- `turns::tested` meets its contract.
use Rattle.eval_rows.proofs.turns.tested.Goals as goal

pub test_with-requires : goal.test_with-requires
test_with-requires c = c.requires c.in-States.is
