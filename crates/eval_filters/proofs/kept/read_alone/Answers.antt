-- `read_alone` meets its contract.
use Rattle.eval_filters.proofs.kept.read_alone.Goals as goal

pub returns-in-Some : goal.returns-in-Some
returns-in-Some c = (c.in-Some.ensures, c.requires.rest_value)
