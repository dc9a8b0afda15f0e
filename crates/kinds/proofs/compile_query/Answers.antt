-- The rooms are as large as every query may need: so demands says.
use Rattle.promises_stated.proofs.Demands.{rooms_for_all}
use Rattle.kinds.proofs.compile_query.Goals as goal

pub returns : goal.returns
returns c = rooms_for_all (record { is = c.compile.ensures.answers; only = c.compile.ensures.only }) c.requires.0 c.requires.1
