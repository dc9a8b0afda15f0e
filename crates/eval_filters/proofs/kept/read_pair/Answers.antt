-- `read_pair` meets its contract.
use Rattle.eval_filters.specs.Keeps.{pair_alone, pair_joined}
use Rattle.eval_filters.proofs.kept.read_pair.Goals as goal

pub returns-then-q-z : goal.returns-then-q-z
returns-then-q-z c = pair_alone (c.read_atom-left.ensures c.if-left-eq0.false) c.if-q-z.true

pub returns : goal.returns
returns c = pair_joined _ (c.read_atom-left.ensures c.if-left-eq0.false) c.read_joined.ensures
