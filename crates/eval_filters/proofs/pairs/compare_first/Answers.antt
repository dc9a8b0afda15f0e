-- `compare_first` meets its contract.
use native.Mathlib.Omega.{arith}
use Rattle.eval_filters.specs.Pairs.{first_none, second_none, both_some}
use Rattle.eval_filters.proofs.pairs.compare_first.Goals as goal

pub returns-then-n-eq0 : goal.returns-then-n-eq0
returns-then-n-eq0 c = first_none _ c.if-n-eq0.true

pub returns-then-k-eq0 : goal.returns-then-k-eq0
returns-then-k-eq0 c = second_none _ c.if-k-eq0.true

pub compare_nodes-requires : goal.compare_nodes-requires
compare_nodes-requires c = record { tab = c.requires.tab; first = c.requires.inside (omega (arith, c.if-n-eq0.false)); second = c.requires.beside (omega (arith, c.if-k-eq0.false)) }

pub returns : goal.returns
returns c = both_some _ c.if-n-eq0.false c.if-k-eq0.false _ c.compare_nodes.ensures
