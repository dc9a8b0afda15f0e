-- `regex_states::prepare` meets its contract.
use native.Mathlib.Omega.{arith}
use Rattle.regex_states.proofs.Writes.{weighed, ready_none}
use Rattle.regex_states.proofs.prepare.Goals as goal

pub begin-requires : goal.begin-requires
begin-requires c = let h = c.has_states.ensures c.if-has_states.true in record { fact_1 = (c.requires.0, c.requires.1); fact_2 = h; fact_3 = weighed c.weigh-w.ensures h.few }

pub returns-else-has_states : goal.returns-else-has_states
returns-else-has_states c = ready_none c.args.sets.now (omega (arith, c.requires.1))
