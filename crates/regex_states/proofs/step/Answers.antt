-- `regex_states::step` meets its contract.
use native.Mathlib.Omega.{arith}
use Rattle.regex_states.proofs.Tables.{stepped_beyond}
use Rattle.regex_states.proofs.step.Goals as goal

pub overflow_mul-k : goal.overflow_mul-k
overflow_mul-k c = omega (arith, c.requires.fact_1.sets, c.requires.fact_2.1)

pub overflow_add-k : goal.overflow_add-k
overflow_add-k c = omega (arith, c.requires.fact_1.sets, c.requires.fact_2.1)

pub bounds-sets-k : goal.bounds-sets-k
bounds-sets-k c = omega (arith, c.requires.fact_1.sets, c.requires.fact_2.1)

pub returns-then-t-gt0 : goal.returns-then-t-gt0
returns-then-t-gt0 c = stepped_beyond c.requires.fact_1 c.requires.fact_2.0 c.requires.fact_2.1 c.requires.fact_2.2 c.if-c-ge128.true c.from-t.ensures c.if-t-gt0.true

pub learn-requires : goal.learn-requires
learn-requires c = record { fact_1 = c.requires.fact_1; fact_2 = c.requires.fact_2 }

pub returns : goal.returns
returns c = c.learn.ensures
