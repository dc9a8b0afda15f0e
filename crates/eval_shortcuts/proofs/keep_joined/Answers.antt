-- `keep_joined` meets its contract: nothing is done, or the nodes of which the filter tells by itself are.
use mathlib.Core.Path.{refl}
use native.Mathlib.Omega.{arith}
use Rattle.eval_filters.specs.Keeps.{test_code}
use Rattle.eval_asks.specs.Steady.{steady_refl, steady_wrote}
use Rattle.eval_shortcuts.specs.Rows.{rows_none, rows_call, rows_tail, rows_filter, rows_left, rows_all}
use Rattle.eval_shortcuts.proofs.keep_joined.Goals as goal

pub overflow_add-i : goal.overflow_add-i
overflow_add-i c = omega (arith, c.requires.ask_rows.near)

pub returns-then-e-i : goal.returns-then-e-i
returns-then-e-i c = record { steady = steady_refl _ _; done_rows = rows_none c.requires.asked }

pub way_of-requires : goal.way_of-requires
way_of-requires c = (test_code c.requires.asked.given.few_p c.requires.ask_rows.test, rows_call c.requires.asked c.requires.ask_rows)

pub returns-in_default : goal.returns-in_default
returns-in_default c = record { steady = steady_refl _ _; done_rows = rows_none c.requires.asked }

pub tail_of-tail-requires : goal.tail_of-tail-requires
tail_of-tail-requires c = rows_tail c.requires.asked c.requires.ask_rows

pub returns-then-tail-gt1 : goal.returns-then-tail-gt1
returns-then-tail-gt1 c = record { steady = steady_refl _ _; done_rows = rows_none c.requires.asked }

pub keep-v-requires : goal.keep-v-requires
keep-v-requires c = (rows_filter c.requires.asked c.requires.ask_rows c.tail_of-tail.ensures c.if-tail-gt1.false, c.in-Some.ensures)

pub returns-in-Some-q : goal.returns-in-Some-q
returns-in-Some-q c = record { steady = steady_wrote _ _ _ _ c.keep-v.auto.list refl; done_rows = rows_left c.requires.asked c.requires.ask_rows c.keep-v.ensures c.in-Some-q.is }

pub returns-in-None : goal.returns-in-None
returns-in-None c = record { steady = steady_wrote _ _ _ _ c.keep-v.auto.list refl; done_rows = rows_all c.requires.asked c.requires.ask_rows c.keep-v.ensures (omega (arith, c.if-e-i.false)) c.in-None.is }
