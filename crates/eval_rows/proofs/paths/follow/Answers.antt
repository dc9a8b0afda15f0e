-- `paths::follow` meets its contract: each segment is a name or an index, and leads to one node or to none.
use native.Mathlib.Omega.{arith}
use Rattle.eval_rows.specs.Paths.{follow_start, follow_in, follow_one, follow_next, follow_lost, follow_later, follow_again, follow_end}
use Rattle.eval_rows.proofs.paths.follow.Goals as goal

pub loop-q-init : goal.loop-q-init
loop-q-init c = follow_start c.requires.ask_reach c.requires.leads

pub overflow_add-q : goal.overflow_add-q
overflow_add-q c = omega (arith, follow_in c.requires.ask_reach.given c.loop-q.invariant, c.requires.ask_reach.given.few_p)

pub select_one-found-requires : goal.select_one-found-requires
select_one-found-requires c = follow_one c.requires.ask_reach.given c.loop-q.invariant c.loop-q-test.true

pub returns-in_default : goal.returns-in_default
returns-in_default c = follow_lost c.requires.ask_reach.given c.loop-q.invariant c.loop-q-test.true _ c.select_one-found.ensures c.in_default.is

pub overflow_add-q-in-loop-q : goal.overflow_add-q-in-loop-q
overflow_add-q-in-loop-q c = omega (arith, follow_in c.requires.ask_reach.given c.loop-q.invariant, c.requires.ask_reach.given.few_p)

pub next_selector-q-requires : goal.next_selector-q-requires
next_selector-q-requires c = follow_next c.requires.ask_reach.given c.loop-q.invariant c.loop-q-test.true

pub loop-q-smaller : goal.loop-q-smaller
loop-q-smaller c = omega (arith, follow_later c.requires.ask_reach.given c.loop-q.invariant c.loop-q-test.true _ c.next_selector-q.ensures)

pub loop-q-preserved : goal.loop-q-preserved
loop-q-preserved c = follow_again c.requires.ask_reach.given c.loop-q.invariant c.loop-q-test.true _ c.select_one-found.ensures _ c.in-Some.is _ c.next_selector-q.ensures

pub returns : goal.returns
returns c = follow_end c.requires.ask_reach.given c.loop-q.invariant c.loop-q-test.false
