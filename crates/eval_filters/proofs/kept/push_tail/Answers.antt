-- `push_tail` meets its contract: the node itself, or what is found under the name.
use native.Mathlib.Omega.{arith}
use Rattle.eval_filters.specs.Keeps.{tail_named, tail_one, pushed_end, pushed_lost, pushed_name}
use Rattle.eval_filters.proofs.kept.push_tail.Goals as goal

pub returns-then-tail-eq0 : goal.returns-then-tail-eq0
returns-then-tail-eq0 c = pushed_end c.requires.ask_visit _ (c.requires.tail_at.0.ends c.if-tail-eq0.true) _ _ c.push-a.ensures

pub overflow_add-p : goal.overflow_add-p
overflow_add-p c = omega (arith, (tail_named c.requires.tail_at.0 c.requires.tail_at.1 c.if-tail-eq0.false).bound, c.requires.ask_visit.given.few_p)

pub overflow_add-p-2 : goal.overflow_add-p-2
overflow_add-p-2 c = omega (arith, (tail_named c.requires.tail_at.0 c.requires.tail_at.1 c.if-tail-eq0.false).bound, c.requires.ask_visit.given.few_p)

pub word16-start-requires : goal.word16-start-requires
word16-start-requires c = omega (arith, (tail_named c.requires.tail_at.0 c.requires.tail_at.1 c.if-tail-eq0.false).bound, c.requires.ask_visit.given.few_p)

pub overflow_add-p-3 : goal.overflow_add-p-3
overflow_add-p-3 c = omega (arith, (tail_named c.requires.tail_at.0 c.requires.tail_at.1 c.if-tail-eq0.false).bound, c.requires.ask_visit.given.few_p)

pub word16-size-requires : goal.word16-size-requires
word16-size-requires c = omega (arith, (tail_named c.requires.tail_at.0 c.requires.tail_at.1 c.if-tail-eq0.false).bound, c.requires.ask_visit.given.few_p)

pub tail_named-found-requires : goal.tail_named-found-requires
tail_named-found-requires c = record { ask_one = tail_one c.requires.ask_visit (tail_named c.requires.tail_at.0 c.requires.tail_at.1 c.if-tail-eq0.false); start_value = (c.word16-start.ensures.is, c.word16-size.ensures.is) }

pub returns-in_default : goal.returns-in_default
returns-in_default c = pushed_lost c.requires.ask_visit _ (tail_named c.requires.tail_at.0 c.requires.tail_at.1 c.if-tail-eq0.false) _ c.tail_named-found.ensures c.in_default.is

pub overflow_sub-there : goal.overflow_sub-there
overflow_sub-there c = omega (arith, c.tail_named-found.ensures.low _ c.in-Some.is, c.first_child.ensures)

pub push-a-requires-2 : goal.push-a-requires-2
push-a-requires-2 c = record { room = c.requires.ask_visit.room; wide = c.requires.ask_visit.wide; small = c.requires.ask_visit.small; number = omega (arith, c.tail_named-found.ensures.inside _ c.in-Some.is, c.requires.ask_visit.given.tab.size.few) }

pub returns : goal.returns
returns c = pushed_name c.requires.ask_visit _ (tail_named c.requires.tail_at.0 c.requires.tail_at.1 c.if-tail-eq0.false) _ c.tail_named-found.ensures _ c.in-Some.is _ _ c.push-a-2.ensures
