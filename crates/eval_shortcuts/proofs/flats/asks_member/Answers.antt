-- `eval_shortcuts::flats::asks_member` meets its contract: each test that it passes says a part.
use native.Mathlib.Omega.{arith}
use Rattle.eval_shortcuts.specs.FlatTests.{not_member, member_parts, member_bound, member_atom, member_of}
use Rattle.eval_shortcuts.proofs.flats.asks_member.Goals as goal

pub overflow_add-pc : goal.overflow_add-pc
overflow_add-pc c = omega (arith, (member_parts c.requires).bound, c.requires.few)

pub word16-requires : goal.word16-requires
word16-requires c = omega (arith, (member_parts c.requires).bound)

pub returns-then-word16-ne1 : goal.returns-then-word16-ne1
returns-then-word16-ne1 c = not_member _ _

pub overflow_add-p : goal.overflow_add-p
overflow_add-p c = omega (arith, (member_parts c.requires).bound, c.requires.few)

pub bounds-plan-p : goal.bounds-plan-p
bounds-plan-p c = (member_parts c.requires).bound

pub returns-then-plan-p-ne-FILTER : goal.returns-then-plan-p-ne-FILTER
returns-then-plan-p-ne-FILTER c = not_member _ _

pub overflow_add-z : goal.overflow_add-z
overflow_add-z c = omega (arith, member_bound c.requires _ c.word16.ensures c.if-word16-ne1.false c.if-plan-p-ne-FILTER.false, c.requires.few)

pub overflow_add-p-2 : goal.overflow_add-p-2
overflow_add-p-2 c = omega (arith, member_bound c.requires _ c.word16.ensures c.if-word16-ne1.false c.if-plan-p-ne-FILTER.false, c.requires.few)

pub word16-requires-2 : goal.word16-requires-2
word16-requires-2 c = omega (arith, member_bound c.requires _ c.word16.ensures c.if-word16-ne1.false c.if-plan-p-ne-FILTER.false)

pub overflow_add-z-2 : goal.overflow_add-z-2
overflow_add-z-2 c = omega (arith, member_bound c.requires _ c.word16.ensures c.if-word16-ne1.false c.if-plan-p-ne-FILTER.false, c.requires.few, c.word16-2.ensures.fits)

pub overflow_add-p-3 : goal.overflow_add-p-3
overflow_add-p-3 c = omega (arith, member_bound c.requires _ c.word16.ensures c.if-word16-ne1.false c.if-plan-p-ne-FILTER.false, c.requires.few)

pub returns-then-z-p : goal.returns-then-z-p
returns-then-z-p c = not_member _ _

pub overflow_add-p-4 : goal.overflow_add-p-4
overflow_add-p-4 c = omega (arith, member_bound c.requires _ c.word16.ensures c.if-word16-ne1.false c.if-plan-p-ne-FILTER.false, c.requires.few)

pub read_atom-t-requires : goal.read_atom-t-requires
read_atom-t-requires c = member_atom c.requires _ c.word16.ensures c.if-word16-ne1.false c.if-plan-p-ne-FILTER.false _ c.word16-2.ensures c.if-z-p.false

pub returns-then-t-eq0 : goal.returns-then-t-eq0
returns-then-t-eq0 c = not_member _ _

pub returns : goal.returns
returns c = member_of c.requires _ c.word16.ensures c.if-word16-ne1.false c.if-plan-p-ne-FILTER.false _ c.word16-2.ensures c.if-z-p.false _ c.read_atom-t.ensures c.if-t-eq0.false
