-- `eval_shortcuts::flats::flat_start` meets its contract: a segment of one selector that ends its query is done as that selector, and under a filter that is one test of
-- a member nodes with nothing below their children are passed.
use native.Mathlib.Omega.{arith}
use Rattle.eval_shortcuts.specs.FlatLaws.{below_parts, start_none, start_flats}
use Rattle.eval_shortcuts.specs.FlatTests.{start_skipped}
use Rattle.eval_shortcuts.proofs.flats.flat_start.Goals as goal

pub returns-then-e-i : goal.returns-then-e-i
returns-then-e-i c = start_none c.requires.list.room

pub overflow_add-p : goal.overflow_add-p
overflow_add-p c = let x = below_parts _ _ c.requires.given.few_p _ _ _ _ c.requires.stands in omega (arith, x.bound, c.requires.given.few_p)

pub flat_each-requires : goal.flat_each-requires
flat_each-requires c =
    let y = c.is_plain.ensures.lone c.if-is_plain.true _ _ _ _ c.requires.stands in
    record { given = c.requires.given; range = c.requires.range; plain = record { x = y.x; k = c.requires.k; at = y.at; most = c.is_plain.ensures.most c.if-is_plain.true; whole = c.is_plain.ensures.whole c.if-is_plain.true }; list = c.requires.list }

pub returns-then-is_plain : goal.returns-then-is_plain
returns-then-is_plain c = start_flats c.is_plain.ensures c.if-is_plain.true c.flat_each.ensures

pub returns-then-asks_member : goal.returns-then-asks_member
returns-then-asks_member c = start_skipped c.requires.given c.requires.list.room c.if-e-i.false (c.requires.range c.if-e-i.false) (c.asks_member.ensures c.if-asks_member.true) c.skip_flats.ensures

pub returns : goal.returns
returns c = start_none c.requires.list.room
