-- `eval_shortcuts::flats::push_selected` meets its contract: a wildcard selects the children, and a name or an index one node or none.
use native.Mathlib.Omega.{arith}
use Rattle.eval_laws.specs.Items.{selector_in}
use Rattle.eval_laws.specs.Ranges.{range_of_lem, range_in}
use Rattle.eval_shortcuts.specs.FlatLaws.{selected_one, selected_absent, selected_found, selected_none, selected_all}
use Rattle.eval_shortcuts.proofs.flats.push_selected.Goals as goal

pub bounds-plan-p : goal.bounds-plan-p
bounds-plan-p c = selector_in _ _ _ c.requires.plain.k c.requires.plain.x c.requires.plain.at

pub returns-then-n-eq0 : goal.returns-then-n-eq0
returns-then-n-eq0 c = selected_none c.requires _ 0 _ (record { count = c.child_count-n.ensures; first = λ u. absurd (omega (arith, c.if-n-eq0.true)) }) c.if-plan-p-eq-WILDCARD.true c.if-n-eq0.true

pub push_each-a-requires : goal.push_each-a-requires
push_each-a-requires c =
    let w = range_in _ _ c.requires.given.tab _ c.requires.node_in _ _ (range_of_lem _ _ c.requires.given.tab _ c.requires.node_in _ _ c.first_child-i.ensures c.child_count-n.ensures) (omega arith) in
    record { room = c.requires.list.room; wide = c.requires.list.wide; small = c.requires.list.small; few = omega (arith, c.requires.given.tab.size.few) }

pub returns-then-plan-p-eq-WILDCARD : goal.returns-then-plan-p-eq-WILDCARD
returns-then-plan-p-eq-WILDCARD c = selected_all c.requires _ _ _ (range_of_lem _ _ c.requires.given.tab _ c.requires.node_in _ _ c.first_child-i.ensures c.child_count-n.ensures) c.if-plan-p-eq-WILDCARD.true _ _ c.push_each-a.ensures

pub select_near-found-requires : goal.select_near-found-requires
select_near-found-requires c = selected_one c.requires c.args.list.now c.if-plan-p-eq-WILDCARD.false

pub returns-in_default : goal.returns-in_default
returns-in_default c = selected_absent c.requires _ _ c.select_near-found.ensures c.in_default.is

pub overflow_sub-there : goal.overflow_sub-there
overflow_sub-there c = omega (arith, c.select_near-found.ensures.low _ c.in-Some.is, c.first_child.ensures)

pub push-a-requires : goal.push-a-requires
push-a-requires c = record { room = c.requires.list.room; wide = c.requires.list.wide; small = c.requires.list.small; number = omega (arith, c.select_near-found.ensures.inside _ c.in-Some.is, c.requires.given.tab.size.few) }

pub returns : goal.returns
returns c = selected_found c.requires _ _ _ c.select_near-found.ensures c.in-Some.is _ _ c.push-a.ensures
