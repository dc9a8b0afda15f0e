-- `run::place_nodes` meets its contract: what evaluation leaves in the part that it is lent is said of the whole list.
use borrow.Author.Rules.{rules}
use Prim.Native.Nat.{◌-◌}
use native.Mathlib.Omega.{arith}
use lib.ListN.{length, drop, length-drop, length-take}
use Rattle.table_laws.specs.Accepted.{accepted_gives}
use Rattle.run.specs.Tops.{planned_at, places_beyond, places_selected, places_full}
use Rattle.run.proofs.place_nodes.Goals as goal

pub returns-then-list-start : goal.returns-then-list-start
returns-then-list-start c = places_beyond _ _ _ _ _ _ c.if-list-start.true

pub evaluate-n-requires : goal.evaluate-n-requires
evaluate-n-requires c =
    let tab = accepted_gives _ _ c.requires.table in
    let d = length-drop c.args.start c.args.list.now in
    let k = length-take (length c.args.list.now - c.args.start) (drop c.args.start c.args.list.now) in record { begins = record { few_p = c.requires.planned.translates.plan_fits; few_l = c.requires.planned.translates.pool_fits; tab = tab; root_in = tab.size.some_node; node_in = tab.size.some_node; room = omega arith; wide = omega arith; small = omega (arith, c.well_formed.1.1.1.1.0.1) }; ask_segments = record { f = _; k = 0; at = planned_at c.requires.planned.q _ _ c.requires.planned.translates } }

pub returns-then-n-room : goal.returns-then-n-room
returns-then-n-room c = places_selected _ _ _ _ _ _ c.if-list-start.false _ _ c.evaluate-n.ensures c.if-n-room.true

pub returns-else-n-room : goal.returns-else-n-room
returns-else-n-room c = places_full _ _ _ _ _ _ c.if-list-start.false _ _ c.evaluate-n.ensures c.if-n-room.false
