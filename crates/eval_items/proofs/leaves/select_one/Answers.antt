-- `select_one` meets its contract: kind 5 is a name, and kind 6 an index.
use native.Mathlib.Omega.{arith}
use Rattle.eval_laws.specs.Items.{selector_in}
use Rattle.eval_items.proofs.leaves.select_one.Goals as goal

pub bounds-plan-p : goal.bounds-plan-p
bounds-plan-p c = omega (arith, (selector_in c.args.plan.now c.args.pool.now c.args.p c.requires.k c.requires.x c.requires.at))

pub by_name-requires : goal.by_name-requires
by_name-requires c = record { few_p = c.requires.few_p; few_l = c.requires.few_l; tab = c.requires.tab; node_in = c.requires.node_in; x = c.requires.x; k = c.requires.k; at = c.requires.at; kind_low = omega (arith, c.if-plan-p-eq-NAME.true); kind_high = omega (arith, c.if-plan-p-eq-NAME.true) }

pub returns-then-plan-p-eq-NAME : goal.returns-then-plan-p-eq-NAME
returns-then-plan-p-eq-NAME c = c.by_name.ensures

pub get_by_index-requires : goal.get_by_index-requires
get_by_index-requires c = record { few_p = c.requires.few_p; few_l = c.requires.few_l; tab = c.requires.tab; node_in = c.requires.node_in; x = c.requires.x; k = c.requires.k; at = c.requires.at; kind_low = omega (arith, c.if-plan-p-eq-NAME.false, c.requires.kind_low, c.requires.kind_high); kind_high = c.requires.kind_high }

pub returns : goal.returns
returns c = c.get_by_index.ensures
