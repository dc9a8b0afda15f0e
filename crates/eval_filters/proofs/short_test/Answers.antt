-- `short_test` meets its contract.
use Rattle.eval_filters.specs.Tests.{literal_kind_lem, short_in, short_query, short_mode, short_tested, short_asked, short_compared}
use Rattle.eval_filters.specs.Pairs.{short_beside, beside_short}
use Rattle.eval_filters.specs.Values.{test_none}
use Rattle.eval_filters.specs.Queries.{begins_in}
use lib.ListN.{get_or}
use borrow.Author.Tests.{not-false}
use native.Mathlib.Omega.{arith}
use mathlib.Core.Path.{refl, sym, ◌∙◌}
use mathlib.Core.Path.{ap}
use mathlib.Core.Bool.{not}
use Rattle.eval_filters.proofs.short_test.Goals as goal

pub bounds-plan-q : goal.bounds-plan-q
bounds-plan-q c = short_in c.requires _ refl

pub plain_nodes-requires : goal.plain_nodes-requires
plain_nodes-requires c = record { given = record { few_p = c.requires.within.few_p; few_l = c.requires.within.few_l; tab = c.requires.within.tab }; node_in = begins_in _ (get_or c.args.plan.now c.args.q 0) _ _ _ c.begins-from.ensures c.requires.within.root_in c.requires.within.node_in; query = short_query c.requires _ refl }

pub count_test-requires : goal.count_test-requires
count_test-requires c = record { ask_short = c.requires; ask_counting = record { begins = c.begins-from.ensures; reach = c.in-Err.ensures } }

pub bounds-plan-z : goal.bounds-plan-z
bounds-plan-z c = (short_mode c.requires _ c.begins-from.ensures _ c.in-Ok.ensures).1

pub overflow_add-result : goal.overflow_add-result
overflow_add-result c = omega (arith, (short_mode c.requires _ c.begins-from.ensures _ c.in-Ok.ensures).1, c.requires.within.few_p)

pub returns-then-mode-eq-TEST : goal.returns-then-mode-eq-TEST
returns-then-mode-eq-TEST c = short_tested c.requires _ c.begins-from.ensures _ c.in-Ok.ensures c.if-mode-eq-TEST.true _ refl

pub beside-requires : goal.beside-requires
beside-requires c = short_beside c.requires _ c.begins-from.ensures _ c.in-Ok.ensures c.if-mode-le-CURRENT.true

pub returns-then-mode-le-CURRENT : goal.returns-then-mode-le-CURRENT
returns-then-mode-le-CURRENT c = beside_short c.requires _ c.begins-from.ensures _ c.in-Ok.ensures c.if-mode-le-CURRENT.true _ c.beside.ensures

pub returns-then-not-is_literal : goal.returns-then-not-is_literal
returns-then-not-is_literal c = test_none refl

pub against-requires : goal.against-requires
against-requires c = let k = literal_kind_lem _ (sym c.is_literal.ensures ∙ not-false _ (ap not c.if-not-is_literal.false)) in short_asked c.requires _ c.begins-from.ensures _ c.in-Ok.ensures k.0 k.1

pub returns : goal.returns
returns c = let k = literal_kind_lem _ (sym c.is_literal.ensures ∙ not-false _ (ap not c.if-not-is_literal.false)) in short_compared c.requires _ c.begins-from.ensures _ c.in-Ok.ensures k.0 k.1 _ c.against.ensures
