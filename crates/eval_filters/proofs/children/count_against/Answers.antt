-- `count_against` meets its contract.
use Rattle.eval_filters.specs.Tests.{literal_kind_lem}
use Rattle.eval_filters.specs.Children.{counted_none, counted_in, counted_value, counted_past, counted_behind, counted_operator, counted_done}
use borrow.Author.Tests.{not-false}
use native.Mathlib.Omega.{arith}
use mathlib.Core.Path.{sym, ◌∙◌}
use mathlib.Core.Path.{ap}
use mathlib.Core.Bool.{not}
use Rattle.eval_filters.proofs.children.count_against.Goals as goal

pub returns-then-e-z : goal.returns-then-e-z
returns-then-e-z c = counted_none _ _ _ _ _ _

pub bounds-plan-z : goal.bounds-plan-z
bounds-plan-z c = counted_in c.requires c.if-e-z.false

pub returns-then-not-is_literal : goal.returns-then-not-is_literal
returns-then-not-is_literal c = counted_none _ _ _ _ _ _

pub past_literal-w-requires : goal.past_literal-w-requires
past_literal-w-requires c = let k = literal_kind_lem _ (sym c.is_literal.ensures ∙ not-false _ (ap not c.if-not-is_literal.false)) in counted_past c.requires c.if-e-z.false k.0 k.1

pub returns-then-e-w : goal.returns-then-e-w
returns-then-e-w c = counted_none _ _ _ _ _ _

pub bounds-plan-w : goal.bounds-plan-w
bounds-plan-w c = let k = literal_kind_lem _ (sym c.is_literal.ensures ∙ not-false _ (ap not c.if-not-is_literal.false)) in counted_behind c.requires c.if-e-z.false k.0 k.1 _ c.past_literal-w.ensures c.if-e-w.false

pub returns-then-plan-w-ne-COMPARE : goal.returns-then-plan-w-ne-COMPARE
returns-then-plan-w-ne-COMPARE c = counted_none _ _ _ _ _ _

pub bounds-plan-w-2 : goal.bounds-plan-w-2
bounds-plan-w-2 c = let k = literal_kind_lem _ (sym c.is_literal.ensures ∙ not-false _ (ap not c.if-not-is_literal.false)) in counted_operator c.requires c.if-e-z.false k.0 k.1 _ c.past_literal-w.ensures c.if-e-w.false c.if-plan-w-ne-COMPARE.false

pub compare_count-b-requires : goal.compare_count-b-requires
compare_count-b-requires c = let k = literal_kind_lem _ (sym c.is_literal.ensures ∙ not-false _ (ap not c.if-not-is_literal.false)) in record { tab = c.requires.tab; few = c.requires.few; literal = counted_value c.requires c.if-e-z.false k.0 k.1 }

pub overflow_add-result : goal.overflow_add-result
overflow_add-result c = let k = literal_kind_lem _ (sym c.is_literal.ensures ∙ not-false _ (ap not c.if-not-is_literal.false)) in omega (arith, counted_behind c.requires c.if-e-z.false k.0 k.1 _ c.past_literal-w.ensures c.if-e-w.false, c.requires.few_p)

pub returns : goal.returns
returns c = let k = literal_kind_lem _ (sym c.is_literal.ensures ∙ not-false _ (ap not c.if-not-is_literal.false)) in counted_done c.requires c.if-e-z.false k.0 k.1 _ c.past_literal-w.ensures c.if-e-w.false c.if-plan-w-ne-COMPARE.false _ c.compare_count-b.ensures
