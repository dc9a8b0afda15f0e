-- `operand` meets its contract.
use mathlib.Core.Path.{sym, ◌∙◌}
use borrow.Author.Tests.{not-false}
use Rattle.eval_filters.specs.Tests.{literal_kind_lem}
use Rattle.eval_filters.specs.Values.{operand_in, value_literal, value_literal_past, literal_operand_lem}
use mathlib.Core.Path.{ap}
use mathlib.Core.Bool.{not}
use Rattle.eval_filters.proofs.values.operand.Goals as goal

pub bounds-plan-q : goal.bounds-plan-q
bounds-plan-q c = operand_in c.requires

pub literal-v-requires : goal.literal-v-requires
literal-v-requires c = let k = literal_kind_lem _ (sym c.is_literal.ensures ∙ not-false _ (ap not c.if-not-is_literal.false)) in value_literal c.requires k.0 k.1

pub past_literal-z-requires : goal.past_literal-z-requires
past_literal-z-requires c = let k = literal_kind_lem _ (sym c.is_literal.ensures ∙ not-false _ (ap not c.if-not-is_literal.false)) in value_literal_past c.requires k.0 k.1

pub returns : goal.returns
returns c = let k = literal_kind_lem _ (sym c.is_literal.ensures ∙ not-false _ (ap not c.if-not-is_literal.false)) in literal_operand_lem c.requires k.0 k.1 _ c.literal-v.ensures _ c.past_literal-z.ensures
