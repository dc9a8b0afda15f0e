-- The texts and keys of all nodes before the one that is looked at are right.
use native.Mathlib.Omega.{arith}
use borrow.Author.Tests.{not-true, not-false}
use mathlib.Core.Path.{sym, ap, ◌∙◌}
use mathlib.Core.Option.{Option}
use Prim.Native.Nat.{ℕ, ◌-◌}
use Rattle.definition.specs.Tables.{node_count, text_right, by_text}
use Rattle.definition.specs.TableOutcomes.{report_table}
use Rattle.table_laws.specs.Failing.{below_more, least_found, none_fails}
use Rattle.table.specs.Outcomes.{reported}
use Rattle.table.specs.Words.{TextsBelow}
use borrow.Author.Rules.{rules}
use mathlib.Core.Bool.{not}
use Rattle.table.proofs.texts.over_texts.Goals as goal

pub text_right-requires : goal.text_right-requires
text_right-requires c = (omega arith, c.loop-node.invariant)

pub returns-then-not-text_right : goal.returns-then-not-text_right
unfolding reported report_table by_text
returns-then-not-text_right c = sym (ap (λ (o : Option ℕ). report_table (by_text o)) (least_found (text_right c.args.table.now c.args.text.now) c.loop-node.node (node_count c.args.table.now) c.loop-node.invariant (sym c.text_right.ensures ∙ not-true _ (ap not c.if-not-text_right.true)) (omega arith)))

pub loop-node-preserved : goal.loop-node-preserved
loop-node-preserved c = λ k m. below_more (text_right c.args.table.now c.args.text.now) c.loop-node.node c.loop-node.invariant (sym c.text_right.ensures ∙ not-false _ (ap not c.if-not-text_right.false)) k (omega arith)

pub returns : goal.returns
unfolding reported report_table by_text
returns c = sym (ap (λ (o : Option ℕ). report_table (by_text o)) (none_fails (text_right c.args.table.now c.args.text.now) (node_count c.args.table.now) (λ k m. c.loop-node.invariant k (omega arith))))
