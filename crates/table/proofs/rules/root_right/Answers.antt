-- The root is wrong by its head, by bytes 16-23, by its parent, by its depth or by its key.
use native.Mathlib.Omega.{arith}
use borrow.Author.Tests.{not-true, not-false}
use mathlib.Core.Path.{sym, ◌∙◌}
use Rattle.table_laws.specs.Counts.{counts_root}
use Rattle.table_laws.specs.Rights.{wrong_head, wrong_payload, wrong_place, right_by_place, root_number, root_depth, root_key}
use borrow.Author.Rules.{rules}
use mathlib.Core.Path.{ap}
use mathlib.Core.Bool.{not}
use Rattle.table.proofs.rules.root_right.Goals as goal

pub returns-then-not-head_right : goal.returns-then-not-head_right
returns-then-not-head_right c = sym (wrong_head c.args.table.now c.args.text.now 0 (sym c.head_right.ensures ∙ not-true _ (ap not c.if-not-head_right.true)))

pub payload_right-requires : goal.payload_right-requires
payload_right-requires c = record { node_bound = omega (arith, counts_root c.args.table.now); known = record { ascii = λ e. absurd (omega arith); utf8 = λ e. absurd (omega arith) } }

pub returns-then-not-payload_right : goal.returns-then-not-payload_right
returns-then-not-payload_right c = sym (wrong_payload c.args.table.now c.args.text.now 0 (sym c.payload_right.ensures ∙ not-true _ (ap not c.if-not-payload_right.true)))

pub returns-then-parent-ne0 : goal.returns-then-parent-ne0
returns-then-parent-ne0 c = sym (wrong_place c.args.table.now c.args.text.now 0 (root_number c.args.table.now c.args.text.now (omega arith)))

pub returns-then-depth-ne0 : goal.returns-then-depth-ne0
returns-then-depth-ne0 c = sym (wrong_place c.args.table.now c.args.text.now 0 (root_depth c.args.table.now c.args.text.now (omega arith)))

pub returns : goal.returns
returns c =
    c.no_key.ensures
    ∙ sym (right_by_place c.args.table.now c.args.text.now 0 (sym c.head_right.ensures ∙ not-false _ (ap not c.if-not-head_right.false)) (sym c.payload_right.ensures ∙ not-false _ (ap not c.if-not-payload_right.false)) ∙ root_key c.args.table.now c.args.text.now (omega arith) (omega arith))
