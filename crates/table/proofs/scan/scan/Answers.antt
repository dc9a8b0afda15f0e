-- The root first, and then the nodes behind it.
use native.Mathlib.Omega.{arith}
use borrow.Author.Tests.{not-true, not-false}
use mathlib.Core.Path.{refl, sym, ◌∙◌, ap}
use Rattle.definition.specs.Tables.{node_count}
use Rattle.table_laws.specs.Least.{least_wrong_lem}
use Rattle.table.specs.Outcomes.{found}
use Rattle.table.proofs.Cursor.{root_first, root_cursor, root_below}
use borrow.Author.Rules.{rules}
use mathlib.Core.Bool.{not}
use Rattle.table.proofs.scan.scan.Goals as goal

pub returns-then-not-root_right : goal.returns-then-not-root_right
unfolding found
returns-then-not-root_right c =
    let w = sym c.root_right.ensures ∙ not-true _ (ap not c.if-not-root_right.true) in
    sym (least_wrong_lem c.args.table.now c.args.text.now 0 (node_count c.args.table.now) (λ k l. absurd (omega arith)) w c.requires.0)

pub front-from-requires : goal.front-from-requires
front-from-requires c =
    let r = sym c.root_right.ensures ∙ not-false _ (ap not c.if-not-root_right.false) in
    record { end_value = (root_first c.args.table.now c.child_count.result c.child_count.ensures, c.kind-kind.ensures); table_nonzero = (c.requires.0, root_below c.args.table.now c.args.text.now r); known = c.short_known-known.ensures }

pub with_few-requires : goal.with_few-requires
with_few-requires c = record { start_value = (root_first c.args.table.now c.child_count.result c.child_count.ensures, root_cursor c.args.table.now c.child_count.result c.kind-kind.result c.depth-depth.result c.child_count.ensures c.kind-kind.ensures c.depth-depth.ensures, refl); table_nonzero = (c.requires.0, c.requires.1, c.front-from.ensures); table_bound = c.if-table-le-FEW_NODES.true; known = c.short_known-known.ensures }

pub with_chains-requires : goal.with_chains-requires
with_chains-requires c = record { start_value = (root_first c.args.table.now c.child_count.result c.child_count.ensures, root_cursor c.args.table.now c.child_count.result c.kind-kind.result c.depth-depth.result c.child_count.ensures c.kind-kind.ensures c.depth-depth.ensures, refl); table_nonzero = (c.requires.0, c.requires.1, c.front-from.ensures); known = record { ascii = λ z. absurd (omega arith); utf8 = λ _. c.short_known-known.ensures.utf8 c.if-known-eq-KNOWN_UTF8.true } }

pub with_chains-requires-2 : goal.with_chains-requires-2
with_chains-requires-2 c = record { start_value = (root_first c.args.table.now c.child_count.result c.child_count.ensures, root_cursor c.args.table.now c.child_count.result c.kind-kind.result c.depth-depth.result c.child_count.ensures c.kind-kind.ensures c.depth-depth.ensures, refl); table_nonzero = (c.requires.0, c.requires.1, c.front-from.ensures); known = c.short_known-known.ensures }
