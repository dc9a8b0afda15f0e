-- `slice_at` meets its contract: of a list the walk is its slice's, and of another node no place is left.
use mathlib.Core.Path.{sym, ◌∙◌}
use Rattle.eval_items.specs.SliceLaws.{walk_else, walk_list, ask_count}
use Rattle.eval_items.proofs.leaves.slice_at.Goals as goal

pub returns-then-kind-ne-KIND_LIST : goal.returns-then-kind-ne-KIND_LIST
returns-then-kind-ne-KIND_LIST c = walk_else c.args.plan.now c.args.table.now c.args.p c.args.node (λ z. c.if-kind-ne-KIND_LIST.true (c.kind.ensures ∙ z))

pub slice_of-requires : goal.slice_of-requires
slice_of-requires c = ask_count c.args.plan.now c.args.table.now c.args.p c.args.node c.requires _ c.child_count.ensures

pub returns : goal.returns
returns c = walk_list c.args.plan.now c.args.table.now c.args.p c.args.node c.requires (sym c.kind.ensures ∙ c.if-kind-ne-KIND_LIST.false) _ c.child_count.ensures c.slice_of.result c.slice_of.ensures
