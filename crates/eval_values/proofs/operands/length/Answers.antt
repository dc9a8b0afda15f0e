-- `eval_values::operands::length` meets its contract: a text by its scalar values, a list or a map by its children.
use mathlib.Core.Path.{sym, ap, ◌∙◌, subst}
use Rattle.eval_values.specs.Means.{Inside, Parts, length_in}
use Rattle.eval_values.proofs.operands.length.Goals as goal

pub count_scalars-requires : goal.count_scalars-requires
count_scalars-requires c = subst (Parts c.args.text.now c.args.pool.now) c.in-Pool.is c.requires.1

pub count_scalars-requires-in-Text : goal.count_scalars-requires-in-Text
count_scalars-requires-in-Text c = subst (Parts c.args.text.now c.args.pool.now) c.in-Text.is c.requires.1

pub child_count-requires : goal.child_count-requires
child_count-requires c = subst (Inside c.args.table.now) c.in-Node.is c.requires.0

pub returns-in-Pool : goal.returns-in-Pool
returns-in-Pool c = c.count_scalars.ensures ∙ ap (length_in c.args.table.now c.args.text.now c.args.pool.now) (sym c.in-Pool.is)

pub returns-in-Text : goal.returns-in-Text
returns-in-Text c = c.count_scalars-in-Text.ensures ∙ ap (length_in c.args.table.now c.args.text.now c.args.pool.now) (sym c.in-Text.is)

pub returns-in-Node : goal.returns-in-Node
returns-in-Node c = c.child_count.ensures ∙ ap (length_in c.args.table.now c.args.text.now c.args.pool.now) (sym c.in-Node.is)
