-- `compare_count` meets its contract.
use Rattle.eval_filters.specs.Children.{count_done}
use Rattle.eval_items.specs.LeafLaws.{literal_room, done_integer}
use Rattle.eval_values.specs.declared.Operand.TheVariants.{Int}
use mir.ValLaws.{to_z_pos}
use mir.Syntax.{w64}
use native.Mathlib.Omega.{arith}
use mathlib.Core.Path.{◌∙◌}
use Rattle.number_integers.specs.Signs.{back}
use Rattle.eval_filters.proofs.children.compare_count.Goals as goal

pub bounds-plan-q : goal.bounds-plan-q
bounds-plan-q c = omega (arith, (literal_room c.args.plan.now c.args.pool.now c.args.q c.requires.literal).two_bytes)

pub overflow_add-q : goal.overflow_add-q
overflow_add-q c = omega (arith, (literal_room c.args.plan.now c.args.pool.now c.args.q c.requires.literal).two_bytes)

pub int64-requires : goal.int64-requires
int64-requires c = omega (arith, (literal_room c.args.plan.now c.args.pool.now c.args.q c.requires.literal).of_integer_lem c.if-plan-q-eq-INTEGER.true)

pub returns-then-plan-q-eq-INTEGER : goal.returns-then-plan-q-eq-INTEGER
returns-then-plan-q-eq-INTEGER c = count_done _ _ c.args.table.now c.args.text.now _ _ _ _ _ (to_z_pos w64 _ (omega (arith, c.requires.few))) (Int _) (done_integer c.args.plan.now c.args.pool.now c.args.q c.if-plan-q-eq-INTEGER.true _ (back c.int64.result c.int64.type_inv ∙ c.int64.ensures)) c.compare_ints.ensures

pub compare_values-requires : goal.compare_values-requires
compare_values-requires c = record { accepted = c.requires.tab; pair = record { first = tt; second = (c.literal-y.ensures c.requires.literal.l c.requires.literal.k c.requires.literal.holds c.requires.literal.pool c.requires.literal.right).fine _ _ } }

pub returns : goal.returns
returns c = count_done _ _ c.args.table.now c.args.text.now _ _ _ _ _ (to_z_pos w64 _ (omega (arith, c.requires.few))) _ c.literal-y.ensures c.compare_values.ensures
