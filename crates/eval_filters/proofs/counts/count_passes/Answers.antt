-- `count_passes` meets its contract: the number of children and the integer, by the operator.
use mathlib.Core.Path.{refl, ◌∙◌}
use mir.ValLaws.{to_z_pos}
use mir.Syntax.{w64}
use Rattle.eval_filters.specs.Keeps.{count_bound, count_small, count_ints}
use native.Mathlib.Omega.{arith}
use Rattle.number_integers.specs.Signs.{back}
use Rattle.eval_filters.proofs.counts.count_passes.Goals as goal

pub child_count-n-requires : goal.child_count-n-requires
child_count-n-requires c = c.requires.within.node_in

pub int64-b-requires : goal.int64-b-requires
int64-b-requires c = omega (arith, count_bound c.requires.within c.requires.ask_test c.requires.counts_at _ c.child_count-n.ensures)

pub returns : goal.returns
returns c = count_ints c.requires.within c.requires.ask_test c.requires.counts_at _ c.child_count-n.ensures _ refl _ _ (to_z_pos w64 _ (omega (arith, count_small c.requires.within c.requires.ask_test c.requires.counts_at _ c.child_count-n.ensures))) (back c.int64-b.result c.int64-b.type_inv ∙ c.int64-b.ensures) _ c.compare_ints.ensures
