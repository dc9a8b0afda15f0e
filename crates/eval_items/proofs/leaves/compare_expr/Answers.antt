-- `compare_expr` meets its contract: the answer is that of the comparison that stands there.
use native.Mathlib.Omega.{arith}
use mathlib.Core.Path.{refl}
use Rattle.eval_items.specs.OpLaws.{compare_in, done_compare}
use Rattle.eval_items.proofs.leaves.compare_expr.Goals as goal

pub overflow_add-op : goal.overflow_add-op
overflow_add-op c = omega (arith, compare_in c.requires (omega arith) (omega arith))

pub bounds-plan-q : goal.bounds-plan-q
bounds-plan-q c = omega (arith, compare_in c.requires (omega arith) (omega arith))

pub compare_values-b-requires : goal.compare_values-b-requires
compare_values-b-requires c = record { accepted = c.requires.tab; pair = c.requires.pair }

pub overflow_add-z : goal.overflow_add-z
overflow_add-z c = omega (arith, compare_in c.requires (omega arith) (omega arith), c.requires.few_p)

pub returns : goal.returns
returns c = done_compare c.requires (omega arith) (omega arith) _ _ refl c.compare_values-b.ensures
