-- `leads` meets its contract.
use native.Mathlib.Omega.{arith}
use Rattle.eval_shortcuts.proofs.straight.leads.Goals as goal

pub overflow_add-result : goal.overflow_add-result
overflow_add-result c = omega (arith, c.behind-q.ensures, c.requires.0)
