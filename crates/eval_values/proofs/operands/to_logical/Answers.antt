use native.Mathlib.Omega.{arith}
use Prim.Native.Nat.{ℕ}
use Rattle.eval_values.proofs.Signs.{zero_bits}
use mathlib.Core.Path.{sym, ap, ◌∙◌, subst}
use mathlib.Core.Bool.{not}
use lib.Dec.{eqb}
use Rattle.eval_values.specs.Means.{Inside, truth_in}
use Rattle.eval_values.proofs.operands.to_logical.Goals as goal

-- src/operands.rt:146:30
pub is_nonzero-requires : goal.is_nonzero-requires
is_nonzero-requires c = subst (Inside c.args.table.now) c.in-Float.is c.requires

-- src/operands.rt:149:29
pub child_count-requires : goal.child_count-requires
child_count-requires c = subst (Inside c.args.table.now) c.in-Node.is c.requires

-- src/operands.rt:137:1
pub returns-in-Int : goal.returns-in-Int
returns-in-Int c = zero_bits c.in-Int.z (omega arith) ∙ ap (truth_in c.args.table.now) (sym c.in-Int.is)

-- src/operands.rt:137:1
pub returns-in-Float : goal.returns-in-Float
returns-in-Float c = c.is_nonzero.ensures ∙ ap (truth_in c.args.table.now) (sym c.in-Float.is)

-- src/operands.rt:137:1
pub returns-in-Pool : goal.returns-in-Pool
returns-in-Pool c = ap (truth_in c.args.table.now) (sym c.in-Pool.is)

-- src/operands.rt:137:1
pub returns-in-Text : goal.returns-in-Text
returns-in-Text c = ap (truth_in c.args.table.now) (sym c.in-Text.is)

-- src/operands.rt:137:1
pub returns-in-Node : goal.returns-in-Node
returns-in-Node c = ap (λ (n : ℕ). not (eqb n 0)) c.child_count.ensures ∙ ap (truth_in c.args.table.now) (sym c.in-Node.is)
