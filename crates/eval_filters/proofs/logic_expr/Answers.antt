-- `logic_expr` meets its contract, by a law for each way.
use Rattle.eval_filters.specs.Tests.{logic_in, logic_not, logic_right, logic_and_enter, logic_and_skip, logic_or_skip, logic_or_enter}
use native.Mathlib.Omega.{arith}
use mathlib.Core.Path.{refl}
use Rattle.eval_filters.proofs.logic_expr.Goals as goal

pub bounds-plan-q : goal.bounds-plan-q
bounds-plan-q c = logic_in c.requires

pub overflow_add-result : goal.overflow_add-result
overflow_add-result c = omega (arith, logic_in c.requires, c.requires.few)

pub returns-then-k-eq-NOT : goal.returns-then-k-eq-NOT
returns-then-k-eq-NOT c = logic_not c.requires c.if-k-eq-NOT.true

pub overflow_add-inside : goal.overflow_add-inside
overflow_add-inside c = omega (arith, logic_in c.requires, c.requires.few)

pub past_sized-behind-requires : goal.past_sized-behind-requires
past_sized-behind-requires c = omega (arith, logic_right c.requires c.if-k-eq-NOT.false)

pub returns-then-acc : goal.returns-then-acc
returns-then-acc c = logic_and_enter c.requires c.if-k-eq-NOT.false c.if-k-eq-AND.true c.if-acc.true

pub returns-then-k-eq-AND : goal.returns-then-k-eq-AND
returns-then-k-eq-AND c = rw c.past_sized-behind.ensures (logic_and_skip c.requires c.if-k-eq-NOT.false c.if-k-eq-AND.true c.if-acc.false _ refl)

pub returns-then-acc-2 : goal.returns-then-acc-2
returns-then-acc-2 c = rw c.past_sized-behind.ensures (logic_or_skip c.requires c.if-k-eq-NOT.false c.if-k-eq-AND.false c.if-acc-2.true _ refl)

pub returns : goal.returns
returns c = logic_or_enter c.requires c.if-k-eq-NOT.false c.if-k-eq-AND.false c.if-acc-2.false
