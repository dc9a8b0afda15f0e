-- `right_operand` meets its contract: the right side is entered or skipped, as the left side and the kind say.
use mathlib.Core.Path.{refl, sym, ◌∙◌}
use mathlib.Core.Bool.{true, false, true≢false, false≢true}
use native.Mathlib.Omega.{arith}
use Rattle.eval_items.specs.OpLaws.{right_in, told_and, told_or, enter, skip}
use Rattle.eval_items.proofs.leaves.right_operand.Goals as goal

pub overflow_add-inside : goal.overflow_add-inside
overflow_add-inside c = omega (arith, right_in c.requires (omega arith) (omega arith), c.requires.few_p)

pub past_sized-behind-requires : goal.past_sized-behind-requires
past_sized-behind-requires c = omega (arith, right_in c.requires (omega arith) (omega arith), c.requires.few_p)

pub bounds-plan-q : goal.bounds-plan-q
bounds-plan-q c = omega (arith, right_in c.requires (omega arith) (omega arith), c.requires.few_p)

pub returns-then-acc : goal.returns-then-acc
returns-then-acc c = enter c.requires (omega arith) (omega arith) true (told_and c.if-plan-q-eq-AND.true) c.if-acc.true

pub returns-then-plan-q-eq-AND : goal.returns-then-plan-q-eq-AND
returns-then-plan-q-eq-AND c = rw c.past_sized-behind.ensures (skip c.requires (omega arith) (omega arith) true (told_and c.if-plan-q-eq-AND.true) (λ z. false≢true (sym c.if-acc.false ∙ z)) _ refl)

pub returns-then-acc-2 : goal.returns-then-acc-2
returns-then-acc-2 c = rw c.past_sized-behind.ensures (skip c.requires (omega arith) (omega arith) false (told_or c.if-plan-q-eq-AND.false) (λ z. true≢false (sym c.if-acc-2.true ∙ z)) _ refl)

pub returns : goal.returns
returns c = enter c.requires (omega arith) (omega arith) false (told_or c.if-plan-q-eq-AND.false) c.if-acc-2.false
