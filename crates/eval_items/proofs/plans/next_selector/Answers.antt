-- `next_selector` meets its contract: each kind of selector has its length.
use mathlib.Core.Path.{refl, ◌∙◌}
use native.Mathlib.Omega.{arith}
use Rattle.eval_items.specs.EndLaws.{filter_ends, next_name, next_index, next_slice, next_wildcard, next_filter, selector_end}
use Rattle.eval_items.proofs.plans.next_selector.Goals as goal

pub bounds-plan-p : goal.bounds-plan-p
bounds-plan-p c = omega (arith, (selector_end c.args.plan.now c.args.p c.requires.k c.requires.s c.requires.holds).0)

pub overflow_add-result : goal.overflow_add-result
overflow_add-result c = omega (arith, c.requires.few, (selector_end c.args.plan.now c.args.p c.requires.k c.requires.s c.requires.holds).0)

pub returns-then-k-eq-NAME : goal.returns-then-k-eq-NAME
returns-then-k-eq-NAME c = next_name c.args.plan.now c.requires.few c.args.p c.if-k-eq-NAME.true

pub overflow_add-result-then-k-eq-INDEX : goal.overflow_add-result-then-k-eq-INDEX
overflow_add-result-then-k-eq-INDEX c = omega (arith, c.requires.few, (selector_end c.args.plan.now c.args.p c.requires.k c.requires.s c.requires.holds).0)

pub returns-then-k-eq-INDEX : goal.returns-then-k-eq-INDEX
returns-then-k-eq-INDEX c = next_index c.args.plan.now c.requires.few c.args.p c.if-k-eq-INDEX.true

pub overflow_add-result-then-k-eq-SLICE : goal.overflow_add-result-then-k-eq-SLICE
overflow_add-result-then-k-eq-SLICE c = omega (arith, c.requires.few, (selector_end c.args.plan.now c.args.p c.requires.k c.requires.s c.requires.holds).0)

pub returns-then-k-eq-SLICE : goal.returns-then-k-eq-SLICE
returns-then-k-eq-SLICE c = next_slice c.args.plan.now c.requires.few c.args.p c.if-k-eq-SLICE.true

pub overflow_add-result-then-k-eq-WILDCARD : goal.overflow_add-result-then-k-eq-WILDCARD
overflow_add-result-then-k-eq-WILDCARD c = omega (arith, c.requires.few, (selector_end c.args.plan.now c.args.p c.requires.k c.requires.s c.requires.holds).0)

pub returns-then-k-eq-WILDCARD : goal.returns-then-k-eq-WILDCARD
returns-then-k-eq-WILDCARD c = next_wildcard c.args.plan.now c.requires.few c.args.p c.if-k-eq-WILDCARD.true

pub past_sized-requires : goal.past_sized-requires
past_sized-requires c = omega (arith, (filter_ends c.args.plan.now c.requires.few c.args.p c.requires.s c.requires.k c.requires.holds c.if-k-eq-NAME.false c.if-k-eq-INDEX.false c.if-k-eq-SLICE.false c.if-k-eq-WILDCARD.false).0)

pub returns : goal.returns
returns c = λ s' k h. c.past_sized.ensures ∙ next_filter c.args.plan.now c.requires.few c.args.p c.if-k-eq-NAME.false c.if-k-eq-INDEX.false c.if-k-eq-SLICE.false c.if-k-eq-WILDCARD.false _ refl s' k h
