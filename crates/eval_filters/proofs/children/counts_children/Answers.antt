-- `counts_children` meets its contract.
use Rattle.eval_filters.specs.Children.{children_none, star_bound, star_next, star_long}
use Rattle.eval_laws.specs.Items.{segments_in}
use borrow.Author.Tests.{eqb-true}
use native.Mathlib.Omega.{arith}
use mathlib.Core.Path.{sym, ◌∙◌}
use Rattle.eval_filters.proofs.children.counts_children.Goals as goal

pub bounds-plan-c : goal.bounds-plan-c
bounds-plan-c c = segments_in _ _ _ _ _ c.requires.query.at

pub returns-then-plan-c-ne-CHILD : goal.returns-then-plan-c-ne-CHILD
returns-then-plan-c-ne-CHILD c = children_none _ _

pub word16-requires : goal.word16-requires
word16-requires c = omega (arith, star_bound _ _ c.requires.few _ _ _ c.requires.query.at c.if-plan-c-ne-CHILD.false)

pub returns-then-word16-ne1 : goal.returns-then-word16-ne1
returns-then-word16-ne1 c = children_none _ _

pub bounds-plan-c-2 : goal.bounds-plan-c-2
bounds-plan-c-2 c = star_bound _ _ c.requires.few _ _ _ c.requires.query.at c.if-plan-c-ne-CHILD.false

pub returns-then-plan-c-ne-WILDCARD : goal.returns-then-plan-c-ne-WILDCARD
returns-then-plan-c-ne-WILDCARD c = children_none _ _

pub bounds-plan-c-3 : goal.bounds-plan-c-3
bounds-plan-c-3 c = star_next _ _ c.requires.few _ _ _ c.requires.query.at c.if-plan-c-ne-CHILD.false (sym c.word16.ensures.is ∙ c.if-word16-ne1.false) c.if-plan-c-ne-WILDCARD.false

pub returns-then-plan-c-ne-END : goal.returns-then-plan-c-ne-END
returns-then-plan-c-ne-END c = children_none _ _

pub bounds-plan-c-4 : goal.bounds-plan-c-4
bounds-plan-c-4 c = omega (arith, c.requires.behind, star_long _ _ c.requires.few _ _ _ c.requires.query.at c.if-plan-c-ne-CHILD.false (sym c.word16.ensures.is ∙ c.if-word16-ne1.false) c.if-plan-c-ne-WILDCARD.false c.if-plan-c-ne-END.false)

pub returns : goal.returns
returns c = record { star = λ e. record { child_is = c.if-plan-c-ne-CHILD.false; alone = sym c.word16.ensures.is ∙ c.if-word16-ne1.false; wildcard_is = c.if-plan-c-ne-WILDCARD.false; end_is = c.if-plan-c-ne-END.false }; count = λ e. eqb-true _ _ e }
