-- `parser_items::verdicts::value_verdict` meets its contract: the sorts that are no values are two.
--
use mathlib.Core.Path.{refl}
use Rattle.parser_items.proofs.Typing.{sort_by}
use Rattle.compile_writes.specs.Sorts.{value_verdict}
use Rattle.parser_items.proofs.verdicts.value_verdict.Goals as goal

pub returns-then-sort-eq2 : goal.returns-then-sort-eq2
unfolding value_verdict
returns-then-sort-eq2 c = rw c.if-sort-eq2.true

pub returns-then-sort-eq4 : goal.returns-then-sort-eq4
unfolding value_verdict
returns-then-sort-eq4 c = rw c.if-sort-eq4.true

pub returns : goal.returns
unfolding value_verdict
returns c = sort_by value_verdict 0 c.args.sort (λ e. refl) (λ e. refl) (λ e. absurd (c.if-sort-eq2.false e)) (λ e. refl) (λ e. absurd (c.if-sort-eq4.false e)) (λ e. refl)
